-- What lies in a cell fits the cell: it is of the kind that the cell's number says, and satisfies what such a part does by
-- itself.
use Rattle.std.specs.Prelude.{◌≡◌, ℕ, ◌-◌, ◌<◌, ◌≤◌}
use Rattle.vfm_types.specs.declared.desc.Desc.{Desc}
use Rattle.vfm_types.specs.Desc.{device_count}
use Rattle.vfm_parts.specs.Parts.{World}
use Rattle.vfm_parts.specs.Fits.{DevFits, LeadFits, PageFits}
use Rattle.vfm_cells.specs.Cells.{Cell, lead_cell, device_cell, page_cell, cell_at, cell_count}

abbrev pub CellFits : Desc → ℕ → Cell → Type 0
CellFits D c (lead_cell lead) = (c ≡ 0) × LeadFits D lead
CellFits D c (device_cell dev) = (0 < c) × (c ≤ device_count D) × DevFits D (c - 1) dev
CellFits D c (page_cell bytes) = (device_count D < c) × PageFits D bytes

-- what lies in each cell does
abbrev pub CellsFit : Desc → World → Type 0
CellsFit D w = (c : ℕ) → c < cell_count D → CellFits D c (cell_at D w c)
