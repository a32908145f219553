-- All cells of a machine as one list.
use Rattle.std.specs.Prelude.{ℕ, List, ◌∷◌, ◌++◌, map}
use Rattle.vfm_parts.specs.Parts.{Dev, Lead}
use Rattle.vfm_cells.specs.Cells.{Cell, device_cell, lead_cell, page_cell}

-- the coordinator's cell, then each device's, then each page's
abbrev pub cell_list : Lead → List Dev → List (List ℕ) → List Cell
cell_list lead devs pages = lead_cell lead ∷ (map device_cell devs ++ map page_cell pages)
