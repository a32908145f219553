-- What lies in a cell, by the kind of part that it is.
use Rattle.vfm_cell_steps.specs.declared.part.Kind.{Kind}
use Rattle.vfm_cell_steps.specs.declared.part.Kind.TheVariants.{Lead, Device, Page}
use Rattle.vfm_cells.specs.Cells.{Cell, lead_cell, device_cell, page_cell}

abbrev pub cell_of : Kind → Cell
cell_of (Lead lead) = lead_cell lead
cell_of (Device dev) = device_cell dev
cell_of (Page bytes) = page_cell bytes
