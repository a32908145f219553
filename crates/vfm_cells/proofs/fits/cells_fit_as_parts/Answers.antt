-- Cell by cell.
use Rattle.vfm_cells.proofs.Fitting.{parts_to_cells, cells_to_parts}
use Rattle.vfm_cells.proofs.fits.cells_fit_as_parts.Goals as goal

pub returns-clause-cells : goal.returns-clause-cells
returns-clause-cells c = parts_to_cells

pub returns-clause-parts : goal.returns-clause-parts
returns-clause-parts c = cells_to_parts
