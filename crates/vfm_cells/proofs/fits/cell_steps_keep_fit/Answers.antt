-- By the laws of the whole world.
use Rattle.vfm_cells.proofs.Fitting.{step_cells_fit, allowed_aimed}
use Rattle.vfm_cells.proofs.fits.cell_steps_keep_fit.Goals as goal

pub returns-clause-step : goal.returns-clause-step
returns-clause-step c = step_cells_fit

pub returns-clause-aimed : goal.returns-clause-aimed
returns-clause-aimed c = allowed_aimed
