-- Over parts that agree in the touched cells.
use Rattle.vfm_cells.proofs.Whole.{step_told, after_whole}
use Rattle.vfm_cells.proofs.steps.steps_are_local.Goals as goal

pub returns-clause-step : goal.returns-clause-step
returns-clause-step c = step_told

pub returns-clause-whole : goal.returns-clause-whole
returns-clause-whole c = after_whole
