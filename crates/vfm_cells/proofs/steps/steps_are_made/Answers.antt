-- Over parts that agree in the touched cells.
use Rattle.vfm_cells.proofs.Whole.{step_made, step_refused}
use Rattle.vfm_cells.proofs.steps.steps_are_made.Goals as goal

pub returns-clause-allowed : goal.returns-clause-allowed
returns-clause-allowed c = step_made

pub returns-clause-refused : goal.returns-clause-refused
returns-clause-refused c = λ D w entry rule whole named aimed broken. step_refused D w entry whole named rule aimed broken
