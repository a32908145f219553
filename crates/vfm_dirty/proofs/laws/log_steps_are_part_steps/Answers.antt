use Rattle.vfm_dirty.proofs.OfParts.{completed_marks}
use Rattle.vfm_dirty.proofs.laws.log_steps_are_part_steps.Goals as goal

pub returns-clause-completed : goal.returns-clause-completed
returns-clause-completed c = completed_marks
