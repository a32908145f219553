-- Entry by entry.
use Rattle.vfm_move_laws.proofs.FailedArcs.{failed_since, unfailed}
use Rattle.vfm_move_laws.proofs.fails.failed_moves_have_a_failed_arc.Goals as goal

pub returns-clause-failed : goal.returns-clause-failed
returns-clause-failed c = failed_since

pub returns-clause-unfailed : goal.returns-clause-unfailed
returns-clause-unfailed c = unfailed
