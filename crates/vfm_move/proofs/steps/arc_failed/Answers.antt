-- At most one arc fails.
use Rattle.vfm_move.proofs.Unanswered.{arc_failed}
use Rattle.vfm_move.proofs.steps.arc_failed.Goals as goal

pub returns : goal.returns
returns c = arc_failed
