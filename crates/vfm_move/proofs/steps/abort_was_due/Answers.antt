-- There is one such pass.
use Rattle.vfm_move.proofs.Unanswered.{pass_ended}
use Rattle.vfm_move.proofs.steps.abort_was_due.Goals as goal

pub returns : goal.returns
returns c = pass_ended
