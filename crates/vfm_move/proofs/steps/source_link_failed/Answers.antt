-- Only the abort yields to it.
use Rattle.vfm_move.proofs.Unanswered.{source_failed}
use Rattle.vfm_move.proofs.steps.source_link_failed.Goals as goal

pub returns : goal.returns
returns c = source_failed
