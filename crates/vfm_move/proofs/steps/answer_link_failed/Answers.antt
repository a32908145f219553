-- Nothing else was due or heard.
use Rattle.vfm_move.proofs.Unanswered.{answer_failed}
use Rattle.vfm_move.proofs.steps.answer_link_failed.Goals as goal

pub returns : goal.returns
returns c = answer_failed
