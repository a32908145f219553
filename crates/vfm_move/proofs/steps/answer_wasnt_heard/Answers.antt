-- Nothing else was due or heard.
use Rattle.vfm_move.proofs.Unanswered.{answer_unheard}
use Rattle.vfm_move.proofs.steps.answer_wasnt_heard.Goals as goal

pub returns : goal.returns
returns c = answer_unheard
