-- What was heard decides.
use Rattle.vfm_move.proofs.Answered.{no_answer_heard}
use Rattle.vfm_move.proofs.ends.no_control.Goals as goal

pub returns : goal.returns
returns c = no_answer_heard
