-- All of a frame came.
use Rattle.vfm_move.proofs.AnswerHeard.{go_all}
use Rattle.vfm_move.proofs.complete.go_comes_as_it_was_said.Goals as goal

pub returns : goal.returns
returns c = go_all
