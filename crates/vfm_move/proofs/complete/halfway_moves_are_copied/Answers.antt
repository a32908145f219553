-- The state at the joint stop is there, since the last pass comes after it.
use Rattle.vfm_move.proofs.AnswerHeard.{copied_from}
use Rattle.vfm_move.proofs.complete.halfway_moves_are_copied.Goals as goal

pub returns : goal.returns
returns c = copied_from
