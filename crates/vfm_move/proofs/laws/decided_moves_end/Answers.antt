-- By the laws of what follows an abort.
use Rattle.vfm_move.proofs.GivenUp.{ended}
use Rattle.vfm_move.proofs.laws.decided_moves_end.Goals as goal

pub returns : goal.returns
returns c = ended
