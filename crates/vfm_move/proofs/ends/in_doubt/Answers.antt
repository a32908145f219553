-- Its parts and states are those of its source.
use Rattle.vfm_move.proofs.Ended.{left_in_doubt}
use Rattle.vfm_move.proofs.ends.in_doubt.Goals as goal

pub returns : goal.returns
returns c = left_in_doubt
