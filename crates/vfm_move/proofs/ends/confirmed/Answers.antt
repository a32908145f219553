-- What was heard decides.
use Rattle.vfm_move.proofs.Answered.{own_confirmed}
use Rattle.vfm_move.proofs.ends.confirmed.Goals as goal

pub returns : goal.returns
returns c = own_confirmed
