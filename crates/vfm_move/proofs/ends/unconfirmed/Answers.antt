-- What was heard decides.
use Rattle.vfm_move.proofs.Answered.{other_heard}
use Rattle.vfm_move.proofs.ends.unconfirmed.Goals as goal

pub returns : goal.returns
returns c = other_heard
