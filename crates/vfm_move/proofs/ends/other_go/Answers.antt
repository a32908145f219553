-- What was heard decides.
use Rattle.vfm_move.proofs.Gone.{other_go_heard}
use Rattle.vfm_move.proofs.ends.other_go.Goals as goal

pub returns : goal.returns
returns c = other_go_heard
