-- What was heard decides.
use Rattle.vfm_move.proofs.Gone.{no_go_heard}
use Rattle.vfm_move.proofs.ends.no_go.Goals as goal

pub returns : goal.returns
returns c = no_go_heard
