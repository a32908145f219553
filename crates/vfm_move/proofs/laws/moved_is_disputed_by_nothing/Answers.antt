-- Nothing brings Moved, and nothing yields to it.
use Rattle.vfm_move.proofs.Cases.{undisputed}
use Rattle.vfm_move.proofs.laws.moved_is_disputed_by_nothing.Goals as goal

pub returns : goal.returns
returns c = undisputed
