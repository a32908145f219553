-- By the room that is left.
use Rattle.vfm_endings.proofs.Made.{ends}
use Rattle.vfm_endings.proofs.endings.idle_moves_end.Goals as goal

pub returns : goal.returns
returns c = ends
