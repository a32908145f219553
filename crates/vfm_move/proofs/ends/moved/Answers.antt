-- What was heard decides.
use Rattle.vfm_move.proofs.Gone.{went_over}
use Rattle.vfm_move.proofs.ends.moved.Goals as goal

pub returns : goal.returns
returns c = went_over
