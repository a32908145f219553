-- What was heard decides.
use Rattle.vfm_move.proofs.Answered.{machines_differ}
use Rattle.vfm_move.proofs.ends.differs.Goals as goal

pub returns : goal.returns
returns c = machines_differ
