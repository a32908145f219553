-- It is what the cause says.
use Rattle.vfm_move.proofs.Cases.{asked}
use Rattle.vfm_move.proofs.laws.given_up_as_asked.Goals as goal

pub returns-clause-asked : goal.returns-clause-asked
returns-clause-asked c attempt story pass cause = (asked attempt story pass cause).0

pub returns-clause-some : goal.returns-clause-some
returns-clause-some c attempt story pass cause = (asked attempt story pass cause).1
