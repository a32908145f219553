-- They are other contacts.
use Rattle.vfm_move.proofs.Cases.{untouched_none, failed_none}
use Rattle.vfm_move.proofs.laws.no_links_tell_nothing.Goals as goal

pub returns-clause-untouched : goal.returns-clause-untouched
returns-clause-untouched c = untouched_none

pub returns-clause-failed : goal.returns-clause-failed
returns-clause-failed c = failed_none
