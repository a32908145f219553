-- What was heard is the own Go.
use Rattle.vfm_move.proofs.NotRefused.{no_go_complete, other_go_complete}
use Rattle.vfm_move.proofs.complete.doubts_of_go_are_complete.Goals as goal

pub returns-clause-no_go : goal.returns-clause-no_go
returns-clause-no_go c = no_go_complete

pub returns-clause-other : goal.returns-clause-other
returns-clause-other c = other_go_complete
