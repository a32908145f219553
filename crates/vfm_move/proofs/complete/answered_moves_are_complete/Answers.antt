-- What was heard is the own digest.
use Rattle.vfm_move.proofs.NotRefused.{differs_complete, no_control_complete, refused_complete, unconfirmed_complete}
use Rattle.vfm_move.proofs.complete.answered_moves_are_complete.Goals as goal

pub returns-clause-refused : goal.returns-clause-refused
returns-clause-refused c = refused_complete

pub returns-clause-unconfirmed : goal.returns-clause-unconfirmed
returns-clause-unconfirmed c = unconfirmed_complete

pub returns-clause-no_control : goal.returns-clause-no_control
returns-clause-no_control c = no_control_complete

pub returns-clause-differs : goal.returns-clause-differs
returns-clause-differs c = differs_complete
