-- All is a front of itself, and nothing is one of everything.
use Rattle.vfm_move.proofs.Cases.{whole_front, nothing_front, go_front}
use Rattle.vfm_move.proofs.laws.whole_is_a_front.Goals as goal

pub returns-clause-whole : goal.returns-clause-whole
returns-clause-whole c = whole_front

pub returns-clause-nothing : goal.returns-clause-nothing
returns-clause-nothing c = nothing_front

pub returns-clause-go : goal.returns-clause-go
returns-clause-go c = go_front
