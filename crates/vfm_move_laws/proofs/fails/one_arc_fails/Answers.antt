-- A move whose arc failed makes no other.
use Rattle.vfm_move_laws.proofs.FailedArcs.{fails_once, same_fail}
use Rattle.vfm_move_laws.proofs.fails.one_arc_fails.Goals as goal

pub returns-clause-once : goal.returns-clause-once
returns-clause-once c = fails_once

pub returns-clause-same : goal.returns-clause-same
returns-clause-same c = same_fail
