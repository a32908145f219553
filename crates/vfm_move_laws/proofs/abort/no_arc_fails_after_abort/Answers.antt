-- By the condition of a fail.
use Rattle.vfm_move_laws.proofs.AfterAbort.{none_fails}
use Rattle.vfm_move_laws.proofs.abort.no_arc_fails_after_abort.Goals as goal

pub returns : goal.returns
returns c = none_fails
