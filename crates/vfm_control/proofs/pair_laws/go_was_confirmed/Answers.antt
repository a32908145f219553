-- What must have happened before the source can send Go.
use Rattle.vfm_control.proofs.Histories.{can_send, stage_happened, answer_happened}
use Rattle.vfm_control.proofs.pair_laws.go_was_confirmed.Goals as goal

pub returns-clause-staged : goal.returns-clause-staged
returns-clause-staged c own events can = stage_happened own events own (can_send own events can).2

pub returns-clause-heard : goal.returns-clause-heard
returns-clause-heard c own events can = answer_happened own events own (can_send own events can).0
