-- What must have happened before a destination runs.
use Rattle.vfm_control.proofs.Histories.{running_go, running_answer, stage_happened, send_happened, go_happened}
use Rattle.vfm_control.proofs.pair_laws.running_was_confirmed.Goals as goal

pub returns-clause-own : goal.returns-clause-own
returns-clause-own c own events digest is = (running_go own events digest is).0

pub returns-clause-staged : goal.returns-clause-staged
returns-clause-staged c own events digest is = stage_happened own events digest (running_answer own events digest is)

pub returns-clause-sent : goal.returns-clause-sent
returns-clause-sent c own events digest is = send_happened own events own (running_go own events digest is).1

pub returns-clause-go : goal.returns-clause-go
returns-clause-go c own events digest is = (running_go own events digest is).1

pub returns-clause-delivered : goal.returns-clause-delivered
returns-clause-delivered c own events digest is = go_happened own events digest is
