-- Two facts of what every list keeps.
use Rattle.vfm_laws.proofs.EndedRuns.{accepted_is}
use Rattle.vfm_laws.proofs.QueueLaws.{within_budget}
use Rattle.vfm_laws.proofs.queue.accepted_is_done_or_pending.Goals as goal

pub returns-clause-sum : goal.returns-clause-sum
returns-clause-sum c = accepted_is

pub returns-clause-budget : goal.returns-clause-budget
returns-clause-budget c = within_budget
