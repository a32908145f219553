-- Facts of what every list keeps.
use Rattle.vfm_laws.proofs.QueueLaws.{same_job, waiting_first}
use Rattle.vfm_laws.proofs.queue.undelivered_are_first.Goals as goal

pub returns-clause-first : goal.returns-clause-first
returns-clause-first c = waiting_first

pub returns-clause-job : goal.returns-clause-job
returns-clause-job c = same_job
