-- By induction over the list.
use Rattle.vfm_laws.proofs.KeptQueues.{keeps_queues}
use Rattle.vfm_laws.proofs.queue.queues_are_kept.Goals as goal

pub returns : goal.returns
returns c = keeps_queues
