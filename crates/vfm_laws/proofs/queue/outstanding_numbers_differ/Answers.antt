-- Facts of what every list keeps.
use Rattle.vfm_laws.proofs.QueueLaws.{numbers_below, numbers_once}
use Rattle.vfm_laws.proofs.queue.outstanding_numbers_differ.Goals as goal

pub returns-clause-once : goal.returns-clause-once
returns-clause-once c = numbers_once

pub returns-clause-accepted : goal.returns-clause-accepted
returns-clause-accepted c = numbers_below
