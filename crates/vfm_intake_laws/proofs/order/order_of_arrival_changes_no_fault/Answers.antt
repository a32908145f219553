-- Index by index.
use Rattle.vfm_intake_laws.proofs.SameFaults.{gap-same, fault-same}
use Rattle.vfm_intake_laws.proofs.order.order_of_arrival_changes_no_fault.Goals as goal

pub returns-clause-gap : goal.returns-clause-gap
returns-clause-gap c = gap-same

pub returns-clause-fault : goal.returns-clause-fault
returns-clause-fault c = fault-same
