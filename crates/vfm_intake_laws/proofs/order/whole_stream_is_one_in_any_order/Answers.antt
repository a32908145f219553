-- Index by index.
use Rattle.vfm_intake_laws.proofs.SameFaults.{order-same, said-same}
use Rattle.vfm_intake_laws.proofs.order.whole_stream_is_one_in_any_order.Goals as goal

pub returns-clause-packets : goal.returns-clause-packets
returns-clause-packets c = order-same

pub returns-clause-said : goal.returns-clause-said
returns-clause-said c = said-same
