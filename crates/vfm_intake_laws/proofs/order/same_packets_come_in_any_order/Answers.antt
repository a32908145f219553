-- Channel by channel.
use Rattle.vfm_intake_laws.proofs.Weaving.{same-packets}
use Rattle.vfm_intake_laws.proofs.order.same_packets_come_in_any_order.Goals as goal

pub returns : goal.returns
returns c = same-packets
