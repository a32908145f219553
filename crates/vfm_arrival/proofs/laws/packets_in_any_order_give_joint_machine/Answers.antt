-- Index by index.
use Rattle.vfm_arrival.proofs.AnyOrder.{any_order_verdict}
use Rattle.vfm_arrival.proofs.laws.packets_in_any_order_give_joint_machine.Goals as goal

pub returns : goal.returns
returns c = any_order_verdict
