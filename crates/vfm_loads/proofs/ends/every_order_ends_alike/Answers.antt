-- The machine is a function of which requests are done, and at the end all are.
use Rattle.vfm_loads.proofs.AllOrders.{orders_end_alike}
use Rattle.vfm_loads.proofs.ends.every_order_ends_alike.Goals as goal

pub returns : goal.returns
returns c = orders_end_alike
