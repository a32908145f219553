-- What a legal run delivers is a list of enabled requests.
use Rattle.vfm_loads.proofs.AllOrders.{runs_end_alike}
use Rattle.vfm_loads.proofs.ends.every_run_ends_alike.Goals as goal

pub returns : goal.returns
returns c = runs_end_alike
