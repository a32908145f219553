-- Each of eight devices has done 1,120 requests.
use Rattle.vfm_loads.proofs.AllOrders.{end_accepted, end_done, end_lost}
use Rattle.vfm_loads.proofs.ends.load_ends_with.Goals as goal

pub returns-clause-accepted : goal.returns-clause-accepted
returns-clause-accepted c = end_accepted

pub returns-clause-done : goal.returns-clause-done
returns-clause-done c = end_done

pub returns-clause-lost : goal.returns-clause-lost
returns-clause-lost c = end_lost
