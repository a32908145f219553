-- A wait fits the list, and a list after which nothing can be done fits nothing else.
use Rattle.vfm_order.proofs.Wants.{stuck_of_wait, wait_of_stuck}
use Rattle.vfm_order.proofs.waiting.waits_where_stuck.Goals as goal

pub returns : goal.returns
returns c = λ D past n valid legal. (stuck_of_wait D valid past legal n, wait_of_stuck D valid past legal n)
