-- That all is done fits the list, and no line applies to a move that is done.
use Rattle.vfm_order.proofs.Wants.{done_of_done, done_if_done}
use Rattle.vfm_order.proofs.waiting.done_where_done.Goals as goal

pub returns : goal.returns
returns c = λ D past n valid legal. (done_of_done D valid past legal n, λ done. done_if_done D valid past legal n done.0 done.1)
