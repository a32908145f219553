-- Line by line.
use Rattle.vfm_order.proofs.SameLooks.{same_want}
use Rattle.vfm_order.proofs.looks.alike_looks_want_the_same.Goals as goal

pub returns : goal.returns
returns c = same_want
