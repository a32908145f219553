-- What is wanted fits the list, and what is due is wanted.
use Rattle.std.proofs.Common.{sym}
use Rattle.vfm_types.specs.declared.entry.Entry.TheVariants.{Abort}
use Rattle.vfm_order.proofs.Wants.{want_made, abort_of_due}
use Rattle.vfm_order.proofs.making.aborts_where_due.Goals as goal

pub returns : goal.returns
returns c = λ D past n valid legal. (λ same. sym (want_made D valid past legal n Abort same).2, abort_of_due D valid past legal n)
