-- A refusal would be another verdict, and a fault would have been counted.
use Rattle.vfm_dest.proofs.Deciding.{whole-staged}
use Rattle.vfm_dest.proofs.laws.whole_machines_are_staged.Goals as goal

pub returns : goal.returns
returns c D links came result judged names tell brought none whole = whole-staged D links came result judged names tell brought none whole
