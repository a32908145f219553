-- The bytes that came are those on which the verdict was said.
use Rattle.vfm_dest.proofs.Deciding.{verdict-on}
use Rattle.vfm_dest.proofs.laws.brought_bytes_decide.Goals as goal

pub returns : goal.returns
returns c D links came result judged tell brought = verdict-on D links came result judged tell brought
