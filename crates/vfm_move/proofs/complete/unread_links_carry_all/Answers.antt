-- Everything is still to come.
use Rattle.vfm_move.proofs.Carrying.{unread_carry}
use Rattle.vfm_move.proofs.complete.unread_links_carry_all.Goals as goal

pub returns : goal.returns
returns c = unread_carry
