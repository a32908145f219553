-- Nothing is a front of all.
use Rattle.vfm_move.proofs.Cases.{unread}
use Rattle.vfm_move.proofs.laws.unread_links_deliver.Goals as goal

pub returns : goal.returns
returns c = unread
