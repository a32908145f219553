-- A new link has told of nothing before.
use Rattle.vfm_move.proofs.Brought.{cut_unheard, new_received}
use Rattle.vfm_move.proofs.ends.new_links_receive.Goals as goal

pub returns-clause-received : goal.returns-clause-received
returns-clause-received c = new_received

pub returns-clause-cut_short : goal.returns-clause-cut_short
returns-clause-cut_short c = cut_unheard
