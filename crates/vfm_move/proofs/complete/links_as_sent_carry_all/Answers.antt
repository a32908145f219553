-- Channel by channel.
use Rattle.vfm_move.proofs.Carrying.{as_sent}
use Rattle.vfm_move.proofs.complete.links_as_sent_carry_all.Goals as goal

pub returns : goal.returns
returns c = as_sent
