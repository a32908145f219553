-- Packet by packet.
use Rattle.vfm_arrival.proofs.Fronts.{front_begins}
use Rattle.vfm_arrival.proofs.laws.front_of_a_channel_is_read.Goals as goal

pub returns : goal.returns
returns c = front_begins
