-- The law of packets.
use Rattle.vfm_packet.proofs.Packets.{one_packet}
use Rattle.vfm_packet.proofs.laws.one_encoding_of_a_packet.Goals as goal

pub returns : goal.returns
returns c e p q x y = one_packet e p q x y
