-- The law of headers.
use Rattle.vfm_packet.proofs.Packets.{one_head}
use Rattle.vfm_packet.proofs.laws.one_encoding_of_a_header.Goals as goal

pub returns : goal.returns
returns c g h x y = one_head g h x y
