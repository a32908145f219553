-- What is read was encoded.
use Rattle.vfm_packet.proofs.Readings.{decoded_was}
use Rattle.vfm_packet.proofs.laws.decoded_packet_is_encoded.Goals as goal

pub returns : goal.returns
returns c e bytes head used fits is = decoded_was e bytes head used fits is
