-- What is encoded is read again, part by part.
use Rattle.vfm_packet.proofs.Packets.{packet_again, packet_at-packet_bytes, after_packet}
use Rattle.vfm_packet.proofs.laws.encoded_packet_is_decoded.Goals as goal

pub returns-clause-answer : goal.returns-clause-answer
returns-clause-answer c e p more is = packet_again e p more is

pub returns-clause-packet : goal.returns-clause-packet
returns-clause-packet c e p more is = packet_at-packet_bytes p more is.len

pub returns-clause-after : goal.returns-clause-after
returns-clause-after c e p more is = after_packet p more is.len
