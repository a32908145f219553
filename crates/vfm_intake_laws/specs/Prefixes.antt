-- The first packets of a stream in the order of their indexes.
use Rattle.std.specs.Prelude.{ℕ, List, map, unwrap_or}
use Rattle.std.specs.List.{range_with_len}
use Rattle.vfm_packet.specs.Packet.{Packet}
use Rattle.vfm_record.specs.Packing.{end_of}
use Rattle.vfm_streams.specs.Whole.{packet_with}

-- the packets with the indexes below n; what is lacking is a packet with no payload
abbrev pub first_in_order : ℕ → List Packet → List Packet
first_in_order n packets = map (λ i. unwrap_or (packet_with i packets) (end_of 1 0)) (range_with_len 0 n)
