-- Channels of the worked device with a data packet and a config packet, as they were sent and as they came.
use Rattle.std.specs.Prelude.{ℕ, true, List, [], ◌∷◌, ◌++◌}
use Rattle.vfm_packet.specs.declared.header.Kind.TheVariants.{Config, Data}
use Rattle.vfm_packet.specs.Packet.{Packet}
use Rattle.vfm_packet.specs.Worked.{config_packet, data_packet, end_packet}
use Rattle.vfm_move.specs.Contact.{Line, Lines}

-- both packets and the one that ends the channel
abbrev pub whole_bytes : List ℕ
whole_bytes = data_packet ++ config_packet ++ end_packet

-- a channel that sent these bytes, and one that received these and ended
abbrev pub sends : List ℕ → Line
sends bytes = record { ended = true; failed_out = 0; failed_in = 0; sent = bytes; received = [] }

abbrev pub receives : List ℕ → Line
receives bytes = record { ended = true; failed_out = 0; failed_in = 0; sent = []; received = bytes }

-- links of which the source's channels sent these bytes, and the destination's received these and ended
abbrev pub links : List Line → List Line → Lines
links source dest = record { source_control = sends []; source = source; dest_control = sends []; dest = dest }

-- those two packets
abbrev pub data_of : Packet
data_of =
    record {
      head = record { version = 1; kind = Data; session = 7; stream = 0; index = 0; length = 2 };
      payload = 5 ∷ 6 ∷ [];
    }

abbrev pub config_of : Packet
config_of =
    record {
      head = record { version = 1; kind = Config; session = 7; stream = 0; index = 0; length = 1 };
      payload = 9 ∷ [];
    }

-- each on a channel of its own, and both on the second, the later one first
abbrev pub crossed : Lines
crossed =
    links (sends (data_packet ++ end_packet) ∷ sends (config_packet ++ end_packet) ∷ [])
    (receives end_packet ∷ receives (config_packet ++ data_packet ++ end_packet) ∷ [])
