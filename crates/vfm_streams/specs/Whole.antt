-- Whole streams: packets whose indexes are 0, 1 and so on, each once, of which the last alone is a config
-- packet. Where a stream isn't whole, the first of its gaps counts.
use Rattle.std.specs.Prelude.{ℕ, ◌+◌, ◌==◌, ◌&&◌, Bool, true, false, if◌then◌else◌, nat_lt, max, List, [], ◌∷◌, map, filter, Option, Some, None, unwrap_or}
use Rattle.std.specs.List.{list_any, range_with_len}
use Rattle.std.specs.Option.{option_or, option_map}
use Rattle.vfm_base.specs.Least.{least_below}
use Rattle.vfm_packet.specs.declared.header.Kind.{Kind}
use Rattle.vfm_packet.specs.declared.header.Kind.TheVariants as kinds
use Rattle.vfm_packet.specs.Packet.{Packet}
use Rattle.vfm_record.specs.Packing.{end_of}

-- what is wrong with a stream
pub data StreamFault : Type 0 where
  -- two packets have this index
  Doubled : ℕ → StreamFault
  -- a packet stands above the config packet
  Past : ℕ → StreamFault
  -- there is no config packet
  NoConfig : StreamFault
  -- no packet below the config packet has this index
  Missing : ℕ → StreamFault
  -- the payload of the packet with this index isn't a record that can stand there, by the test at this place
  BadRecord : ℕ → ℕ → StreamFault
  -- the digest isn't that of the own shape
  ConfigDiffers : StreamFault
  -- this page or block never came; 4294967295 where the counts or some pending requests are lacking
  NotWhole : ℕ → StreamFault

-- the packets of a stream
abbrev pub stream_packets : ℕ → List Packet → List Packet
stream_packets s packets = filter (λ p. p.head.stream == s) packets

-- how many of the packets have this index
abbrev pub times : ℕ → List Packet → ℕ
times i [] = 0
times i (p ∷ packets) = times i packets + (if p.head.index == i then 1 else 0)

-- the first of them
abbrev pub packet_with : ℕ → List Packet → Option Packet
packet_with i [] = None
packet_with i (p ∷ packets) = if p.head.index == i then Some p else packet_with i packets

-- one above the greatest index
abbrev pub top : List Packet → ℕ
top [] = 0
top (p ∷ packets) = max (p.head.index + 1) (top packets)

-- a config packet
abbrev pub is_config : Kind → Bool
is_config kinds.Config = true
is_config kinds.Data = false
is_config kinds.End = false
is_config kinds.Abort = false

-- a config packet has this index
abbrev pub has_config_at : ℕ → List Packet → Bool
has_config_at i packets = list_any (λ p. p.head.index == i && is_config p.head.kind) packets

-- the least index of a config packet
abbrev pub config_index : List Packet → Option ℕ
config_index packets = least_below (top packets) (λ i. has_config_at i packets)

-- what is lacking or too much by a stream whose config packet has this index
abbrev pub gap_by_config : List Packet → Option ℕ → Option StreamFault
gap_by_config packets None = Some NoConfig
gap_by_config packets (Some last) =
    option_or (option_map Past (least_below (top packets) (λ i. nat_lt last i && nat_lt 0 (times i packets))))
    (option_map Missing (least_below last (λ i. times i packets == 0)))

-- the first gap of a stream
abbrev pub gap_of : List Packet → Option StreamFault
gap_of packets =
    option_or (option_map Doubled (least_below (top packets) (λ i. nat_lt 1 (times i packets))))
    (gap_by_config packets (config_index packets))

-- the packets by their indexes, from 0 on; what is lacking is a packet with no payload
abbrev pub in_order : List Packet → List Packet
in_order packets = map (λ i. unwrap_or (packet_with i packets) (end_of 1 0)) (range_with_len 0 (top packets))
