-- Packets that bring what was sent: each once, in any order and on any channels.
use Rattle.std.specs.Prelude.{◌≡◌, ℕ, ◌+◌, ◌==◌, ◌&&◌, ◌⊎◌, if◌then◌else◌, List, [], ◌∷◌, map, None}
use Rattle.std.specs.List.{AllByRecursion, range_with_len}
use Rattle.vfm_types.specs.declared.desc.Desc.{Desc}
use Rattle.vfm_packet.specs.Packet.{Packet}
use Rattle.vfm_streams.specs.Sent.{Sent}
use Rattle.vfm_packet.specs.Reading.{Reading}
use Rattle.vfm_streams.specs.Packets.{packet_of, lane_packets}
use Rattle.vfm_streams.specs.Whole.{stream_packets, times}

-- how often this stream and index were sent
abbrev pub times_sent : ℕ → ℕ → List Sent → ℕ
times_sent s i [] = 0
times_sent s i (x ∷ all) = times_sent s i all + (if x.stream == s && x.index == i then 1 else 0)

-- the packet is one of those that were sent
abbrev pub IsOfSent : Desc → List Sent → Packet → Type 0
IsOfSent D [] p = ⊥
IsOfSent D (x ∷ all) p = (p ≡ packet_of D x) ⊎ IsOfSent D all p

-- the packets are those that were sent, none missing and none doubled
pub record BringsSent (D : Desc) (all : List Sent) (packets : List Packet) : Type 0 where
  pub each : AllByRecursion (IsOfSent D all) packets
  pub once : (s i : ℕ) → times i (stream_packets s packets) ≡ times_sent s i all

-- the channels of a description, each read to its end
abbrev pub lane_reading : Desc → List Sent → ℕ → Reading
lane_reading D all k = record { packets = lane_packets D k all; refusal = None }

abbrev pub lane_readings : Desc → List Sent → List Reading
lane_readings D all = map (lane_reading D all) (range_with_len 0 D.channels)
