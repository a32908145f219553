-- The packets of a stream as they came over several channels, those of each channel in its order.
use Rattle.std.specs.Prelude.{◌≡◌, ℕ, zero, suc, ◌≤◌, ◌==◌, if◌then◌else◌, List, [], ◌∷◌, map}
use Rattle.vfm_packet.specs.Packet.{Packet}
use Rattle.vfm_packet.specs.Reading.{Reading}
use Rattle.vfm_streams.specs.Whole.{stream_packets, times, packet_with, has_config_at}

-- those of the packets, each with the number of its channel, that came over channel k
abbrev pub of_channel : ℕ → List (ℕ × Packet) → List Packet
of_channel k [] = []
of_channel k (x ∷ came) = if x.0 == k then x.1 ∷ of_channel k came else of_channel k came

-- what channel k brought; a channel that there isn't brought nothing
abbrev pub packets_at : List Reading → ℕ → List Packet
packets_at [] k = []
packets_at (r ∷ readings) zero = r.packets
packets_at (r ∷ readings) (suc k) = packets_at readings k

-- the packets are those of stream s that the channels brought, those of each channel in its order
pub record CameFrom (s : ℕ) (readings : List Reading) (packets : List Packet) : Type 0 where
  pub tagged : List (ℕ × Packet)
  pub packets_are : map (λ x. x.1) tagged ≡ packets
  pub each : (k : ℕ) → of_channel k tagged ≡ stream_packets s (packets_at readings k)

-- both have each index equally often and config packets at the same ones; an index that stands once has one packet
pub record IsSameStream (first second : List Packet) : Type 0 where
  pub times_are : (i : ℕ) → times i first ≡ times i second
  pub configs : (i : ℕ) → has_config_at i first ≡ has_config_at i second
  pub packet : (i : ℕ) → times i second ≤ 1 → packet_with i first ≡ packet_with i second
