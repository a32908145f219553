-- What a reader hands on of the packets of a channel.
use Rattle.std.specs.Prelude.{◌≡◌, ℕ, ◌<◌, ◌⊎◌, List, ◌++◌, map}
use Rattle.vfm_packet.specs.Packet.{Packet}
use Rattle.vfm_mesh.specs.declared.parcel.Parcel.{Parcel}
use Rattle.vfm_mesh.specs.declared.parcel.Parcel.TheVariants as parcels
use Rattle.vfm_mesh.specs.declared.fan.Fan.{Fan}
use Rattle.vfm_mesh.specs.Rows.{stream_count, given, closed}
use Rattle.vfm_streams.specs.Whole.{stream_packets}

-- the parcel of a packet
abbrev pub parcel_of : Packet → Parcel
parcel_of p = parcels.Packet p.head p.payload

-- the parcels of a stream among packets, in order
abbrev pub parcels_of : ℕ → List Packet → List Parcel
parcels_of s packets = map parcel_of (stream_packets s packets)

-- each of the packets was given after what was given of its stream before, in order
pub record HandsOn (before now : Fan) (packets : List Packet) : Type 0 where
  pub streams : stream_count now ≡ stream_count before
  pub given : (s : ℕ) → s < stream_count before → given now s ≡ given before s ++ parcels_of s packets

-- the same, and after them the mark that nothing more comes, for every stream
pub record Closes (before now : Fan) (packets : List Packet) : Type 0 where
  pub streams : stream_count now ≡ stream_count before
  pub given : (s : ℕ) → s < stream_count before → given now s ≡ closed (given before s ++ parcels_of s packets)

-- only the first of the packets were given, and the mark perhaps
pub record HandsOnInPart (before now : Fan) (packets : List Packet) : Type 0 where
  pub handed : List Packet
  pub others : List Packet
  pub first : packets ≡ handed ++ others
  pub streams : stream_count now ≡ stream_count before
  pub given : (s : ℕ) → s < stream_count before
      → (given now s ≡ given before s ++ parcels_of s handed) ⊎ (given now s ≡ closed (given before s ++ parcels_of s handed))
