-- What an intake knows of the packets that came, stream by stream.
use Rattle.std.specs.Prelude.{◌≡◌, ℕ, ◌+◌, ◌<◌, ◌≤◌, ◌==◌, if◌then◌else◌, List, [], ◌∷◌, ◌++◌, length, slice_index_or}
use Rattle.vfm_types.specs.declared.desc.Desc.{Desc}
use Rattle.vfm_types.specs.Desc.{device_count}
use Rattle.vfm_types.specs.Valid.{IsValid}
use Rattle.vfm_packet.specs.Packet.{Packet}
use Rattle.vfm_mesh.specs.declared.parcel.Parcel.{Parcel}
use Rattle.vfm_mesh.specs.declared.parcel.Parcel.TheVariants as parcels
use Rattle.vfm_intake.specs.declared.stream.StreamIntake.{StreamIntake}
use Rattle.vfm_intake.specs.declared.intake.Intake.{Intake}
use Rattle.vfm_intake.specs.Streams.{IsStreamOf, StandsAfter}

-- its streams, in order
abbrev pub streams_in : Intake → List StreamIntake
streams_in intake = intake.streams.items

-- how many streams it takes
abbrev pub stream_count : Intake → ℕ
stream_count intake = length intake.streams.items

-- these are the first streams of the description, in order
abbrev pub AreStreamsOf : Desc → List StreamIntake → Type 0
AreStreamsOf D streams = (s : ℕ) (x : StreamIntake) → s < length streams → IsStreamOf (slice_index_or streams s x) D s

-- of each stream these packets came
abbrev pub StandAfter : Desc → (ℕ → List Packet) → List StreamIntake → Type 0
StandAfter D came streams = (s : ℕ) (x : StreamIntake) → s < length streams → StandsAfter (slice_index_or streams s x) D s (came s)

-- the intake is of this description: it has memory's stream and one for each device
pub record IsIntakeOf (intake : Intake) (D : Desc) : Type 0 where
  pub valid : IsValid D
  pub count : stream_count intake ≡ device_count D + 1
  pub each : AreStreamsOf D intake.streams.items

-- of each stream these packets came to the intake
abbrev pub HasTaken : Intake → Desc → (ℕ → List Packet) → Type 0
HasTaken intake D came = StandAfter D came intake.streams.items

-- one packet more of stream s; a mark is none
abbrev pub with_parcel : (ℕ → List Packet) → ℕ → Parcel → ℕ → List Packet
with_parcel came s parcels.Close t = came t
with_parcel came s (parcels.Packet head payload) t =
    if t == s then came t ++ record { head = head; payload = payload } ∷ [] else came t
