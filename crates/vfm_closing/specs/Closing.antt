-- The records that close every stream: room for them, and how far they came where memory ran out.
use Rattle.std.specs.Prelude.{◌≡◌, ℕ, ◌+◌, ◌≤◌, Option, List, ◌++◌, length}
use Rattle.vfm_types.specs.declared.desc.Desc.{Desc}
use Rattle.vfm_types.specs.Machine.{DeviceState}
use Rattle.vfm_streams.specs.Sent.{Sent}
use Rattle.vfm_outlets.specs.declared.outlets.Outlets.{Outlets}
use Rattle.vfm_outlets.specs.Carrying.{Carries}

-- the most records that close the stream of a device: its counts, 13 of pending requests, and the digest of its shape
abbrev pub most_of_device : ℕ
most_of_device = 15

-- the most records that close all streams: memory's digest, and those of eight devices
abbrev pub most_closing : ℕ
most_closing = 121

-- The channels carry some list of records that leaves an index for so many records more, whichever streams they are of.
pub record HasRoom {L : Type 0} (sent : L → Option (List ℕ)) (more : ℕ) (outlets : Outlets L) : Type 0 where
  pub desc : Desc
  pub starts : List (Option (List ℕ))
  pub all : List Sent
  pub carries : Carries sent desc starts all outlets
  pub few : length all + more ≤ 4294967295

-- The channels carry so much of this, newest first, that the rest of it goes on behind.
pub record CarriesPart {L : Type 0} (sent : L → Option (List ℕ)) (D : Desc) (starts : List (Option (List ℕ))) (whole : List Sent)
    (outlets : Outlets L) : Type 0 where
  pub part : List Sent
  pub carries : Carries sent D starts part outlets
  pub rest : List Sent
  pub goes_on : whole ≡ rest ++ part

-- the counts and the buffer of the device fit a record
pub record HasEngine (device : DeviceState) : Type 0 where
  pub accepted : device.accepted ≤ 50000
  pub counted : device.done + length device.pending ≡ device.accepted
  pub lost : device.lost ≤ 400000
  pub buf : length device.buf ≡ 64
