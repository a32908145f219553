-- The plain machine: pages, and devices that do one request at a time, each in one step.
use Rattle.std.specs.Prelude.{ℕ, ◌+◌, ◌^◌, ◌%◌, ◌&&◌, nat_lt, if◌then◌else◌, List, [], ◌∷◌, ◌++◌, length, map, replicate, take, drop, slice_index_or, slice_set}
use Rattle.std.specs.Int.{w64, to_le_bytes, from_le_bytes}
use Rattle.vfm_types.specs.declared.job.Job.{Job}
use Rattle.vfm_types.specs.declared.job.Job.TheVariants.{Write, Read, Store, Add}
use Rattle.vfm_types.specs.declared.job.Region.{Region}
use Rattle.vfm_types.specs.declared.job.Region.TheVariants.{Page, Bar}
use Rattle.vfm_types.specs.declared.job.Place.{Place}
use Rattle.vfm_types.specs.declared.desc.DevShape.{DevShape}
use Rattle.vfm_types.specs.declared.desc.Desc.{Desc}
use Rattle.vfm_types.specs.Desc.{shape_at, bar_bytes}
use Rattle.vfm_types.specs.Job.{place_of, owner_or_zero, is_bell}

-- A device: the bytes of its BARs, the requests that it has accepted and not done (number and job, in order), its
-- buffer of 64 bytes, and how many requests it accepted, did, and lost because no such job or no budget was there.
pub record DeviceState : Type 0 where
  pub bar : List ℕ
  pub pending : List (ℕ × ℕ)
  pub buf : List ℕ
  pub accepted : ℕ
  pub done : ℕ
  pub lost : ℕ

-- the pages of memory, and the devices
pub record Machine : Type 0 where
  pub pages : List (List ℕ)
  pub devices : List DeviceState

-- no device
abbrev pub no_device : DeviceState
no_device = record { bar = []; pending = []; buf = []; accepted = 0; done = 0; lost = 0 }

-- device d of the machine
abbrev pub device_of : Machine → ℕ → DeviceState
device_of m d = slice_index_or m.devices d no_device

-- the machine with another device d
abbrev pub with_device : Machine → ℕ → DeviceState → Machine
with_device m d dev = record { pages = m.pages; devices = slice_set m.devices d dev }

-- what is asked for at the start, numbered from n on
abbrev pub numbered : ℕ → List ℕ → List (ℕ × ℕ)
numbered n [] = []
numbered n (job ∷ jobs) = (n, job) ∷ numbered (n + 1) jobs

-- the device as described: zeros, and the requests of its queue pending
abbrev pub described_device : DevShape → DeviceState
described_device shape =
    record {
      bar = replicate (bar_bytes shape) 0;
      pending = numbered 0 shape.queue;
      buf = replicate 64 0;
      accepted = length shape.queue;
      done = 0;
      lost = 0;
    }

-- the machine as described
abbrev pub described : Desc → Machine
described D = record { pages = replicate D.pages (replicate D.page 0); devices = map described_device D.devices }

-- the bytes of a region
abbrev pub bytes_in : Machine → Region → List ℕ
bytes_in m (Page p) = slice_index_or m.pages p []
bytes_in m (Bar d) = (device_of m d).bar

-- the machine with other bytes in a region
abbrev pub with_bytes : Machine → Region → List ℕ → Machine
with_bytes m (Page p) bytes = record { pages = slice_set m.pages p bytes; devices = m.devices }
with_bytes m (Bar d) bytes = with_device m d (record (device_of m d) { bar = bytes })

-- the bytes old with these from an offset on
abbrev pub splice : List ℕ → ℕ → List ℕ → List ℕ
splice old offset bytes = take offset old ++ bytes ++ drop (offset + length bytes) old

-- the len bytes at a place
abbrev pub bytes_at : Machine → Place → ℕ → List ℕ
bytes_at m place len = take len (drop place.offset (bytes_in m place.region))

-- these bytes put at a place
abbrev pub put_at : Machine → Place → List ℕ → Machine
put_at m place bytes = with_bytes m place.region (splice (bytes_in m place.region) place.offset bytes)

-- these bytes put at the start of a device's buffer
abbrev pub with_front : Machine → ℕ → List ℕ → Machine
with_front m d bytes = with_device m d (record (device_of m d) { buf = splice (device_of m d).buf 0 bytes })

-- the device with one more request, for a job that it has and a budget that allows it
abbrev pub with_accepted_request : DeviceState → ℕ → DeviceState
with_accepted_request dev job = record dev { pending = dev.pending ++ (dev.accepted, job) ∷ []; accepted = dev.accepted + 1 }

-- the device with one more request lost
abbrev pub with_lost_request : DeviceState → DeviceState
with_lost_request dev = record dev { lost = dev.lost + 1 }

-- the device's doorbell rung with a number: the job of that number is accepted or counted as lost
abbrev pub with_bell_rung : DevShape → DeviceState → ℕ → DeviceState
with_bell_rung shape dev number =
    if nat_lt number (length shape.jobs) && nat_lt dev.accepted shape.budget then with_accepted_request dev number else with_lost_request dev

-- the machine after a doorbell is rung
abbrev pub ring : Desc → Machine → ℕ → ℕ → Machine
ring D m d number = with_device m d (with_bell_rung (shape_at D d) (device_of m d) number)

-- the machine after bytes are written at a place: a doorbell is rung and changes no byte
abbrev pub write_at : Desc → Machine → Place → List ℕ → Machine
write_at D m place bytes =
    if is_bell place (length bytes) then ring D m (owner_or_zero place.region) (from_le_bytes w64 bytes)
    else put_at m place bytes

-- 8 bytes, little-endian, with a value added to them, wrapping
abbrev pub added : List ℕ → ℕ → List ℕ
added bytes value = to_le_bytes w64 ((from_le_bytes w64 bytes + value) % 2 ^ 64)

-- the machine after a job of device d has its effect
abbrev pub effect : Desc → Machine → ℕ → Job → Machine
effect D m d (Write at bytes) = write_at D m (place_of D (Write at bytes)) bytes
effect D m d (Read at len) = with_front m d (bytes_at m (place_of D (Read at len)) len)
effect D m d (Store at len) = write_at D m (place_of D (Store at len)) (take len (device_of m d).buf)
effect D m d (Add at value) =
    let place = place_of D (Add at value) in
    let old = bytes_at m place 8 in with_front (put_at m place (added old value)) d old
