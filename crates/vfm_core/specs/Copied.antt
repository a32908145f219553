-- The copying of devices into a plain machine.
use Rattle.std.specs.Prelude.{◌≡◌, ℕ, ◌+◌, ◌≤◌, List, ◌++◌, length}
use Rattle.vfm_types.specs.Machine.{DeviceState}

-- a device with these requests accepted too, pending after the others
abbrev pub grown_by : List (ℕ × ℕ) → DeviceState → DeviceState
grown_by pending device = record device { pending = device.pending ++ pending; accepted = device.accepted + length pending }

-- a device can take the state of another in: it has the same sizes, and the other has accepted what it did and what is
-- pending, within the largest budget
pub record IsRoomFor (from into : DeviceState) : Type 0 where
  pub bar : length from.bar ≡ length into.bar
  pub buf : length into.buf ≡ 64
  pub bufs : length from.buf ≡ 64
  pub accepted : from.accepted ≡ from.done + length from.pending
  pub few : from.accepted ≤ 50000
