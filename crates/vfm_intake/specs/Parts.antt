-- The parts that the streams of a move make: its memory first, then each device.
use Rattle.std.specs.Prelude.{◌≡◌, ℕ, ◌<◌, ◌≤◌, ◌&&◌, Bool, true, false, List, [], ◌∷◌, map}
use Rattle.std.specs.List.{list_all}
use Rattle.vfm_types.specs.declared.desc.Desc.{Desc}
use Rattle.vfm_types.specs.Desc.{device_count}
use Rattle.vfm_types.specs.Machine.{DeviceState, Machine, device_of, no_device}
use Rattle.vfm_types.specs.Valid.{IsValid}
use Rattle.vfm_plain.specs.declared.part.Part.{Part}
use Rattle.vfm_plain.specs.declared.part.Part.TheVariants.{Pages, Device}
use Rattle.vfm_plain.specs.Shape.{HasCounts, HasShape}
use Rattle.vfm_laws.specs.Queues.{IsRising}

-- the part is the memory
abbrev pub is_memory : Part → Bool
is_memory (Pages sheets) = true
is_memory (Device bar buf counts pending) = false

-- the part is a device
abbrev pub is_device : Part → Bool
is_device (Pages sheets) = false
is_device (Device bar buf counts pending) = true

-- the pages of a part; a device has none
abbrev pub sheets_of : Part → List (List ℕ)
sheets_of (Pages sheets) = sheets
sheets_of (Device bar buf counts pending) = []

-- the device that a part is; the memory is none
abbrev pub device_in : Part → DeviceState
device_in (Pages sheets) = no_device
device_in (Device bar buf counts pending) =
    record { bar = bar; pending = pending; buf = buf; accepted = counts.0; done = counts.1; lost = counts.2 }

-- the memory comes first, and then devices alone
abbrev pub are_in_order : List Part → Bool
are_in_order [] = false
are_in_order (part ∷ parts) = is_memory part && list_all is_device parts

-- the machine of these parts
abbrev pub machine_in : List Part → Machine
machine_in [] = record { pages = []; devices = [] }
machine_in (part ∷ parts) = record { pages = sheets_of part; devices = map device_in parts }

-- The parts are a machine of the description: the memory, then each device; of its sizes; accepted is done plus pending
-- and within the budget; few were lost; pending numbers rise below what was accepted.
pub record AreParts (D : Desc) (parts : List Part) : Type 0 where
  pub valid : IsValid D
  pub order : are_in_order parts ≡ true
  pub shape : HasShape D (machine_in parts)
  pub counts : HasCounts D (machine_in parts)
  pub lost : (d : ℕ) → d < device_count D → (device_of (machine_in parts) d).lost ≤ 400000
  pub rising : (d : ℕ) → d < device_count D → IsRising 0 (device_of (machine_in parts) d).pending (device_of (machine_in parts) d).accepted
