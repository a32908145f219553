-- The plain machine in a world of parts.
use Rattle.std.specs.Prelude.{map}
use Rattle.vfm_types.specs.Machine.{DeviceState, Machine}
use Rattle.vfm_parts.specs.Parts.{Dev, World}

-- what a device's part has of the plain machine
abbrev pub plain_of : Dev → DeviceState
plain_of dev = dev.plain

-- the pages, and of each device its plain state
abbrev pub machine_in : World → Machine
machine_in w = record { pages = w.pages; devices = map plain_of w.devs }
