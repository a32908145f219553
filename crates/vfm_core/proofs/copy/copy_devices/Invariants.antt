-- The devices before this one are copied.
use Rattle.std.proofs.Common.{◌≡◌, map}
use Rattle.vfm_types.specs.Machine.{no_device}
use Rattle.vfm_core.specs.Machines.{plain_of}
use Rattle.vfm_core.proofs.Copies.{Replaced}
use Rattle.vfm_core.proofs.copy.copy_devices.Given as goal

abbrev pub invariant-loop-d : goal.invariant-loop-d
invariant-loop-d l =
    record { pages : l.into.pages ≡ l.fn.into.pages; devices : Replaced no_device (map plain_of l.devices) l.fn.into.devices l.into.devices l.d }
