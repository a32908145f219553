-- The devices before this one are there.
use Rattle.std.proofs.Common.{◌≡◌, map, take}
use Rattle.vfm_parts.specs.Start.{first_dev}
use Rattle.vfm_core.proofs.described.described_devices.Given as goal

abbrev pub invariant-loop-d : goal.invariant-loop-d
invariant-loop-d l = l.list.items ≡ map first_dev (take l.d l.desc.devices)
