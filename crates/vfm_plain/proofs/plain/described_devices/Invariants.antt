use Rattle.std.proofs.Common.{◌≡◌, map, take}
use Rattle.vfm_types.specs.Machine.{described_device}
use Rattle.vfm_plain.proofs.plain.described_devices.Given as goal

abbrev pub invariant-loop-shape : goal.invariant-loop-shape
invariant-loop-shape l = l.list.items ≡ map described_device (take l.shape-index l.shape-items)
