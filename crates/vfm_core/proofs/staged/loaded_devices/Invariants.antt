-- The devices before this one are there.
use Rattle.std.proofs.Common.{◌≡◌}
use Rattle.vfm_types.specs.Desc.{shape_at}
use Rattle.vfm_types.specs.Machine.{device_of}
use Rattle.vfm_parts.specs.Parts.{listed}
use Rattle.vfm_parts_laws.specs.StagedParts.{staged_dev}
use Rattle.vfm_core.specs.Loaded.{loaded}
use Rattle.vfm_core.proofs.staged.loaded_devices.Given as goal

abbrev pub invariant-loop-d : goal.invariant-loop-d
invariant-loop-d l = l.list.items ≡ listed l.d (λ d. staged_dev (shape_at l.desc d) (device_of (loaded l.parts) d))
