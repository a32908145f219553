-- The sum is what the devices before this one did.
use Rattle.std.proofs.Common.{◌≡◌, take}
use Rattle.std.specs.List.{sum_by}
use Rattle.vfm_types.specs.Machine.{DeviceState}
use Rattle.vfm_bench.proofs.run.count_done.Given as goal

abbrev pub invariant-loop-d : goal.invariant-loop-d
invariant-loop-d l = l.sum ≡ sum_by (λ (dev : DeviceState). dev.done) (take l.d l.plain.devices)
