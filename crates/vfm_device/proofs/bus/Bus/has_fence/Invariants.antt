use Rattle.std.proofs.Common.{◌≡◌, false, take, slice_index_or}
use Rattle.std.specs.List.{list_any}
use Rattle.vfm_types.specs.Desc.{no_job}
use Rattle.vfm_types.specs.Job.{is_fence}
use Rattle.vfm_device.proofs.bus.Bus.has_fence.Given as goal

abbrev pub invariant-loop-k : goal.invariant-loop-k
invariant-loop-k l = list_any (λ r. is_fence (slice_index_or l.jobs r.job no_job)) (take l.k l.self) ≡ false
