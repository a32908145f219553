-- The requests before this one are added.
use Rattle.std.proofs.Common.{◌≡◌, take}
use Rattle.vfm_types.specs.Machine.{device_of, with_device}
use Rattle.vfm_core.specs.Copied.{grown_by}
use Rattle.vfm_core.proofs.copy.add_requests.Given as goal

abbrev pub invariant-loop-k : goal.invariant-loop-k
invariant-loop-k l = l.into ≡ with_device l.fn.into l.d (grown_by (take l.k l.pending) (device_of l.fn.into l.d))
