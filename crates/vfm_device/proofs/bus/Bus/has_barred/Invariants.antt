use Rattle.std.proofs.Common.{◌≡◌, false, take}
use Rattle.std.specs.List.{list_any}
use Rattle.vfm_types.specs.Desc.{job_at}
use Rattle.vfm_types.specs.Words.{is_barred}
use Rattle.vfm_device.proofs.bus.Bus.has_barred.Given as goal

abbrev pub invariant-loop-k : goal.invariant-loop-k
invariant-loop-k l = list_any (λ r. is_barred l.desc l.d (job_at l.desc l.d r.job)) (take l.k l.self) ≡ false
