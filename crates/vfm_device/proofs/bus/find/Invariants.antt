use Rattle.std.proofs.Common.{◌≡◌, false, take}
use Rattle.vfm_types.specs.Outstanding.{is_outstanding}
use Rattle.vfm_device.proofs.bus.find.Given as goal

abbrev pub invariant-loop-k : goal.invariant-loop-k
invariant-loop-k l = is_outstanding l.n (take l.k l.flights) ≡ false
