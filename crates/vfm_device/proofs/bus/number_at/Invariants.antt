use Rattle.std.proofs.Common.{◌≡◌, drop}
use Rattle.vfm_device.specs.Bus.{number_at}
use Rattle.vfm_device.proofs.bus.number_at.Given as goal

abbrev pub invariant-loop-i : goal.invariant-loop-i
invariant-loop-i l = number_at l.delivered (drop l.i l.flights) l.left ≡ number_at l.delivered l.flights l.k
