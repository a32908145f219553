use Rattle.vfm_device.proofs.Sought.{Sought}
use Rattle.vfm_device.proofs.queue.place_of.Given as goal

abbrev pub invariant-loop-k : goal.invariant-loop-k
invariant-loop-k l = Sought l.pending l.n l.k
