use Rattle.vfm_outside.specs.RingEnds.{AreRows, settings_of}
use Rattle.vfm_outside.proofs.ring_wires.channels_of.Given as goal

abbrev pub invariant-loop-k : goal.invariant-loop-k
invariant-loop-k l = AreRows (settings_of l.plan.fail.now l.plan.slots l.plan.patience) l.k l.source.items l.dest.items
