use Rattle.std.proofs.lemmas.Bool.{ne_eqb}
use Rattle.vfm_device.proofs.Sought.{sought_more}
use Rattle.vfm_device.proofs.queue.place_of.Goals as goal

pub loop-k-preserved : goal.loop-k-preserved
loop-k-preserved c = sought_more c.args.pending.now c.args.n c.loop-k.k c.loop-k.invariant c.loop-k-test.true (ne_eqb _ _ c.if-pending-k.false)
