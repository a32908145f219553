use Rattle.std.proofs.Common.{sym, ◌∙◌}
use Rattle.vfm_device.proofs.Kept.{kept_completed}
use Rattle.vfm_device.proofs.tests.complete.Goals as goal

pub returns : goal.returns
returns c = rw c.complete.ensures (kept_completed c.args.desc.now 0 c.args.n c.args.engine.now c.requires (sym c.is_arrived.ensures ∙ c.if-not-is_arrived.false))
