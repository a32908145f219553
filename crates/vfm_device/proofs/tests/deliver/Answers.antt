use Rattle.std.proofs.Common.{sym, ◌∙◌}
use Rattle.vfm_device.proofs.Kept.{kept_delivered, undelivered_pending}
use Rattle.vfm_device.proofs.tests.deliver.Goals as goal

pub returns : goal.returns
returns c = rw c.deliver.ensures (kept_delivered c.args.desc.now 0 c.args.n c.args.engine.now c.requires (sym c.is_undelivered.ensures ∙ c.if-not-is_undelivered.false))

pub deliver-requires : goal.deliver-requires
deliver-requires c =
    record { pending = undelivered_pending c.args.desc.now 0 c.args.n c.args.engine.now c.requires (sym c.is_undelivered.ensures ∙ c.if-not-is_undelivered.false) }
