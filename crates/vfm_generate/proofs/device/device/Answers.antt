-- Member by member.
use Rattle.std.proofs.Common.{◌∙◌}
use Rattle.vfm_generate.proofs.Made.{shape_made}
use Rattle.vfm_generate.proofs.device.device.Goals as goal

pub returns : goal.returns
returns c =
    shape_made c.args.n c.args.d _ _ _ _ _ c.name.ensures c.flags.ensures c.bars.ensures
    (c.of.ensures ∙ c.in_ok-jobs.ensures.items) (c.of-2.ensures ∙ c.in_ok-queue.ensures.items)
