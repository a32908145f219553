-- Job by job.
use Rattle.std.proofs.Common.{arith, ◌∙◌}
use Rattle.vfm_loads.specs.Generated.{load_job}
use Rattle.vfm_generate.proofs.Made.{made_more}
use Rattle.vfm_generate.proofs.device.jobs.Goals as goal

pub loop-j-preserved : goal.loop-j-preserved
loop-j-preserved c = (
  c.in_ok-push.ensures.items ∙ made_more (load_job c.args.n c.args.d) _ _ _ c.loop-j.invariant.0 c.job.ensures,
  omega (arith, c.in_ok-push.ensures.len, c.loop-j.invariant.1),
)
