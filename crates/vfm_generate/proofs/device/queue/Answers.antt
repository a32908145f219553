-- Request by request.
use Rattle.std.proofs.Common.{◌≡◌, arith, ◌∙◌}
use Rattle.vfm_loads.specs.Generated.{queued_job}
use Rattle.vfm_generate.proofs.Made.{made_more, queue_made}
use Rattle.vfm_generate.proofs.device.queue.Goals as goal

pub loop-n-preserved : goal.loop-n-preserved
loop-n-preserved c = (
  c.in_ok-push.ensures.items ∙ made_more queued_job _ _ _ c.loop-n.invariant.0 c.queued_job.ensures,
  omega (arith, c.in_ok-push.ensures.len, c.loop-n.invariant.1),
)

pub returns-clause-items : goal.returns-clause-items
returns-clause-items c =
    let end : c.loop-n.n ≡ 1088 = omega (arith, c.loop-n-test.false, c.loop-n.auto.n-end) in queue_made _ _ end c.loop-n.invariant.0
