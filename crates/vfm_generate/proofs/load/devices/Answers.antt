-- Device by device.
use Rattle.std.proofs.Common.{arith, ◌∙◌}
use Rattle.vfm_loads.specs.Generated.{load_shape}
use Rattle.vfm_generate.proofs.Made.{made_more}
use Rattle.vfm_generate.proofs.load.devices.Goals as goal

pub loop-d-preserved : goal.loop-d-preserved
loop-d-preserved c = (
  c.in_ok-push.ensures.items ∙ made_more (load_shape c.args.n) _ _ _ c.loop-d.invariant.0 c.in_ok-shape.ensures,
  omega (arith, c.in_ok-push.ensures.len, c.loop-d.invariant.1),
)
