use Rattle.vfm_device.proofs.Kept.{kept_rung}
use Rattle.vfm_device.proofs.tests.ring.Goals as goal

pub returns : goal.returns
returns c = rw c.ring.ensures.rung (kept_rung c.args.desc.now 0 c.args.number c.args.engine.now c.requires.kept)
