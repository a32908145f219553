use Rattle.vfm_device.proofs.Kept.{kept_issued}
use Rattle.vfm_device.proofs.tests.issue.Goals as goal

pub returns-in-Ok : goal.returns-in-Ok
returns-in-Ok c = rw c.issue.ensures (kept_issued c.args.desc.now 0 c.in-Ok.n c.args.begun c.args.engine.now c.requires.kept c.in-Ok.ensures.turn)
