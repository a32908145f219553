use Rattle.std.proofs.Common.{true}
use Rattle.vfm_device.proofs.Kept.{kept_issued}
use Rattle.vfm_bench.proofs.leaves.issue.Goals as goal

pub returns-in-Ok : goal.returns-in-Ok
returns-in-Ok c = rw c.issue.ensures (kept_issued c.args.desc.now c.args.d c.in-Ok.n true c.args.engine.now c.requires.kept c.in-Ok.ensures.turn)
