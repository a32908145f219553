use Rattle.vfm_device.proofs.Kept.{kept_described}
use Rattle.vfm_bench.proofs.leaves.engine_of.Goals as goal

pub returns : goal.returns
returns c = rw c.in-Ok.ensures (kept_described c.args.desc.now c.args.d c.requires.valid c.requires.device)
