use Rattle.vfm_device.proofs.Kept.{kept_described}
use Rattle.vfm_device.proofs.tests.engine_of.Goals as goal

pub returns : goal.returns
returns c = rw c.in_ok-of.ensures (kept_described c.args.desc.now 0 c.requires c.requires.in_range.count_low)
