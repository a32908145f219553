use Rattle.vfm_device.proofs.Kept.{kept_described, kept_staged}
use Rattle.vfm_device.proofs.laws.engines_start_in_order.Goals as goal

pub returns-clause-described : goal.returns-clause-described
returns-clause-described c = kept_described

pub returns-clause-staged : goal.returns-clause-staged
returns-clause-staged c = kept_staged
