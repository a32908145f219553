use Rattle.vfm_plain.proofs.Effects.{counts-do_request}
use Rattle.vfm_plain.proofs.laws.doing_keeps_counts.Goals as goal

pub returns : goal.returns
returns c = counts-do_request
