-- Sizes that aren't kept are refused.
use Rattle.std.proofs.Common.{refl}
use Rattle.vfm_desc.specs.Reading.{sizes_together}
use Rattle.vfm_desc.proofs.SizesTogether.{not_kept}
use Rattle.vfm_desc.proofs.sizes.together.Goals as goal

pub returns-in_default-clause-value : goal.returns-in_default-clause-value
unfolding sizes_together
returns-in_default-clause-value c = rw (not_kept c.args.sizes.now c.of.result c.of.ensures.known c.in_default.is, c.field.ensures) refl
