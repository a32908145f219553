-- The least that passes.
use Rattle.vfm_intake_laws.proofs.Told.{doubled-gap}
use Rattle.vfm_intake_laws.proofs.doubles.doubled_index_is_the_gap.Goals as goal

pub returns : goal.returns
returns c = doubled-gap
