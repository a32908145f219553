-- By what was told before.
use Rattle.vfm_intake_laws.proofs.Told.{new-index, again}
use Rattle.vfm_intake_laws.proofs.doubles.told_index_stays_the_least.Goals as goal

pub returns-clause-new_index : goal.returns-clause-new_index
returns-clause-new_index c = new-index

pub returns-clause-again : goal.returns-clause-again
returns-clause-again c = again
