-- The laws of legal lists.
use Rattle.vfm_core.proofs.Machines.{after_clean, after_plain}
use Rattle.vfm_core.proofs.laws.cores_are_plain.Goals as goal

pub returns-clause-clean : goal.returns-clause-clean
returns-clause-clean c = after_clean

pub returns-clause-machine : goal.returns-clause-machine
returns-clause-machine c = after_plain
