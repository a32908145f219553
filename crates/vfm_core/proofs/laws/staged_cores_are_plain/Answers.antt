-- The laws of legal lists.
use Rattle.vfm_core.proofs.Machines.{staged_clean, staged_plain}
use Rattle.vfm_core.proofs.laws.staged_cores_are_plain.Goals as goal

pub returns-clause-clean : goal.returns-clause-clean
returns-clause-clean c = staged_clean

pub returns-clause-machine : goal.returns-clause-machine
returns-clause-machine c = staged_plain
