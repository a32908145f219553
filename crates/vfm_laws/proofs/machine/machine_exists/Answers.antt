-- By induction over the list.
use Rattle.vfm_laws.proofs.Enabled.{machine_sound, plain_exists}
use Rattle.vfm_laws.proofs.machine.machine_exists.Goals as goal

pub returns-clause-exists : goal.returns-clause-exists
returns-clause-exists c = plain_exists

pub returns-clause-sound : goal.returns-clause-sound
returns-clause-sound c = machine_sound
