-- A fact of what every list keeps.
use Rattle.vfm_laws.proofs.StateLaws.{barred_running}
use Rattle.vfm_laws.proofs.states.barred_is_running.Goals as goal

pub returns : goal.returns
returns c = barred_running
