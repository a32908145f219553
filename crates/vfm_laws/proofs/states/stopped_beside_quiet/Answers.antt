-- A fact of what every list keeps.
use Rattle.vfm_laws.proofs.StateLaws.{stopped_tame}
use Rattle.vfm_laws.proofs.states.stopped_beside_quiet.Goals as goal

pub returns : goal.returns
returns c = stopped_tame
