-- A fact of what every list keeps.
use Rattle.vfm_laws.proofs.StateLaws.{issuer_runs, stopped_nothing}
use Rattle.vfm_laws.proofs.states.outstanding_is_awake.Goals as goal

pub returns-clause-awake : goal.returns-clause-awake
returns-clause-awake c = issuer_runs

pub returns-clause-stopped : goal.returns-clause-stopped
returns-clause-stopped c = stopped_nothing
