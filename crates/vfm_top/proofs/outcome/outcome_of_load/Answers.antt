-- The load is generated and migrated, or memory ran out before.
use Rattle.std.proofs.Common.{refl}
use Rattle.vfm_top.proofs.Outcomes.{load_migrated, load_refused, printable}
use Rattle.vfm_top.proofs.outcome.outcome_of_load.Goals as goal

pub returns-in-Err-clause-outcome : goal.returns-in-Err-clause-outcome
returns-in-Err-clause-outcome g c = λ call over. load_refused _ _ _ call over refl

pub returns-in-Ok-clause-outcome : goal.returns-in-Ok-clause-outcome
returns-in-Ok-clause-outcome g c = λ call over. load_migrated _ _ _ call c.in-Ok.desc c.migrate.result over c.in-Ok.ensures.value c.migrate.ensures

pub returns-in-Ok-clause-printable : goal.returns-in-Ok-clause-printable
returns-in-Ok-clause-printable g c = printable _ c.in-Ok.desc c.migrate.result c.in-Ok.ensures.valid c.migrate.ensures
