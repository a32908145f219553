-- The description is none, or its machine is migrated.
use Rattle.std.proofs.Common.{refl}
use Rattle.vfm_top.proofs.Outcomes.{migrated, printable, refused}
use Rattle.vfm_top.proofs.outcome.outcome_of_source.Goals as goal

pub returns-in-Err-clause-outcome : goal.returns-in-Err-clause-outcome
returns-in-Err-clause-outcome g c = λ call over. refused _ _ _ call c.in-Err.status over refl c.in-Err.ensures.undescribed

pub returns-in-Ok-clause-outcome : goal.returns-in-Ok-clause-outcome
returns-in-Ok-clause-outcome g c = λ call over. migrated _ _ _ call c.in-Ok.desc c.migrate.result over c.in-Ok.ensures.described c.migrate.ensures

pub returns-in-Ok-clause-printable : goal.returns-in-Ok-clause-printable
returns-in-Ok-clause-printable g c = printable _ c.in-Ok.desc c.migrate.result c.in-Ok.ensures.described.valid c.migrate.ensures
