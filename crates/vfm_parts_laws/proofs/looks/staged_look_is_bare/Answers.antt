-- It has no pages and no parts left.
use Rattle.vfm_parts_laws.proofs.LookFacts.{bare_ended}
use Rattle.vfm_parts_laws.proofs.looks.staged_look_is_bare.Goals as goal

pub returns-clause-ended : goal.returns-clause-ended
returns-clause-ended c = λ D m. bare_ended D
