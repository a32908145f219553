-- Field by field.
use Rattle.vfm_parts.proofs.Words.{closed_is, decided_is, reported_is}
use Rattle.vfm_parts_laws.proofs.LookFacts.{set_told, size_told}
use Rattle.vfm_parts_laws.proofs.looks.move_looks_are_facts.Goals as goal

pub returns-clause-ended : goal.returns-clause-ended
returns-clause-ended c = closed_is

pub returns-clause-decided : goal.returns-clause-decided
returns-clause-decided c = decided_is

pub returns-clause-reported : goal.returns-clause-reported
returns-clause-reported c = reported_is

pub returns-clause-set : goal.returns-clause-set
returns-clause-set c = set_told

pub returns-clause-size : goal.returns-clause-size
returns-clause-size c = size_told
