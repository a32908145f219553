-- The lemmas of the two clauses.
use Rattle.vfm_laws.proofs.FactsAfter.{move_after, move_kept}
use Rattle.vfm_laws.proofs.facts.move_facts_follow.Goals as goal

pub returns-clause-after : goal.returns-clause-after
returns-clause-after c = move_after

pub returns-clause-kept : goal.returns-clause-kept
returns-clause-kept c = move_kept
