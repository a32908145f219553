-- The lemmas of the two clauses.
use Rattle.vfm_laws.proofs.FactsAfter.{device_after, device_kept}
use Rattle.vfm_laws.proofs.facts.device_facts_follow.Goals as goal

pub returns-clause-after : goal.returns-clause-after
returns-clause-after c = device_after

pub returns-clause-kept : goal.returns-clause-kept
returns-clause-kept c = device_kept
