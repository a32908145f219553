-- By induction over the rest of the walk.
use Rattle.vfm_laws.proofs.Walks.{broken_inside, broken_legal, broken_rule}
use Rattle.vfm_laws.proofs.prefixes.broken_is_first.Goals as goal

pub returns-clause-inside : goal.returns-clause-inside
returns-clause-inside c = broken_inside

pub returns-clause-legal : goal.returns-clause-legal
returns-clause-legal c = broken_legal

pub returns-clause-rule : goal.returns-clause-rule
returns-clause-rule c = broken_rule
