-- By induction over the list, each way.
use Rattle.vfm_laws.proofs.Walks.{legal_inside, legal_unbroken, unbroken_legal}
use Rattle.vfm_laws.proofs.prefixes.unbroken_is_legal.Goals as goal

pub returns-clause-legal : goal.returns-clause-legal
returns-clause-legal c = unbroken_legal

pub returns-clause-unbroken : goal.returns-clause-unbroken
returns-clause-unbroken c = legal_unbroken

pub returns-clause-in_range : goal.returns-clause-in_range
returns-clause-in_range c = legal_inside
