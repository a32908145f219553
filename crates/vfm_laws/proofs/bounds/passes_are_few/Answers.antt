-- By induction over the list.
use Rattle.vfm_laws.proofs.Counts.{passes_before_last, passes_in_all}
use Rattle.vfm_laws.proofs.bounds.passes_are_few.Goals as goal

pub returns-clause-before_last : goal.returns-clause-before_last
returns-clause-before_last c = passes_before_last

pub returns-clause-in_all : goal.returns-clause-in_all
returns-clause-in_all c = passes_in_all
