-- By induction over the list.
use Rattle.vfm_laws.proofs.Counts.{issued_completed, issued_done, issued_within}
use Rattle.vfm_laws.proofs.bounds.issues_add_up.Goals as goal

pub returns-clause-completed : goal.returns-clause-completed
returns-clause-completed c = issued_completed

pub returns-clause-done : goal.returns-clause-done
returns-clause-done c = issued_done

pub returns-clause-accepted : goal.returns-clause-accepted
returns-clause-accepted c = issued_within
