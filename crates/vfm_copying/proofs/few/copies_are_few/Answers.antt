-- By counting what is left.
use Rattle.vfm_copying.proofs.FewCopies.{copy_left, few_copies, few_in_pass, most_copies}
use Rattle.vfm_copying.proofs.few.copies_are_few.Goals as goal

pub returns-clause-once : goal.returns-clause-once
returns-clause-once c = copy_left

pub returns-clause-in_pass : goal.returns-clause-in_pass
returns-clause-in_pass c = few_in_pass

pub returns-clause-in_all : goal.returns-clause-in_all
returns-clause-in_all c = few_copies

pub returns-clause-at_most : goal.returns-clause-at_most
returns-clause-at_most c = most_copies
