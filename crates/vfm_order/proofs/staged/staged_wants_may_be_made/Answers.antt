-- What is wanted is wanted of the whole list.
use Rattle.vfm_order.proofs.StagedLooks.{staged_made}
use Rattle.vfm_order.proofs.staged.staged_wants_may_be_made.Goals as goal

pub returns-clause-own : goal.returns-clause-own
returns-clause-own c = λ D before mine n entry staged same. (staged_made D staged.valid before mine staged.whole staged.legal n entry same).1

pub returns-clause-in_range : goal.returns-clause-in_range
returns-clause-in_range c = λ D before mine n entry staged same. (staged_made D staged.valid before mine staged.whole staged.legal n entry same).0.0

pub returns-clause-meets : goal.returns-clause-meets
returns-clause-meets c = λ D before mine n entry staged same. (staged_made D staged.valid before mine staged.whole staged.legal n entry same).0.1
