-- What is wanted fits the list.
use Rattle.vfm_order.proofs.Wants.{want_made}
use Rattle.vfm_order.proofs.making.wants_may_be_made.Goals as goal

pub returns-clause-own : goal.returns-clause-own
returns-clause-own c = λ D past n entry valid legal same. (want_made D valid past legal n entry same).1

pub returns-clause-in_range : goal.returns-clause-in_range
returns-clause-in_range c = λ D past n entry valid legal same. (want_made D valid past legal n entry same).0.0

pub returns-clause-meets : goal.returns-clause-meets
returns-clause-meets c = λ D past n entry valid legal same. (want_made D valid past legal n entry same).0.1
