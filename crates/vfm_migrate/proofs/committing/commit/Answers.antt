-- Go failed to be sent, or it was heard, or not.
use Rattle.std.proofs.Common.{Ok, Err}
use Rattle.vfm_migrate.proofs.SaidAndHeard.{committed, not_sent}
use Rattle.vfm_migrate.proofs.committing.commit.Goals as goal

pub returns-in-Ok-hear-clause-commits : goal.returns-in-Ok-hear-clause-commits
returns-in-Ok-hear-clause-commits g c = λ attempt ends ready.
    committed attempt _ _ c.args.staged ends _ _ _ _ (Ok c.in-Ok-hear.core) ready c.in-Ok.ensures.says c.in-Ok-hear.ensures.hears
    (c.in-Ok-hear.ensures.taken _ ready.ends_for)

pub returns-in-Err-hear-clause-commits : goal.returns-in-Err-hear-clause-commits
returns-in-Err-hear-clause-commits g c = λ attempt ends ready.
    rw c.doubt_of.ensures
    (committed attempt _ _ c.args.staged ends _ _ _ _ (Err c.in-Err-hear.fault) ready c.in-Ok.ensures.says c.in-Err-hear.ensures.hears tt)

pub returns-in-Err-clause-commits : goal.returns-in-Err-clause-commits
returns-in-Err-clause-commits g c = λ attempt ends ready.
    not_sent attempt _ _ c.args.staged ends _ _ _ _ ready c.in-Err.ensures.says
