-- An idle device has nothing pending.
use Rattle.vfm_laws.proofs.EndedRuns.{ended_done, ended_outstanding, ended_pending}
use Rattle.vfm_laws.proofs.ended.ended_is_done.Goals as goal

pub returns-clause-pending : goal.returns-clause-pending
returns-clause-pending c = ended_pending

pub returns-clause-outstanding : goal.returns-clause-outstanding
returns-clause-outstanding c = ended_outstanding

pub returns-clause-done : goal.returns-clause-done
returns-clause-done c = ended_done
