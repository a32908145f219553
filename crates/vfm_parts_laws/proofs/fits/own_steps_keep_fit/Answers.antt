-- The queue stays in order, and the counts agree.
use Rattle.vfm_parts_laws.proofs.FittingQueues.{issue_fits, complete_fits, own_deliver_fits}
use Rattle.vfm_parts_laws.proofs.fits.own_steps_keep_fit.Goals as goal

pub returns-clause-issue : goal.returns-clause-issue
returns-clause-issue c = issue_fits

pub returns-clause-complete : goal.returns-clause-complete
returns-clause-complete c = complete_fits

pub returns-clause-deliver : goal.returns-clause-deliver
returns-clause-deliver c = own_deliver_fits
