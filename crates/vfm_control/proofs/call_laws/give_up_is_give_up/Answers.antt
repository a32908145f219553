-- What giving up is.
use Rattle.vfm_control.proofs.Calls.{gives_up_offered, gives_up_heard}
use Rattle.vfm_control.proofs.call_laws.give_up_is_give_up.Goals as goal

pub returns-clause-offered : goal.returns-clause-offered
returns-clause-offered c p own offered = gives_up_offered p own offered

pub returns-clause-heard : goal.returns-clause-heard
returns-clause-heard c p own heard = gives_up_heard p own heard
