-- What answering is.
use Rattle.vfm_control.proofs.Calls.{answer_staged, answer_refused}
use Rattle.vfm_control.proofs.call_laws.answer_is_stage_or_refuse.Goals as goal

pub returns-clause-staged : goal.returns-clause-staged
returns-clause-staged c p digest staging = answer_staged p digest staging

pub returns-clause-refused : goal.returns-clause-refused
returns-clause-refused c p refusal staging = answer_refused p refusal staging
