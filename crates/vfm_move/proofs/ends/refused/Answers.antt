-- What was heard or judged is the only cause.
use Rattle.vfm_move.proofs.Answered.{refusal_heard, refusal_unheeded}
use Rattle.vfm_move.proofs.ends.refused.Goals as goal

pub returns-clause-heard : goal.returns-clause-heard
returns-clause-heard c = refusal_heard

pub returns-clause-unheeded : goal.returns-clause-unheeded
returns-clause-unheeded c = refusal_unheeded
