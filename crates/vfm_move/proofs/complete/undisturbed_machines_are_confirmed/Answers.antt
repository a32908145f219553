-- All packets came, each once.
use Rattle.vfm_move.proofs.AnswerHeard.{answer_all, answer_begun, answer_is}
use Rattle.vfm_move.proofs.Undisturbed.{all_ended, verdict_is_joint}
use Rattle.vfm_move.proofs.complete.undisturbed_machines_are_confirmed.Goals as goal

pub returns-clause-ended : goal.returns-clause-ended
returns-clause-ended c = all_ended

pub returns-clause-verdict : goal.returns-clause-verdict
returns-clause-verdict c = verdict_is_joint

pub returns-clause-answer : goal.returns-clause-answer
returns-clause-answer c = answer_is

pub returns-clause-front : goal.returns-clause-front
returns-clause-front c = answer_begun

pub returns-clause-heard : goal.returns-clause-heard
returns-clause-heard c = answer_all
