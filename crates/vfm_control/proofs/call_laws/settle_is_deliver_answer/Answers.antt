-- What the answers of settle are.
use Rattle.vfm_control.proofs.Calls.{settle_ok, settle_unconfirmed, settle_refused}
use Rattle.vfm_control.proofs.call_laws.settle_is_deliver_answer.Goals as goal

pub returns-clause-ok : goal.returns-clause-ok
returns-clause-ok c p session own bytes offered is read = settle_ok p session own bytes offered is read

pub returns-clause-unconfirmed : goal.returns-clause-unconfirmed
returns-clause-unconfirmed c p session own theirs bytes offered other is read = settle_unconfirmed p session own theirs bytes offered is read other

pub returns-clause-refused : goal.returns-clause-refused
returns-clause-refused c p session own bytes refusal offered is read = settle_refused p session own bytes refusal offered is read
