-- What the answers of finish are.
use Rattle.vfm_control.proofs.Calls.{finish_ok, finish_other}
use Rattle.vfm_control.proofs.call_laws.finish_is_deliver_go.Goals as goal

pub returns-clause-ok : goal.returns-clause-ok
returns-clause-ok c p session digest bytes staged is read = finish_ok p session digest bytes staged is read

pub returns-clause-other : goal.returns-clause-other
returns-clause-other c p session digest theirs bytes staged other is read = finish_other p session digest theirs bytes staged is read other
