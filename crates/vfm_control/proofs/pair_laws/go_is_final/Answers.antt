-- Go stays sent, and a source that sent it neither runs nor can give up.
use Rattle.vfm_control.proofs.Histories.{sent_go, resumed_none, no_giving_up_after_go}
use Rattle.vfm_control.proofs.pair_laws.go_is_final.Goals as goal

pub returns-clause-never : goal.returns-clause-never
returns-clause-never c own events happened resumed =
    let go = sent_go own events happened in
    let none = resumed_none own events resumed in
    absurd cc

pub returns-clause-refused : goal.returns-clause-refused
returns-clause-refused c own events happened = no_giving_up_after_go own events (sent_go own events happened)

pub returns-clause-digest : goal.returns-clause-digest
returns-clause-digest c own events happened = sent_go own events happened
