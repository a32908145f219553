-- A destination runs only where Go was sent, and a source that gave up sends none.
use Rattle.std.proofs.Common.{◌++◌}
use Rattle.vfm_control.proofs.Histories.{resumed_none, resumed_sends_none, running_go, go_stays_sent}
use Rattle.vfm_control.proofs.pair_laws.never_both_run.Goals as goal

pub returns-clause-together : goal.returns-clause-together
returns-clause-together c own events digest resumed running =
    let none = resumed_none own events resumed in
    let go = (running_go own events digest running).1 in
    absurd cc

pub returns-clause-after_resume : goal.returns-clause-after_resume
returns-clause-after_resume c own later earlier digest resumed running =
    let none = resumed_sends_none own later earlier resumed in
    let go = (running_go own (later ++ earlier) digest running).1 in
    absurd cc

pub returns-clause-after_run : goal.returns-clause-after_run
returns-clause-after_run c own later earlier digest running resumed =
    let go = go_stays_sent own later earlier own (running_go own earlier digest running).1 in
    let none = resumed_none own (later ++ earlier) resumed in
    absurd cc
