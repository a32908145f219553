-- Where one breaks a rule, that is the fault of all.
use Rattle.std.proofs.Common.{◌+◌, ◌++◌, drop}
use Rattle.vfm_audit.proofs.Making.{fault_of_all}
use Rattle.vfm_audit.proofs.steps.make_all.Goals as goal

pub returns-in-Err-clause-fault : goal.returns-in-Err-clause-fault
returns-in-Err-clause-fault c = λ more.
    fault_of_all c.args.core.now c.loop-i.core c.args.entries.now c.loop-i.i c.index-entries-i.result c.index-entries-i.result more c.in-Err.fault
    c.loop-i.invariant c.loop-i-test.true c.index-entries-i.is
    (c.in-Err.ensures.fault (drop (c.loop-i.i + 1) c.args.entries.now ++ more))
