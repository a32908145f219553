-- The entries before Joint, and then the others.
use Rattle.std.proofs.Common.{◌++◌, List, drop, subst}
use Rattle.vfm_types.specs.declared.entry.Entry.{Entry}
use Rattle.vfm_audit.specs.Audit.{IsFaultOf}
use Rattle.vfm_audit.specs.Steps.{HasMade}
use Rattle.vfm_audit.proofs.Making.{both_made, fault_behind_front, fault_in_front, rest_all}
use Rattle.vfm_audit.proofs.report.make_source.Goals as goal

pub returns-in-Err-clause-fault : goal.returns-in-Err-clause-fault
returns-in-Err-clause-fault c = λ more.
    fault_in_front c.args.core.now c.args.entries.now c.before_joint-before.result more c.in-Err.fault c.requires.new
    (c.in-Err.ensures.fault (drop c.before_joint-before.result c.args.entries.now ++ more))

pub returns-in-Err-make_all-clause-fault : goal.returns-in-Err-make_all-clause-fault
returns-in-Err-make_all-clause-fault c = λ more.
    fault_behind_front c.args.core.now c.make_all.new.core c.args.entries.now c.before_joint-before.result more c.in-Err-make_all.fault
    c.requires.new c.in_default.ensures.made
    (subst (λ (rest : List Entry). IsFaultOf c.make_all.new.core.desc ((c.make_all.new.core.entries ++ rest) ++ more) c.in-Err-make_all.fault)
    (rest_all c.args.entries.now c.before_joint-before.result) (c.in-Err-make_all.ensures.fault more))

pub returns-then-before-entries-clause-made : goal.returns-then-before-entries-clause-made
returns-then-before-entries-clause-made c =
    both_made c.args.core.now c.make_all.new.core c.make_all-2.new.core c.args.entries.now c.before_joint-before.result
    c.in_default.ensures.made
    (subst (λ (rest : List Entry). HasMade c.make_all.new.core rest c.make_all-2.new.core)
    (rest_all c.args.entries.now c.before_joint-before.result) c.in_default-make_all.ensures.made)

pub returns-else-same-clause-made : goal.returns-else-same-clause-made
returns-else-same-clause-made c =
    both_made c.args.core.now c.make_all.new.core c.make_all-2.new.core c.args.entries.now c.before_joint-before.result
    c.in_default.ensures.made
    (subst (λ (rest : List Entry). HasMade c.make_all.new.core rest c.make_all-2.new.core)
    (rest_all c.args.entries.now c.before_joint-before.result) c.in_default-make_all.ensures.made)
