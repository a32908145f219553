-- One journal after the other.
use Rattle.std.proofs.Common.{◌++◌, List, [], ap, ◌∙◌}
use Rattle.std.specs.Prelude.{option_map, unwrap_or}
use Rattle.vfm_types.specs.declared.entry.Entry.{Entry}
use Rattle.vfm_audit.proofs.Making.{fault_for, fault_in_second, two_made, unbroken_for}
use Rattle.vfm_audit.proofs.journals.audit.Goals as goal

pub returns-in-Err-clause-fault : goal.returns-in-Err-clause-fault
returns-in-Err-clause-fault c =
    let dest = unwrap_or (option_map (λ j. j.now.entries) c.args.dest) [] in
    fault_for _ _ _ _ c.in-Err.fault c.in-Ok.ensures.desc
    (ap (λ (xs : List Entry). (xs ++ c.as_slice.result.now) ++ dest) c.in-Ok.ensures.new ∙ ap (λ (xs : List Entry). xs ++ dest) c.as_slice.ensures)
    (c.in-Err.ensures.fault dest)

pub returns-in-Err-make_all-clause-fault : goal.returns-in-Err-make_all-clause-fault
returns-in-Err-make_all-clause-fault c =
    fault_in_second c.args.desc.now c.in-Ok.core c.make_all.new.core _ _ c.args.source.now.entries _ c.in-Err-make_all.fault
    c.in-Ok.ensures.desc c.in-Ok.ensures.new c.in_default-make_all.ensures.made c.as_slice.ensures c.entries_of.ensures
    (c.in-Err-make_all.ensures.fault [])

pub returns-in-Ok-machine_of-clause-fault : goal.returns-in-Ok-machine_of-clause-fault
returns-in-Ok-machine_of-clause-fault c =
    let made = c.in_default-make_all.ensures.made in
    let then = c.in_default-make_all-2.ensures.made in
    unbroken_for _ c.make_all-2.new.core _ (then.desc ∙ made.desc ∙ c.in-Ok.ensures.desc)
    (two_made c.in-Ok.core c.make_all.new.core c.make_all-2.new.core _ _ c.args.source.now.entries _ c.in-Ok.ensures.new made then c.as_slice.ensures c.entries_of.ensures)
    then.parts
