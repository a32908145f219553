-- Journals and states, one after the other.
use Rattle.std.proofs.Common.{◌++◌, List, [], length, ap, ◌∙◌}
use Rattle.std.specs.Prelude.{option_map, unwrap_or}
use Rattle.vfm_types.specs.declared.entry.Entry.{Entry}
use Rattle.vfm_audit.proofs.Making.{fault_for, fault_in_second, two_made, unbroken_for}
use Rattle.vfm_audit.proofs.Printed.{entries_lent, final_so, joint_so}
use Rattle.vfm_audit.proofs.report.found_in.Goals as goal

pub returns-in-Err : goal.returns-in-Err
returns-in-Err c =
    let dest = unwrap_or (option_map (λ j. j.entries) c.args.report.now.dest) [] in
    fault_for _ _ _ _ c.in-Err.fault c.in-Ok.ensures.desc (ap (λ (xs : List Entry). xs ++ dest) c.as_slice-source.ensures)
    (c.in-Err.ensures.fault dest)

pub returns-in-Err-make_all : goal.returns-in-Err-make_all
returns-in-Err-make_all c =
    fault_in_second c.args.desc.now c.in-Ok.core c.make_source.new.core _ _ c.args.report.now.source.entries _ c.in-Err-make_all.fault
    c.in-Ok.ensures.desc c.in-Ok.ensures.new c.in-Ok-make_source.ensures.made c.as_slice-source.ensures
    (c.entries_of.ensures ∙ entries_lent c.as_ref-2.result c.args.report.now.dest c.as_ref-2.ensures.value)
    (c.in-Err-make_all.ensures.fault [])

pub returns-in-Ok-shows : goal.returns-in-Ok-shows
returns-in-Ok-shows c =
    let made = c.in-Ok-make_source.ensures.made in
    let then = c.in_default-make_all.ensures.made in
    let second = c.entries_of.ensures ∙ entries_lent c.as_ref-2.result c.args.report.now.dest c.as_ref-2.ensures.value in
    let desc = then.desc ∙ made.desc ∙ c.in-Ok.ensures.desc in
    let entries = two_made c.in-Ok.core c.make_source.new.core c.make_all.new.core _ _ c.args.report.now.source.entries _
    c.in-Ok.ensures.new made then c.as_slice-source.ensures second in
    record {
      unbroken = unbroken_for _ c.make_all.new.core _ desc entries then.parts;
      joint = joint_so _ _ _ _ c.as_ref.result c.args.report.now.joint c.in-Ok-make_source.joint c.in-Ok.ensures.desc c.as_slice-source.ensures
          c.as_ref.ensures.value c.in-Ok-make_source.ensures.joint;
      last = final_so _ _ _ _ c.as_ref-3.result c.args.report.now.last c.in-Ok-shows.last desc entries c.as_ref-3.ensures.value c.in-Ok-shows.ensures;
      count = c.len.ensures ∙ ap length (c.journal.ensures ∙ entries);
    }
