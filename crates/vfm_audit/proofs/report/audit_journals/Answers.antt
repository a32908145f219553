-- The entries that were read name what the machine has.
use Rattle.std.proofs.Common.{List, [], ap, sym, subst}
use Rattle.std.specs.Prelude.{option_map, unwrap_or}
use Rattle.vfm_types.specs.declared.entry.Entry.{Entry}
use Rattle.vfm_audit.specs.Audit.{AreEntriesOf}
use Rattle.vfm_audit.proofs.Audits.{all_there, dest_there}
use Rattle.vfm_audit.proofs.Printed.{entries_lent}
use Rattle.vfm_audit.proofs.report.audit_journals.Goals as goal

pub audit-requires-clause-source : goal.audit-requires-clause-source
audit-requires-clause-source c = all_there c.args.desc.now c.args.report.now.source.entries c.requires.printed.source

pub audit-requires-clause-dest : goal.audit-requires-clause-dest
audit-requires-clause-dest c =
    subst (AreEntriesOf c.args.desc.now) (sym (entries_lent c.as_ref.result c.args.report.now.dest c.as_ref.ensures.value))
    (dest_there c.args.desc.now _ c.requires.printed.destination)
