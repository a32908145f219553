-- What the audit of the report answered.
use Rattle.std.proofs.Common.{refl}
use Rattle.vfm_report.specs.Parts.{parts_of}
use Rattle.vfm_report.specs.Readers.{made_from}
use Rattle.vfm_top.proofs.Audits.{audited_so}
use Rattle.vfm_top.proofs.audited.audit_printed.Goals as goal

pub returns-in-Ok-clause-audited : goal.returns-in-Ok-clause-audited
returns-in-Ok-clause-audited g c =
    audited_so c.args.desc.now _ _ (made_from c.args.desc.now (parts_of c.in-Ok.report)) c.audit_report.result c.outcome_of_audit.result.status
    c.outcome_of_audit.result.entries c.outcome_of_audit.ensures.status c.outcome_of_audit.ensures.entries refl c.in-Ok.ensures.printed
    c.in-Ok.ensures.reported c.audit_report.ensures
