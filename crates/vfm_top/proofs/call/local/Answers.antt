-- Words that need no machine are answered as `run` answers them.
use Rattle.std.proofs.Common.{refl, sym, ◌∙◌, ap, Some}
use Rattle.vfm_top.proofs.Promises.{without_form, with_audit, with_path}
use Rattle.vfm_top.proofs.call.local.Goals as goal

pub returns-in_default-clause-promises : goal.returns-in_default-clause-promises
returns-in_default-clause-promises g c = λ wires. without_form _ (sym c.read_words.ensures ∙ c.in_default.is) refl refl refl c.print_line.ensures

pub returns-in-Paths-clause-promises : goal.returns-in-Paths-clause-promises
returns-in-Paths-clause-promises g c = λ wires.
    with_path _ c.in-Paths.from c.in-Paths.to c.in-Paths.flags (sym c.in-Some.ensures ∙ ap Some c.in-Paths.is) refl refl refl c.answer_path.ensures

pub returns-in-Audit-clause-promises : goal.returns-in-Audit-clause-promises
returns-in-Audit-clause-promises g c = λ wires.
    let audit = c.audit_sources in
    let form = sym c.in-Some.ensures ∙ ap Some c.in-Audit.is in
    with_audit _ audit.result.status audit.result.entries form
    (audit.ensures.outcome _
    (record { asked = form; desc_before = refl; desc_now = refl; report_before = refl; report_now = refl; wires = refl }))
    (audit.ensures.counted _
    (record { asked = form; desc_before = refl; desc_now = refl; report_before = refl; report_now = refl; wires = refl }))
    audit.ensures.read audit.ensures.report_read refl c.print_audit.ensures
