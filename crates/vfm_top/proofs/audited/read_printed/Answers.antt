-- What was read is a report, or has that bad line.
use Rattle.std.proofs.Common.{ℕ, List, subst}
use Rattle.vfm_outside.specs.Tells.{SourceTells, source_tells}
use Rattle.vfm_report.specs.declared.report.Report.{Report}
use Rattle.vfm_report.specs.Parts.{parts_of}
use Rattle.vfm_report.specs.Readers.{made_from}
use Rattle.vfm_top.specs.Call.{report_limit, IsReadTo}
use Rattle.vfm_top.specs.Sources.{IsNoReport, IsShortReport, IsUnreported}
use Rattle.vfm_top.proofs.Outcomes.{err_so, ok_so, read_to, unreported}
use Rattle.vfm_top.proofs.audited.read_printed.Goals as goal

pub returns-in-Ok-clause-reported : goal.returns-in-Ok-clause-reported
returns-in-Ok-clause-reported g c =
    let old : SourceTells = source_tells (g.R.Source.left c.args.report.now) (g.R.Source.faults c.args.report.now) in
    let new : SourceTells = source_tells (g.R.Source.left c.read_up_to.new.source) (g.R.Source.faults c.read_up_to.new.source) in
    ok_so (λ (r : Report). IsShortReport (made_from c.args.desc.now (parts_of r)) c.as_slice.result.now)
    (λ (r : Report). IsReadTo report_limit (IsShortReport (made_from c.args.desc.now (parts_of r))) old new) c.reported.result
    (λ r short.
    read_to report_limit (IsShortReport (made_from c.args.desc.now (parts_of r))) c.in-Ok.bytes.items old new c.in-Ok.ensures.bytes
    c.in-Ok.ensures.rest c.in-Ok.ensures.ok
    (subst (IsShortReport (made_from c.args.desc.now (parts_of r))) c.as_slice.ensures.value short))
    c.reported.ensures.reported

pub returns-in-Ok-clause-unreported : goal.returns-in-Ok-clause-unreported
returns-in-Ok-clause-unreported g c =
    let old : SourceTells = source_tells (g.R.Source.left c.args.report.now) (g.R.Source.faults c.args.report.now) in
    let new : SourceTells = source_tells (g.R.Source.left c.read_up_to.new.source) (g.R.Source.faults c.read_up_to.new.source) in
    err_so (IsNoReport c.args.desc.now c.as_slice.result.now) (IsUnreported c.args.desc.now old new) c.reported.result
    (λ status none.
    unreported c.args.desc.now c.in-Ok.bytes.items old new status c.in-Ok.ensures.bytes c.in-Ok.ensures.rest c.in-Ok.ensures.ok
    (subst (λ (bytes : List ℕ). IsNoReport c.args.desc.now bytes status) c.as_slice.ensures.value none))
    c.reported.ensures.refused
