-- The parts stand after the line.
use Rattle.std.proofs.lemmas.Result.{MatchResult-weaker}
use Rattle.vfm_plain.specs.Report.{parts_text}
use Rattle.vfm_text.specs.Parts.{made_of}
use Rattle.vfm_status.specs.StatusText.{status_line}
use Rattle.vfm_top.proofs.print.put_report.Goals as goal

pub returns-in-Some : goal.returns-in-Some
returns-in-Some g c =
    let writer = g.met.P.TextWriter in
    let status = status_line c.args.status.now in
    let parts = parts_text (made_of g.M.MachineView.machine c.in-Some.parts.now) in
    rw (c.in-Some.is)
    (MatchResult-weaker c.put_parts.result c.put_parts.ensures
    (λ _ h. writer.more _ _ _ status parts c.in_ok-put_status.ensures h)
    (λ _ h. writer.stop_after _ _ _ status parts c.in_ok-put_status.ensures h))
