-- The summary stands after the line.
use Rattle.std.proofs.lemmas.Result.{MatchResult-weaker}
use Rattle.vfm_top.specs.Text.{summary}
use Rattle.vfm_status.specs.StatusText.{status_line}
use Rattle.vfm_top.proofs.summary.put_load.Goals as goal

pub returns-in-Some : goal.returns-in-Some
returns-in-Some g c =
    let writer = g.met.P.TextWriter in
    let status = status_line c.args.status.now in
    let part = summary c.args.number c.args.desc.now (g.M.MachineView.machine c.in-Some.machine.now) in
    rw (c.in-Some.is)
    (MatchResult-weaker c.put_summary.result c.put_summary.ensures
    (λ _ h. writer.more _ _ _ status part c.in_ok-put_status.ensures h)
    (λ _ h. writer.stop_after _ _ _ status part c.in_ok-put_status.ensures h))
