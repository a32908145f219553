-- The title, and then the machine.
use Rattle.std.proofs.Common.{[], ◌∷◌}
use Rattle.std.specs.Prelude.{codes}
use Rattle.std.proofs.lemmas.Result.{err_from_is_err_and, MatchResult-weaker}
use Rattle.vfm_plain.specs.Text.{line}
use Rattle.vfm_plain.specs.StateText.{state_text}
use Rattle.vfm_text.proofs.report.put_state_part.Goals as goal

pub returns-in_err-put_line : goal.returns-in_err-put_line
returns-in_err-put_line g c =
    let p = err_from_is_err_and c.from_residual.result c.from_residual.ensures.1 in
    rw (p.1) (g.met.P.TextWriter.stop_before _ _ (line (codes "state") (c.args.title.now ∷ [])) (state_text c.args.desc.now (g.M.MachineView.machine c.args.machine.now)) c.in_err-put_line.ensures)

pub returns : goal.returns
returns g c =
    let writer = g.met.P.TextWriter in
    MatchResult-weaker c.put_state.result c.put_state.ensures
    (λ _ h. writer.more _ _ _ (line (codes "state") (c.args.title.now ∷ [])) (state_text c.args.desc.now (g.M.MachineView.machine c.args.machine.now)) c.in_ok-put_line.ensures h)
    (λ _ h. writer.stop_after _ _ _ (line (codes "state") (c.args.title.now ∷ [])) (state_text c.args.desc.now (g.M.MachineView.machine c.args.machine.now)) c.in_ok-put_line.ensures h)
