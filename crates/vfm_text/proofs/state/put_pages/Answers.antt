-- A page more, and a page that stops the writer.
use Rattle.std.proofs.Common.{[], add-one, zero-add, arith}
use Rattle.std.proofs.lemmas.Result.{err_from_is_err_and}
use Rattle.vfm_plain.specs.StateText.{page_line}
use Rattle.vfm_text.proofs.Parts.{numbered-more, numbered-parts}
use Rattle.vfm_text.proofs.state.put_pages.Goals as goal

pub returns-in_err-put_hex_line : goal.returns-in_err-put_hex_line
returns-in_err-put_hex_line g c =
    let p = err_from_is_err_and c.from_residual.result c.from_residual.ensures.1 in
    let writer = g.met.P.TextWriter in
    rw (p.1, numbered-parts page_line 0 (g.M.MachineView.machine c.args.machine.now).pages c.loop-p.p [] (omega arith), zero-add) (
    writer.stop_before _ _ _ _ (writer.stop_after _ _ _ _ _ c.loop-p.invariant (rw c.page.ensures at c.in_err-put_hex_line.ensures))
    )

pub loop-p-preserved : goal.loop-p-preserved
loop-p-preserved g c =
    rw (add-one, numbered-more page_line 0 (g.M.MachineView.machine c.args.machine.now).pages c.loop-p.p [] (omega arith), zero-add) (
    g.met.P.TextWriter.more _ _ _ _ _ c.loop-p.invariant (rw c.page.ensures at c.in_ok-put_hex_line.ensures)
    )
