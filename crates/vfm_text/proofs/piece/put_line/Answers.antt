-- A word that stops the writer stops the line.
use Rattle.std.proofs.Common.{[], arith}
use Rattle.std.proofs.lemmas.Result.{err_from_is_err_and}
use Rattle.vfm_text.proofs.Parts.{line-parts}
use Rattle.vfm_text.proofs.piece.put_line.Goals as goal

pub returns-in_err-put_all : goal.returns-in_err-put_all
returns-in_err-put_all g c =
    let p = err_from_is_err_and c.from_residual-in_err-put_all.result c.from_residual-in_err-put_all.ensures.1 in
    let writer = g.met.P.TextWriter in
    rw (p.1, line-parts (λ word. word.now) c.args.first.now c.args.words.now c.loop-word.word-index (record { ref_ptr = (0, 0); now = [] }) (omega arith)) (
    writer.stop_before _ _ _ _ (writer.stop_after _ _ _ _ _ c.loop-word.invariant c.in_err-put_all.ensures)
    )
