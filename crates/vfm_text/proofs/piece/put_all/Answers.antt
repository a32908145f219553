-- A piece that stops the writer stops all the text.
use Rattle.std.proofs.Common.{[], arith}
use Rattle.std.proofs.lemmas.Result.{err_from_is_err_and}
use Rattle.vfm_text.proofs.Parts.{parts}
use Rattle.vfm_text.proofs.piece.put_all.Goals as goal

pub returns-in_err-put : goal.returns-in_err-put
returns-in_err-put g c =
    let p = err_from_is_err_and c.from_residual.result c.from_residual.ensures.1 in
    let writer = g.met.P.TextWriter in
    rw (p.1, parts (λ piece. piece.now) c.args.pieces.now c.loop-piece.piece-index (record { ref_ptr = (0, 0); now = [] }) (omega arith)) (
    writer.stop_before _ _ _ _ (writer.stop_after _ _ _ _ _ c.loop-piece.invariant c.in_err-put.ensures)
    )
