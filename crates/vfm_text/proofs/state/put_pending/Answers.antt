-- A request that stops the writer stops them all.
use Rattle.std.proofs.Common.{arith}
use Rattle.std.proofs.lemmas.Result.{err_from_is_err_and}
use Rattle.vfm_plain.specs.StateText.{pending_line}
use Rattle.vfm_text.proofs.Parts.{parts}
use Rattle.vfm_text.proofs.state.put_pending.Goals as goal

pub returns-in_err-put_request : goal.returns-in_err-put_request
returns-in_err-put_request g c =
    let p = err_from_is_err_and c.from_residual.result c.from_residual.ensures.1 in
    let writer = g.met.P.TextWriter in
    rw (p.1, parts (pending_line c.args.d) c.args.pending.now c.loop-request.request-index (0, 0) (omega arith)) (
    writer.stop_before _ _ _ _ (writer.stop_after _ _ _ _ _ c.loop-request.invariant c.in_err-put_request.ensures)
    )
