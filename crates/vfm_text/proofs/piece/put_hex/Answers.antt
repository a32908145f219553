-- The digits of the bytes so far, of the next ones and of the rest are those of all.
use Rattle.std.proofs.Common.{◌+◌, ◌-◌, arith}
use Rattle.std.proofs.lemmas.Result.{err_from_is_err_and}
use Rattle.vfm_text.proofs.Parts.{encode_lower-nil, hex-parts, hex-more}
use Rattle.vfm_text.proofs.piece.put_hex.Goals as goal

pub loop-at-init : goal.loop-at-init
loop-at-init g c = (omega arith, rw encode_lower-nil (g.met.P.TextWriter.nothing _))

pub returns-in_err-put_group : goal.returns-in_err-put_group
returns-in_err-put_group g c =
    let p = err_from_is_err_and c.from_residual.result c.from_residual.ensures.1 in
    let writer = g.met.P.TextWriter in
    rw (p.1, hex-parts c.args.bytes.now c.loop-at.at ((c.loop-at.at + c.min-n.result) - c.loop-at.at)) (
    writer.stop_before _ _ _ _ (writer.stop_after _ _ _ _ _ c.loop-at.invariant.1 c.in_err-put_group.ensures)
    )

pub loop-at-preserved : goal.loop-at-preserved
loop-at-preserved g c = (
  omega arith,
  rw (hex-more c.args.bytes.now c.loop-at.at c.min-n.result ((c.loop-at.at + c.min-n.result) - c.loop-at.at) (omega arith)) (
      g.met.P.TextWriter.more _ _ _ _ _ c.loop-at.invariant.1 c.in_ok-put_group.ensures
      ),
)
