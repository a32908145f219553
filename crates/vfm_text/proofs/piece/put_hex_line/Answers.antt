-- The line in the pieces that it is written in.
use Rattle.std.proofs.Common.{decimal}
use Rattle.std.proofs.lemmas.Result.{err_from_is_err_and, MatchResult-weaker}
use Rattle.hex.specs.Hex.{encode_lower}
use Rattle.vfm_text.proofs.Parts.{hex-line}
use Rattle.vfm_text.proofs.piece.put_hex_line.Goals as goal

pub returns-in_err-put_all : goal.returns-in_err-put_all
returns-in_err-put_all g c =
    let p = err_from_is_err_and c.from_residual.result c.from_residual.ensures.1 in
    let writer = g.met.P.TextWriter in
    rw (p.1, hex-line c.args.word.now (decimal c.args.number) (encode_lower c.args.bytes.now)) (
    writer.stop_before _ _ _ _ (writer.stop_before _ _ _ _ (rw (c.as_bytes.ensures.value, c.format.ensures.text) at c.in_err-put_all.ensures))
    )

pub returns-in_err-put_hex : goal.returns-in_err-put_hex
returns-in_err-put_hex g c =
    let p = err_from_is_err_and c.from_residual-in_err-put_hex.result c.from_residual-in_err-put_hex.ensures.1 in
    let writer = g.met.P.TextWriter in
    rw (p.1, hex-line c.args.word.now (decimal c.args.number) (encode_lower c.args.bytes.now)) (
    writer.stop_before _ _ _ _ (writer.stop_after _ _ _ _ _ (rw (c.as_bytes.ensures.value, c.format.ensures.text) at c.in_ok-put_all.ensures) c.in_err-put_hex.ensures)
    )

pub returns : goal.returns
returns g c =
    let writer = g.met.P.TextWriter in
    rw (hex-line c.args.word.now (decimal c.args.number) (encode_lower c.args.bytes.now)) (
    MatchResult-weaker c.put.result c.put.ensures
    (λ _ h. writer.more _ _ _ _ _ (writer.more _ _ _ _ _ (rw (c.as_bytes.ensures.value, c.format.ensures.text) at c.in_ok-put_all.ensures) c.in_ok-put_hex.ensures) h)
    (λ _ h. writer.stop_after _ _ _ _ _ (writer.more _ _ _ _ _ (rw (c.as_bytes.ensures.value, c.format.ensures.text) at c.in_ok-put_all.ensures) c.in_ok-put_hex.ensures) h)
    )
