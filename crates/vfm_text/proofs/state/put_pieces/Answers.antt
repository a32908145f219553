-- A piece more, and a piece that stops the writer.
use Rattle.std.proofs.Common.{◌<◌, [], length, add-one, zero-add, refl, arith}
use Rattle.std.proofs.lemmas.Result.{err_from_is_err_and}
use Rattle.std.proofs.lemmas.List.{take_all}
use Rattle.vfm_plain.specs.StateText.{pieces, numbered_bar_line}
use Rattle.vfm_text.proofs.Parts.{numbered-more, numbered-parts}
use Rattle.vfm_text.proofs.Pieces.{length-pieces, next_within, piece_is, left_more}
use Rattle.vfm_text.proofs.state.put_pieces.Goals as goal

pub loop-k-init : goal.loop-k-init
loop-k-init g c = record { left = record { cut = refl; count = c.requires.whole }; written = g.met.P.TextWriter.nothing _ }

pub split_at-requires : goal.split_at-requires
split_at-requires g c =
    next_within c.args.sizes.now c.args.bytes.now c.loop-k.rest.now c.loop-k.k c.loop-k-test.true c.loop-k.invariant.left

pub returns-in_err-put_bar : goal.returns-in_err-put_bar
returns-in_err-put_bar g c =
    let p = err_from_is_err_and c.from_residual.result c.from_residual.ensures.1 in
    let writer = g.met.P.TextWriter in
    let sizes = c.args.sizes.now in
    let bytes = c.args.bytes.now in
    let inside : c.loop-k.k < length (pieces sizes bytes) = omega (arith, length-pieces sizes bytes, c.loop-k-test.true) in
    let piece = piece_is sizes bytes c.loop-k.rest.now c.loop-k.k c.loop-k-test.true c.loop-k.invariant.left in
    rw (p.1, numbered-parts (numbered_bar_line c.args.d) 0 (pieces sizes bytes) c.loop-k.k [] inside, zero-add, piece, ← c.split_at.ensures.front) (
    writer.stop_before _ _ _ _ (writer.stop_after _ _ _ _ _ c.loop-k.invariant.written c.in_err-put_bar.ensures)
    )

pub loop-k-preserved : goal.loop-k-preserved
loop-k-preserved g c =
    let sizes = c.args.sizes.now in
    let bytes = c.args.bytes.now in
    let rest = c.loop-k.rest.now in
    let left = c.loop-k.invariant.left in
    let inside : c.loop-k.k < length (pieces sizes bytes) = omega (arith, length-pieces sizes bytes, c.loop-k-test.true) in
    let piece = piece_is sizes bytes rest c.loop-k.k c.loop-k-test.true left in
    let within = next_within sizes bytes rest c.loop-k.k c.loop-k-test.true left in
    record {
      left = left_more sizes bytes rest c.split_at.result.1.now c.loop-k.k c.loop-k-test.true left c.split_at.ensures.back (omega (arith, c.split_at.ensures.back_len, within));
      written = rw (add-one, numbered-more (numbered_bar_line c.args.d) 0 (pieces sizes bytes) c.loop-k.k [] inside, zero-add, piece, ← c.split_at.ensures.front) (
          g.met.P.TextWriter.more _ _ _ _ _ c.loop-k.invariant.written c.in_ok-put_bar.ensures
          );
    }

pub returns : goal.returns
returns g c =
    let sizes = c.args.sizes.now in
    let bytes = c.args.bytes.now in
    let whole = take_all c.loop-k.k (pieces sizes bytes) (omega (arith, length-pieces sizes bytes, c.loop-k-test.false)) in
    rw whole at c.loop-k.invariant.written
