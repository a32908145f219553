use Rattle.std.proofs.Common.{◌≡◌, ◌∙◌, sym, ap, subst, ℕ, ◌+◌, ◌<◌, min, List, [], ◌∷◌, ◌++◌, length, take, drop, arith, rules}
use Rattle.std.proofs.lemmas.List.{take_rest, length-drop}
use Rattle.rtrb.specs.Ring.{sent}
use Rattle.vfm_outside.specs.declared.piece.Piece.{Piece}
use Rattle.vfm_outside.specs.Pieces.{piece_bytes, WentIn}
use Rattle.vfm_outside.proofs.RingLemmas.{went_in_more}
use Rattle.vfm_outside.proofs.ring_link.put_pieces.Goals as goal

pub loop-at-preserved : goal.loop-at-preserved
loop-at-preserved c =
    let bytes = c.args.bytes.now in
    let at = c.loop-at.at in
    let piece = c.of-piece.result in
    let rest = take_rest bytes at in
    let len : piece.length ≡ min 256 (length (drop at bytes)) = c.of-piece.ensures.length ∙ ap (λ (l : List ℕ). min 256 (length l)) rest in
    let some : 0 < piece.length = omega (arith, len, length-drop at bytes) in
    let value : c.len-at.result ≡ piece.length = c.len-at.ensures.value in
    let is : piece_bytes piece ≡ take piece.length (drop at bytes) = c.of-piece.ensures.bytes ∙ ap (λ (l : List ℕ). take piece.length l) rest in
    let put : sent c.push_reserved.new.self ≡ sent c.loop-at.out ++ piece ∷ [] =
    c.push_reserved.ensures.sent.0 ∙ ap (λ (pieces : List Piece). pieces ++ piece ∷ []) c.is_full.ensures.looked.1 in
    record {
      in_range = omega (arith, len, value, length-drop at bytes);
      sent = subst (λ (n : ℕ). WentIn (sent c.args.out.now) (sent c.push_reserved.new.self) (take (at + n) bytes)) (sym value)
          (went_in_more (sent c.args.out.now) (sent c.loop-at.out) (sent c.push_reserved.new.self) piece bytes at c.loop-at.invariant.sent put some is);
      free = λ none. absurd (omega (arith, some, value, none));
      ring = search rules;
    }
