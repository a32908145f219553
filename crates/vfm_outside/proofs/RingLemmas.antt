-- Steps of pieces through a ring.
use Rattle.std.proofs.Common.{◌≡◌, ◌∙◌, sym, ap, ℕ, zero, suc, ◌+◌, ◌<◌, List, [], ◌∷◌, ◌++◌, length, take, drop, append_assoc, arith}
use Rattle.std.proofs.lemmas.List.{flat_map_more}
use Rattle.std.proofs.lemmas.List.Elements.{All-append}
use mathlib.Core.List.{IsPrefix}
use Rattle.std.specs.Prelude.{slice_index_or}
use Rattle.vfm_outside.specs.declared.piece.Piece.{Piece}
use Rattle.vfm_outside.specs.Pieces.{piece_bytes, pieces_bytes, first_bytes, CarriesBytes, WentIn}
use Rattle.vfm_outside.proofs.ToldLemmas.{take-then-take}

-- the bytes of one piece more
pub pieces-push : (pieces : List Piece) (piece : Piece) → pieces_bytes (pieces ++ piece ∷ []) ≡ pieces_bytes pieces ++ piece_bytes piece
pieces-push pieces piece = sym (flat_map_more piece_bytes [] pieces piece)

one_carries : (piece : Piece) → 0 < piece.length → (k : ℕ) (d : Piece) → k < length (piece ∷ []) → CarriesBytes (slice_index_or (piece ∷ []) k d)
one_carries piece some zero d below = some
one_carries piece some (suc k) d below = absurd (omega arith)

-- one piece more goes in
pub went_in_more : (before now next : List Piece) (piece : Piece) (bytes : List ℕ) (at : ℕ)
    → WentIn before now (take at bytes) → next ≡ now ++ piece ∷ [] → 0 < piece.length
    → piece_bytes piece ≡ take piece.length (drop at bytes)
    → WentIn before next (take (at + piece.length) bytes)
went_in_more before now next piece bytes at went put some is = record {
  pieces = went.pieces ++ piece ∷ [];
  put = put ∙ ap (λ (ps : List Piece). ps ++ piece ∷ []) went.put ∙ append_assoc before went.pieces (piece ∷ []);
  each = All-append CarriesBytes went.pieces (piece ∷ []) went.each (one_carries piece some);
  encoded =
      pieces-push went.pieces piece
      ∙ ap (λ (l : List ℕ). l ++ piece_bytes piece) went.encoded
      ∙ ap (λ (l : List ℕ). take at bytes ++ l) is
      ∙ take-then-take bytes at piece.length;
}

-- the first piece, where it is known
pub first_is : (piece : Piece) (items : List Piece) → IsPrefix (piece ∷ []) items → first_bytes items ≡ piece_bytes piece
first_is piece items known = ap first_bytes (sym known.1)

-- more bytes of the first piece come
pub came_more : (got first buf : List ℕ) (at n : ℕ) → take n buf ≡ take n (drop at first) → got ++ take (at + n) first ≡ (got ++ take at first) ++ take n buf
came_more got first buf at n e =
    ap (λ (l : List ℕ). got ++ l) (sym (take-then-take first at n))
    ∙ ap (λ (l : List ℕ). got ++ (take at first ++ l)) (sym e)
    ∙ sym (append_assoc got (take at first) (take n buf))
