-- A step of the loop that hears a frame.
use Rattle.std.proofs.Common.{◌≡◌, ◌≢◌, ◌∙◌, ◌||◌, ◌&&◌, ◌==◌, Bool, true, false, nat_lt, refl, ne_eqb, sym, ap, ℕ, ◌+◌, ◌-◌, ◌≤◌, Option, Some, List, ◌++◌, length, take, drop, arith}
use Rattle.std.proofs.lemmas.List.{length-append, length-take, length-drop, append_cancel_left, take-append-le}
use Rattle.std.specs.Prelude.{unwrap_or, []}
use borrow.Rule.Slice.PartMut.{put_mid}
use Rattle.vfm_outside.specs.Told.{with_appended, with_appended-with_appended}
use Rattle.vfm_send.proofs.SendLemmas.{take-after}
use Rattle.vfm_handshake.specs.Control.{Receipt, Heard}

-- so many bytes of a buffer, with a piece put after the first of them
pub taken_with_piece : (xs piece : List ℕ) (len n : ℕ) → length xs ≡ 44 → len ≤ 44 → length piece ≡ 44 - len → n ≤ length piece
    → take (len + n) (put_mid len (44 - len) xs piece) ≡ take len xs ++ take n piece
taken_with_piece xs piece len n size few room within =
    take-after (take len xs) (piece ++ drop (44 - len) (drop len xs)) len n (length-take len xs ∙ omega (arith, size, few))
    ∙ ap (λ (l : List ℕ). take len xs ++ l) (take-append-le n piece (drop (44 - len) (drop len xs)) within)

-- a piece put over the rest of a buffer leaves its length
pub length_with_piece : (xs piece : List ℕ) (len : ℕ) → length xs ≡ 44 → len ≤ 44 → length piece ≡ 44 - len
    → length (put_mid len (44 - len) xs piece) ≡ 44
length_with_piece xs piece len size few room =
    let rest : List ℕ = drop (44 - len) (drop len xs) in
    omega (
      arith,
      size,
      few,
      room,
      length-append (take len xs) (piece ++ rest),
      length-append piece rest,
      length-take len xs,
      length-drop (44 - len) (drop len xs),
      length-drop len xs,
    )

-- one more piece was heard
pub heard_more : (start before now : Option (List ℕ)) (xs piece : List ℕ) (len n : ℕ) → length xs ≡ 44 → len ≤ 44
    → length piece ≡ 44 - len → n ≤ length piece → before ≡ with_appended start (take len xs)
    → now ≡ with_appended before (take n piece)
    → now ≡ with_appended start (take (len + n) (put_mid len (44 - len) xs piece))
heard_more start before now xs piece len n size few room within e more =
    more
    ∙ ap (λ (o : Option (List ℕ)). with_appended o (take n piece)) e
    ∙ with_appended-with_appended start (take len xs) (take n piece)
    ∙ ap (with_appended start) (sym (taken_with_piece xs piece len n size few room within))

-- what a link reports that it received in a call are certain bytes
pub heard_once : (r : Receipt) (told first second : List ℕ) → r.before ≡ Some told → Heard r first → Heard r second → first ≡ second
heard_once r told first second e one other =
    append_cancel_left told first second (ap (λ (o : Option (List ℕ)). unwrap_or o [])
    (sym (one.came ∙ ap (λ (o : Option (List ℕ)). with_appended o first) e)
    ∙ (other.came ∙ ap (λ (o : Option (List ℕ)). with_appended o second) e)))

-- bytes that came are no end
pub still_open : (before : Bool) (n room : ℕ) → n ≢ 0 → (before || (n == 0 && nat_lt 0 room)) ≡ before
still_open before n room some =
    ap (λ (b : Bool). before || (b && nat_lt 0 room)) (ne_eqb n 0 some) ∙ none before
  where
    none : (b : Bool) → (b || false) ≡ b
    none true = refl
    none false = refl
