-- Bytes that are cut into pieces, one piece after the other.
use Rattle.std.proofs.Common.{◌≡◌, ℕ, ◌+◌, ◌<◌, ◌≤◌, List, [], ◌∷◌, ◌++◌, length, get_or, take, drop, ap, sym, ◌∙◌, refl, decimal, append_assoc, arith}
use Rattle.std.specs.Prelude.{sum, codes}
use Rattle.std.proofs.lemmas.List.{drop_more}
use Rattle.std.proofs.lemmas.List.Sums.{sum_by-drop_more}
use Rattle.hex.specs.Hex.{encode_lower}
use Rattle.vfm_plain.specs.Text.{line, numbered_text}
use Rattle.vfm_plain.specs.StateText.{pieces, bar_line, numbered_bar_line, bars_text}

pub length-pieces : (sizes bytes : List ℕ) → length (pieces sizes bytes) ≡ length sizes
length-pieces [] bytes = refl
length-pieces (size ∷ sizes) bytes = omega (arith, length-pieces sizes (drop size bytes))

-- what is left after k pieces is cut into the other ones
pub record IsLeft (sizes bytes rest : List ℕ) (k : ℕ) : Type 0 where
  pub cut : pieces (drop k sizes) rest ≡ drop k (pieces sizes bytes)
  pub count : sum (drop k sizes) ≡ length rest

-- the next piece lies in what is left
pub next_within : (sizes bytes rest : List ℕ) (k : ℕ) → k < length sizes → IsLeft sizes bytes rest k → get_or sizes k 0 ≤ length rest
next_within sizes bytes rest k h left = omega (arith, sum_by-drop_more (λ (x : ℕ). x) sizes k 0 h, left.count)

-- what is left after one more, where the piece is its start
heads : (x y : List ℕ) (xs ys : List (List ℕ)) → x ∷ xs ≡ y ∷ ys → x ≡ y
heads x y xs ys e = cc

tails : (x y : List ℕ) (xs ys : List (List ℕ)) → x ∷ xs ≡ y ∷ ys → xs ≡ ys
tails x y xs ys e = cc

both_cut : (sizes bytes rest : List ℕ) (k : ℕ) → k < length sizes → IsLeft sizes bytes rest k
    → take (get_or sizes k 0) rest ∷ pieces (drop (k + 1) sizes) (drop (get_or sizes k 0) rest) ≡ get_or (pieces sizes bytes) k [] ∷ drop (k + 1) (pieces sizes bytes)
both_cut sizes bytes rest k h left =
    let inside : k < length (pieces sizes bytes) = omega (arith, length-pieces sizes bytes) in
    ap (λ (s : List ℕ). pieces s rest) (sym (drop_more sizes k 0 h)) ∙ left.cut ∙ drop_more (pieces sizes bytes) k [] inside

pub piece_is : (sizes bytes rest : List ℕ) (k : ℕ) → k < length sizes → IsLeft sizes bytes rest k → get_or (pieces sizes bytes) k [] ≡ take (get_or sizes k 0) rest
piece_is sizes bytes rest k h left = sym (heads _ _ _ _ (both_cut sizes bytes rest k h left))

pub left_more : (sizes bytes rest more : List ℕ) (k : ℕ) → k < length sizes → IsLeft sizes bytes rest k → more ≡ drop (get_or sizes k 0) rest
    → length more + get_or sizes k 0 ≡ length rest → IsLeft sizes bytes more (k + 1)
left_more sizes bytes rest more k h left is long =
    record {
      cut = ap (pieces (drop (k + 1) sizes)) is ∙ tails _ _ _ _ (both_cut sizes bytes rest k h left);
      count = omega (arith, sum_by-drop_more (λ (x : ℕ). x) sizes k 0 h, left.count, long);
    }

-- the line of a numbered BAR, whose word and device are written as one word
pub numbered_line : (word : List ℕ) (d k : ℕ) (bytes : List ℕ) → word ≡ codes "bar " ++ decimal d → line word (decimal k ∷ encode_lower bytes ∷ []) ≡ numbered_bar_line d k bytes
numbered_line word d k bytes is = ap (λ (w : List ℕ). line w (decimal k ∷ encode_lower bytes ∷ [])) is ∙ simp append_assoc

-- one BAR has a line without a number
pub one_bar : (d : ℕ) (sizes bytes : List ℕ) → length sizes ≡ 1 → bars_text d sizes bytes ≡ bar_line d bytes
one_bar d [] bytes one = absurd (omega arith)
one_bar d (size ∷ []) bytes one = refl
one_bar d (size ∷ (next ∷ sizes)) bytes one = absurd (omega arith)

-- several have numbered ones
pub several_bars : (d : ℕ) (sizes bytes : List ℕ) → (length sizes ≡ 1 → ⊥) → bars_text d sizes bytes ≡ numbered_text (numbered_bar_line d) 0 (pieces sizes bytes)
several_bars d [] bytes several = refl
several_bars d (size ∷ []) bytes several = absurd (several refl)
several_bars d (size ∷ (next ∷ sizes)) bytes several = refl
