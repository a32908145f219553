-- Where bytes are cut: before and after the first place of a byte.
use Rattle.std.proofs.Common.{◌≡◌, ℕ, zero, suc, ◌+◌, ◌<◌, List, [], ◌∷◌, ◌++◌, length, get_or, take, drop, true, refl, ap, sym, ◌∙◌, arith}
use Rattle.std.specs.Prelude.{◌==◌, not}
use Rattle.std.proofs.lemmas.Bool.{and_parts, and_from, eqb-true, eq-eqb, false_from_ne_true, not-true, not_from_false}
use Rattle.std.proofs.lemmas.List.{take-append-drop, drop_more}
use Rattle.vfm_report.specs.Split.{is_without, split}

-- a byte that stands at no place
pub without_anywhere : (b : ℕ) (xs : List ℕ) → ((k : ℕ) → k < length xs → (get_or xs k 0 == b) ≡ true → ⊥) → is_without b xs ≡ true
without_anywhere b [] h = refl
without_anywhere b (x ∷ xs) h =
    and_from (not (x == b)) (is_without b xs) (not_from_false (x == b) (false_from_ne_true (x == b) (h 0 (omega arith))))
    (without_anywhere b xs (λ k lt. h (suc k) (omega arith)))

-- a byte that stands at no place before k
pub without_before : (b : ℕ) (xs : List ℕ) (i : ℕ) → ((k : ℕ) → k < i → (get_or xs k 0 == b) ≡ true → ⊥) → is_without b (take i xs) ≡ true
without_before b [] zero h = refl
without_before b [] (suc i) h = refl
without_before b (x ∷ xs) zero h = refl
without_before b (x ∷ xs) (suc i) h =
    and_from (not (x == b)) (is_without b (take i xs)) (not_from_false (x == b) (false_from_ne_true (x == b) (h 0 (omega arith))))
    (without_before b xs i (λ k lt. h (suc k) (omega arith)))

-- bytes around a place
pub around : (b : ℕ) (xs : List ℕ) (i : ℕ) → i < length xs → (get_or xs i 0 == b) ≡ true → xs ≡ take i xs ++ b ∷ drop (i + 1) xs
around b xs i lt h =
    let here = eqb-true (get_or xs i 0) b h in
    sym (take-append-drop i xs) ∙ ap (λ (r : List ℕ). take i xs ++ r) (drop_more xs i 0 lt ∙ ap (λ (x : ℕ). x ∷ drop (i + 1) xs) here)

-- bytes without the byte are one piece
pub split-whole : (b : ℕ) (xs : List ℕ) → is_without b xs ≡ true → split b xs ≡ xs ∷ []
unfolding split
split-whole b [] h = refl
split-whole b (x ∷ xs) h =
    let parts = and_parts (not (x == b)) (is_without b xs) h in
    rw (not-true (x == b) parts.0, split-whole b xs parts.1) refl

-- what stands before the first place is the first piece
pub split-first : (b : ℕ) (w rest : List ℕ) → is_without b w ≡ true → split b (w ++ b ∷ rest) ≡ w ∷ split b rest
unfolding split
split-first b [] rest h = rw (eq-eqb b b refl) refl
split-first b (x ∷ w) rest h =
    let parts = and_parts (not (x == b)) (is_without b w) h in
    rw (not-true (x == b) parts.0, split-first b w rest parts.1) refl
