-- What holds of each element of a list, by its index.
use Rattle.std.proofs.Common.{◌≡◌, refl, sym, subst, ⊎_elim, ℕ, ◌≤◌, zero, suc, ◌+◌, ◌<◌, List, [], ◌∷◌, ◌++◌, length, slice_index_or, slice_set, arith}
use Rattle.std.proofs.lemmas.Bool.{cases_lt}
use Rattle.std.proofs.lemmas.List.{length-append}

-- the same of a list with one element more
pub each-more : {X : Type 0} (P : ℕ → X → Type 0) (xs : List X) (y : X) → ((s : ℕ) (x : X) → s < length xs → P s (slice_index_or xs s x))
    → P (length xs) y → (s : ℕ) (x : X) → s < length (xs ++ y ∷ []) → P s (slice_index_or (xs ++ y ∷ []) s x)
each-more P [] y each last zero x inside = last
each-more P [] y each last (suc s) x inside = absurd (omega (arith, inside))
each-more P (z ∷ xs) y each last zero x inside = each 0 x (omega arith)
each-more P (z ∷ xs) y each last (suc s) x inside =
    each-more (λ k. P (suc k)) xs y (λ k w low. each (suc k) w (omega (arith, low))) last s x (omega (arith, inside))

-- the same of a list of which one element is set
pub each-set : {X : Type 0} (P : ℕ → X → Type 0) (xs : List X) (i : ℕ) (y : X) → i < length xs → P i y
    → ((s : ℕ) (x : X) → (s ≡ i → ⊥) → s < length xs → P s (slice_index_or xs s x))
    → (s : ℕ) (x : X) → s < length (slice_set xs i y) → P s (slice_index_or (slice_set xs i y) s x)
each-set P [] i y there here each s x inside = absurd (omega (arith, there))
each-set P (z ∷ xs) zero y there here each zero x inside = here
each-set P (z ∷ xs) zero y there here each (suc s) x inside = each (suc s) x (λ e. omega (arith, e)) inside
each-set P (z ∷ xs) (suc i) y there here each zero x inside = each 0 x (λ e. omega (arith, e)) (omega arith)
each-set P (z ∷ xs) (suc i) y there here each (suc s) x inside =
    each-set (λ k. P (suc k)) xs i y (omega (arith, there)) here
    (λ k w away low. each (suc k) w (λ e. away (omega (arith, e))) (omega (arith, low))) s x (omega (arith, inside))

-- the element behind the first ones
pub behind : {X : Type 0} (xs : List X) (y : X) (rest : List X) (d : X) → slice_index_or (xs ++ y ∷ rest) (length xs) d ≡ y
behind [] y rest d = refl
behind (x ∷ xs) y rest d = behind xs y rest d

pub behind-inside : {X : Type 0} (xs : List X) (y : X) (rest : List X) → length xs < length (xs ++ y ∷ rest)
behind-inside [] y rest = omega arith
behind-inside (x ∷ xs) y rest = let low = behind-inside xs y rest in omega (arith, low)

-- what holds of each number below a length, and of the length
pub each-below : {X : Type 0} (P : ℕ → Type 0) (xs : List X) (x : X) → ((k : ℕ) → k < length xs → P k) → P (length xs)
    → (k : ℕ) → k < length (xs ++ x ∷ []) → P k
each-below P xs x below here k low =
    ⊎_elim (λ (less : k < length xs). below k less)
    (λ (most : length xs ≤ k). subst P (same most) here) (cases_lt k (length xs))
  where
    same : length xs ≤ k → length xs ≡ k
    same most = omega (arith, most, low, length-append xs (x ∷ []))
