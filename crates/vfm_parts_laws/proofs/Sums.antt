-- Sums over the numbers below a bound, and bounds that fall.
use Rattle.std.proofs.Math.Bool.{and-true, and-false}
use Rattle.std.proofs.Common.{◌≡◌, ℕ, zero, suc, ◌+◌, ◌*◌, ◌<◌, ◌≤◌, ◌==◌, ◌&&◌, not, Bool, true, false, if◌then◌else◌, List, [], ◌∷◌, length, slice_index_or, refl, ap, ap₂, sym, ◌∙◌, subst, arith, ⊎_elim, ◌⊎◌, inl, inr}
use Rattle.std.proofs.lemmas.Bool.{cases_lt, ne_eqb, eq-eqb}
use Rattle.std.specs.List.{sum_by}
use Rattle.std.proofs.lemmas.List.Sums.{sum_by-cons}
use Rattle.vfm_base.specs.Least.{count_below}
use Rattle.vfm_parts_laws.specs.EntriesLeft.{sum_below}

pub sum_le : (n : ℕ) (f g : ℕ → ℕ) → ((k : ℕ) → k < n → g k ≤ f k) → sum_below n g ≤ sum_below n f
sum_le zero f g h = omega arith
sum_le (suc n) f g h =
    let rest = sum_le n f g (λ k inside. h k (omega arith)) in
    let here = h n (omega arith) in omega arith

-- one item less and no other more
pub sum_less : (n : ℕ) (f g : ℕ → ℕ) (d : ℕ) → d < n → g d + 1 ≤ f d → ((k : ℕ) → k < n → g k ≤ f k) → sum_below n g + 1 ≤ sum_below n f
sum_less zero f g d inside less h = absurd (omega arith)
sum_less (suc n) f g d inside less h =
    ⊎_elim (λ (low : d < n).
    let rest = sum_less n f g d low less (λ k below. h k (omega arith)) in
    let here = h n (omega arith) in omega arith)
    (λ (high : n ≤ d).
    let same : d ≡ n = omega arith in
    let here : g n + 1 ≤ f n = subst (λ (k : ℕ). g k + 1 ≤ f k) same less in
    let rest = sum_le n f g (λ k below. h k (omega arith)) in omega arith) (cases_lt d n)

-- each item within three times another and ten
pub sum_bound : (n : ℕ) (f b : ℕ → ℕ) → ((k : ℕ) → k < n → f k ≤ 3 * b k + 10) → sum_below n f ≤ 3 * sum_below n b + 10 * n
sum_bound zero f b h = omega arith
sum_bound (suc n) f b h =
    let rest = sum_bound n f b (λ k inside. h k (omega arith)) in
    let here = h n (omega arith) in omega arith

pub sum_two : (n : ℕ) (f g : ℕ → ℕ) → sum_below n (λ k. f k + g k) ≡ sum_below n f + sum_below n g
sum_two zero f g = omega arith
sum_two (suc n) f g = let rest = sum_two n f g in omega arith

sum_shift : (n : ℕ) (f : ℕ → ℕ) → sum_below (suc n) f ≡ f 0 + sum_below n (λ k. f (suc k))
sum_shift zero f = omega arith
sum_shift (suc n) f = let rest = sum_shift n f in omega arith

-- a sum over a list, by its places
pub sum_listed : {X : Type 0} (f : X → ℕ) (xs : List X) (x : X) → sum_below (length xs) (λ k. f (slice_index_or xs k x)) ≡ sum_by f xs
sum_listed f [] x = refl
sum_listed f (y ∷ ys) x =
    sum_shift (length ys) (λ k. f (slice_index_or (y ∷ ys) k x)) ∙ ap (λ (n : ℕ). f y + n) (sum_listed f ys x) ∙ sym (sum_by-cons f y ys)

-- ---- counts

abbrev one_if : Bool → ℕ
one_if b = if b then 1 else 0

count_without : (n : ℕ) (test : ℕ → Bool) (p : ℕ) → n ≤ p → count_below n (λ q. test q && not (p == q)) ≡ count_below n test
count_without zero test p high = refl
count_without (suc n) test p high =
    ap₂ (λ (a : ℕ) (b : Bool). a + one_if (test n && not b)) (count_without n test p (omega arith)) (ne_eqb p n (λ same. omega arith))
    ∙ ap (λ (b : Bool). count_below n test + one_if b) (and-true (test n))

-- one member less
pub count_less : (n : ℕ) (test : ℕ → Bool) (p : ℕ) → p < n → test p ≡ true
    → count_below n (λ q. test q && not (p == q)) + 1 ≡ count_below n test
count_less zero test p inside passes = absurd (omega arith)
count_less (suc n) test p inside passes = at (λ low. count_less n test p low passes) (cases_lt p n)
  where
    at : (p < n → count_below n (λ q. test q && not (p == q)) + 1 ≡ count_below n test) → (p < n) ⊎ (n ≤ p)
        → count_below n (λ q. test q && not (p == q)) + one_if (test n && not (p == n)) + 1 ≡ count_below n test + one_if (test n)
    at rest (inl low) =
        let before = rest low in
        let same : (test n && not (p == n)) ≡ test n = ap (λ (b : Bool). test n && not b) (ne_eqb p n (λ same. omega arith)) ∙ and-true (test n) in
        let last : one_if (test n && not (p == n)) ≡ one_if (test n) = ap one_if same in
        omega arith
    at rest (inr high) =
        let here : p ≡ n = omega arith in
        let before = count_without n test p high in
        let none : (test n && not (p == n)) ≡ false = ap (λ (b : Bool). test n && not b) (eq-eqb p n here) ∙ and-false (test n) in
        let gone : one_if (test n && not (p == n)) ≡ 0 = ap one_if none in
        let there : one_if (test n) ≡ 1 = ap one_if (sym (ap test here) ∙ passes) in
        omega arith

pub sum_same : (n : ℕ) (f g : ℕ → ℕ) → ((k : ℕ) → k < n → f k ≡ g k) → sum_below n f ≡ sum_below n g
sum_same zero f g h = refl
sum_same (suc n) f g h = ap₂ (λ (a b : ℕ). a + b) (sum_same n f g (λ k inside. h k (omega arith))) (h n (omega arith))
