-- Lists that a function gives by number.
use Rattle.std.proofs.Common.{◌≡◌, ℕ, zero, suc, ◌+◌, ◌<◌, ◌==◌, Bool, if◌then◌else◌, List, [], ◌∷◌, length, slice_index_or, slice_set, refl, ap, ap₂, sym, ◌∙◌, arith}
use Rattle.std.proofs.lemmas.Bool.{eq-eqb, ne_eqb, cond-true, cond-false}
use Rattle.vfm_base.specs.Least.{all_below, least_from, least_below}
use Rattle.vfm_parts.specs.Parts.{listed_from, listed}

pub length-listed_from : {X : Type 0} (p n : ℕ) (item : ℕ → X) → length (listed_from p n item) ≡ n
length-listed_from p zero item = refl
length-listed_from p (suc n) item = let rest = length-listed_from (p + 1) n item in omega arith

pub length-listed : {X : Type 0} (n : ℕ) (item : ℕ → X) → length (listed n item) ≡ n
length-listed n item = length-listed_from 0 n item

listed_from_at : {X : Type 0} (p n : ℕ) (item : ℕ → X) (k : ℕ) (x : X) → k < n → slice_index_or (listed_from p n item) k x ≡ item (p + k)
listed_from_at p zero item k x h = absurd (omega arith)
listed_from_at p (suc n) item zero x h = ap item (omega arith)
listed_from_at p (suc n) item (suc k) x h = listed_from_at (p + 1) n item k x (omega arith) ∙ ap item (omega arith)

-- the item of a number
pub listed_at : {X : Type 0} (n : ℕ) (item : ℕ → X) (k : ℕ) (x : X) → k < n → slice_index_or (listed n item) k x ≡ item k
listed_at n item k x h = listed_from_at 0 n item k x h ∙ ap item (omega arith)

listed_from_same : {X : Type 0} (p n : ℕ) (f g : ℕ → X) → ((k : ℕ) → p + k < p + n → f (p + k) ≡ g (p + k)) → listed_from p n f ≡ listed_from p n g
listed_from_same p zero f g h = refl
listed_from_same {X} p (suc n) f g h =
    ap₂ (λ (x : X) (xs : List X). x ∷ xs) (here (omega arith) (h 0 (omega arith)))
    (listed_from_same (p + 1) n f g (λ k inside. there k (omega arith) (h (k + 1) (omega arith))))
  where
    here : p + 0 ≡ p → f (p + 0) ≡ g (p + 0) → f p ≡ g p
    here e same = rw e at same

    there : (k : ℕ) → p + (k + 1) ≡ p + 1 + k → f (p + (k + 1)) ≡ g (p + (k + 1)) → f (p + 1 + k) ≡ g (p + 1 + k)
    there k e same = rw e at same

-- two functions that agree below n give the same list
pub listed_same : {X : Type 0} (n : ℕ) (f g : ℕ → X) → ((k : ℕ) → k < n → f k ≡ g k) → listed n f ≡ listed n g
listed_same n f g h = listed_from_same 0 n f g (λ k inside. below k (omega arith) (h k (omega arith)))
  where
    below : (k : ℕ) → k ≡ 0 + k → f k ≡ g k → f (0 + k) ≡ g (0 + k)
    below k e same = rw (← e) same

set_listed_from : {X : Type 0} (p n : ℕ) (item : ℕ → X) (k : ℕ) (x : X)
    → slice_set (listed_from p n item) k x ≡ listed_from p n (λ j. if p + k == j then x else item j)
set_listed_from p zero item k x = refl
set_listed_from {X} p (suc n) item zero x =
    ap₂ (λ (y : X) (ys : List X). y ∷ ys) (sym (cond-true _ _ _ (eq-eqb (p + 0) p (omega arith))))
    (listed_from_same (p + 1) n item (λ j. if p + 0 == j then x else item j)
    (λ j inside. sym (cond-false _ _ _ (ne_eqb (p + 0) (p + 1 + j) (λ e. omega arith)))))
set_listed_from {X} p (suc n) item (suc k) x =
    ap₂ (λ (y : X) (ys : List X). y ∷ ys) (sym (cond-false _ _ _ (ne_eqb (p + suc k) p (λ e. omega arith))))
    (set_listed_from (p + 1) n item k x ∙ ap (λ (i : ℕ). listed_from (p + 1) n (λ j. if i == j then x else item j)) (omega arith))

-- one item set
pub set_listed : {X : Type 0} (n : ℕ) (item : ℕ → X) (k : ℕ) (x : X) → slice_set (listed n item) k x ≡ listed n (λ j. if k == j then x else item j)
set_listed n item k x = set_listed_from 0 n item k x ∙ ap (λ (i : ℕ). listed n (λ j. if i == j then x else item j)) (omega arith)

-- tests that agree below n
pub all_below_same : (n : ℕ) (f g : ℕ → Bool) → ((k : ℕ) → k < n → f k ≡ g k) → all_below n f ≡ all_below n g
all_below_same zero f g h = refl
all_below_same (suc n) f g h = rw (all_below_same n f g (λ k inside. h k (omega arith)), h n (omega arith)) refl

least_from_same : (p n : ℕ) (f g : ℕ → Bool) → ((k : ℕ) → k < p + n → f k ≡ g k) → least_from p n f ≡ least_from p n g
least_from_same p zero f g h = refl
least_from_same p (suc n) f g h =
    rw (h p (omega arith), least_from_same (p + 1) n f g (λ k inside. h k (omega arith))) refl

pub least_below_same : (n : ℕ) (f g : ℕ → Bool) → ((k : ℕ) → k < n → f k ≡ g k) → least_below n f ≡ least_below n g
least_below_same n f g h = least_from_same 0 n f g (λ k inside. h k (omega arith))

items_from : {X : Type 0} (xs : List X) (x : X) (p : ℕ) (item : ℕ → X) → ((k : ℕ) → k < length xs → item (p + k) ≡ slice_index_or xs k x)
    → listed_from p (length xs) item ≡ xs
items_from [] x p item h = refl
items_from {X} (y ∷ xs) x p item h =
    ap₂ (λ (z : X) (zs : List X). z ∷ zs) (here (omega arith) (h 0 (omega arith)))
    (items_from xs x (p + 1) item (λ k inside. there k (omega arith) (h (k + 1) (omega arith)) (after k (omega arith))))
  where
    here : p + 0 ≡ p → item (p + 0) ≡ y → item p ≡ y
    here e same = rw e at same

    after : (k : ℕ) → k + 1 ≡ suc k → slice_index_or (y ∷ xs) (k + 1) x ≡ slice_index_or xs k x
    after k e = ap (λ (i : ℕ). slice_index_or (y ∷ xs) i x) e

    there : (k : ℕ) → p + (k + 1) ≡ p + 1 + k → item (p + (k + 1)) ≡ slice_index_or (y ∷ xs) (k + 1) x
        → slice_index_or (y ∷ xs) (k + 1) x ≡ slice_index_or xs k x → item (p + 1 + k) ≡ slice_index_or xs k x
    there k e same next = sym (ap item e) ∙ same ∙ next

-- a list is what its own items give
pub listed_items : {X : Type 0} (n : ℕ) (xs : List X) (x : X) → length xs ≡ n → listed n (λ k. slice_index_or xs k x) ≡ xs
listed_items n xs x is =
    ap (λ (m : ℕ). listed m (λ k. slice_index_or xs k x)) (sym is)
    ∙ items_from xs x 0 (λ k. slice_index_or xs k x) (λ k inside. ap (λ (i : ℕ). slice_index_or xs i x) (omega arith))

-- a list with one item set is what its items give but for that one
pub listed_set : {X : Type 0} (n : ℕ) (xs : List X) (x : X) (k : ℕ) (y : X) → length xs ≡ n
    → listed n (λ j. if k == j then y else slice_index_or xs j x) ≡ slice_set xs k y
listed_set {X} n xs x k y is =
    sym (set_listed n (λ j. slice_index_or xs j x) k y) ∙ ap (λ (list : List X). slice_set list k y) (listed_items n xs x is)
