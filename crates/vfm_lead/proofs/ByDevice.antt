-- Lists with an item for each device, out of one with eight places.
use Rattle.std.proofs.Common.{◌≡◌, ℕ, ◌+◌, ◌<◌, ◌==◌, if◌then◌else◌, List, length, slice_index_or, slice_set, ap, sym, ◌∙◌, arith, ⊎_elim}
use Rattle.std.proofs.lemmas.Bool.{cases_eq, eq-eqb, ne_eqb, cond-true, cond-false}
use Rattle.std.proofs.lemmas.List.{get_or-set_same, get_or-set_other}
use Rattle.vfm_parts.specs.Parts.{listed}
use Rattle.vfm_parts.proofs.Listed.{length-listed, listed_at, listed_same, set_listed}

-- a device that has an item has a place
pub inside : {X : Type 0} (n : ℕ) (f : ℕ → X) (d : ℕ) → d < length (listed n f) → d < n
inside n f d h = let e = length-listed n f in omega arith

-- its item stands at its place
pub item_at : {X : Type 0} (n : ℕ) (xs : List X) (x : X) (d : ℕ) → d < length (listed n (λ k. slice_index_or xs k x))
    → slice_index_or (listed n (λ k. slice_index_or xs k x)) d x ≡ slice_index_or xs d x
item_at n xs x d h = listed_at n (λ k. slice_index_or xs k x) d x (inside n (λ k. slice_index_or xs k x) d h)

-- one item set
one_set : {X : Type 0} (xs : List X) (d : ℕ) (v x : X) (k : ℕ) → d < length xs
    → slice_index_or (slice_set xs d v) k x ≡ (if d == k then v else slice_index_or xs k x)
one_set xs d v x k h =
    ⊎_elim (λ (same : d ≡ k). ap (λ (j : ℕ). slice_index_or (slice_set xs d v) j x) (sym same) ∙ get_or-set_same xs d v x h
    ∙ sym (cond-true _ _ _ (eq-eqb d k same)))
    (λ (other : d ≡ k → ⊥). get_or-set_other xs d k v x (λ e. other (sym e)) ∙ sym (cond-false _ _ _ (ne_eqb d k other))) (cases_eq d k)

pub item_set : {X : Type 0} (n : ℕ) (xs : List X) (d : ℕ) (v x : X) → d < length xs
    → listed n (λ k. slice_index_or (slice_set xs d v) k x) ≡ slice_set (listed n (λ k. slice_index_or xs k x)) d v
item_set n xs d v x h =
    listed_same n _ _ (λ k low. one_set xs d v x k h) ∙ sym (set_listed n (λ k. slice_index_or xs k x) d v)

-- places that are set one after the other to what a function gives
pub place_set : {X : Type 0} (xs : List X) (x : X) (f : ℕ → X) (i : ℕ) (y : X) → ((k : ℕ) → k < i → slice_index_or xs k x ≡ f k)
    → i < length xs → y ≡ f i → (k : ℕ) → k < i + 1 → slice_index_or (slice_set xs i y) k x ≡ f k
place_set xs x f i y before inside made k low =
    ⊎_elim (λ (same : k ≡ i). ap (λ (j : ℕ). slice_index_or (slice_set xs i y) j x) same ∙ get_or-set_same xs i y x inside ∙ made ∙ ap f (sym same))
    (λ (other : k ≡ i → ⊥). get_or-set_other xs i k y x other ∙ before k (omega arith)) (cases_eq k i)
