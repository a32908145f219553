-- Numbers of devices that are set one after the other.
use Rattle.std.proofs.Common.{◌≡◌, ℕ, ◌+◌, ◌<◌, ◌≤◌, List, length, slice_index_or, slice_set, ap, sym, ◌∙◌, arith, ⊎_elim}
use Rattle.std.proofs.lemmas.Bool.{cases_eq}
use Rattle.std.proofs.lemmas.List.{get_or-set_same, get_or-set_other, length-set}
use Rattle.vfm_parts.specs.Parts.{listed}
use Rattle.vfm_parts.proofs.Listed.{listed_same, listed_items, length-listed}

-- the numbers of the devices below i are those that a function gives
pub record Filled (n : ℕ) (f : ℕ → ℕ) (sizes : List ℕ) (i : ℕ) : Type 0 where
  pub count : length sizes ≡ n
  pub done : (k : ℕ) → k < i → slice_index_or sizes k 0 ≡ f k

-- none is at first
pub none_filled : (n : ℕ) (f : ℕ → ℕ) (sizes : List ℕ) → sizes ≡ listed n (λ k. 0) → Filled n f sizes 0
none_filled n f sizes is =
    record { count = ap (length {A = ℕ}) is ∙ length-listed n (λ k. 0); done = λ k h. absurd (omega arith) }

-- one more is
pub one_filled : (n : ℕ) (f : ℕ → ℕ) (sizes : List ℕ) (i x : ℕ) → Filled n f sizes i → i < n → x ≡ f i → Filled n f (slice_set sizes i x) (i + 1)
one_filled n f sizes i x is h made =
    record {
      count = length-set sizes i x ∙ is.count;
      done = λ k low. ⊎_elim
          (λ (same : k ≡ i). let inside : i < length sizes = by is.count h in
          ap (λ (j : ℕ). slice_index_or (slice_set sizes i x) j 0) same ∙ get_or-set_same sizes i x 0 inside ∙ made ∙ ap f (sym same))
          (λ (other : k ≡ i → ⊥). get_or-set_other sizes i k x 0 other ∙ is.done k (omega arith)) (cases_eq k i);
    }
  where
    by : length sizes ≡ n → i < n → i < length sizes
    by e low = omega arith

-- all are
pub all_filled : (n : ℕ) (f : ℕ → ℕ) (sizes : List ℕ) (i : ℕ) → Filled n f sizes i → n ≤ i → sizes ≡ listed n f
all_filled n f sizes i is all =
    sym (listed_items n sizes 0 is.count) ∙ listed_same n (λ k. slice_index_or sizes k 0) f (λ k h. is.done k (omega arith))
