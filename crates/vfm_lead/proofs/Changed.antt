-- Devices that are changed one after the other.
use Rattle.std.proofs.Common.{◌≡◌, ℕ, ◌+◌, ◌<◌, ◌≤◌, List, length, slice_index_or, slice_set, refl, ap, sym, ◌∙◌, arith, ⊎_elim}
use Rattle.std.proofs.lemmas.Bool.{cases_eq}
use Rattle.std.proofs.lemmas.List.{get_or-set_same, get_or-set_other, get_or_default, length-set}
use Rattle.vfm_parts.specs.Parts.{Dev, no_dev, listed}
use Rattle.vfm_parts.proofs.Listed.{listed_same, listed_items, listed_set}
use Rattle.vfm_parts.specs.Steps.{with_dev}
use Rattle.vfm_lead.specs.LeadSteps.{dev_of_list}

-- the devices below i are changed, and the others are as before
pub record Changed (f : Dev → Dev) (before now : List Dev) (i : ℕ) : Type 0 where
  pub count : length now ≡ length before
  pub done : (k : ℕ) → k < i → dev_of_list now k ≡ f (dev_of_list before k)
  pub rest : (k : ℕ) → i ≤ k → dev_of_list now k ≡ dev_of_list before k

-- none is changed at first
pub none_changed : (f : Dev → Dev) (before : List Dev) → Changed f before before 0
none_changed f before = record { count = refl; done = λ k h. absurd (omega arith); rest = λ k h. refl }

-- one more is changed
pub one_changed : (f : Dev → Dev) (before now : List Dev) (i : ℕ) (x y : Dev) → Changed f before now i → i < length now
    → y ≡ f (slice_index_or now i x) → Changed f before (slice_set now i y) (i + 1)
one_changed f before now i x y is h made =
    record {
      count = length-set now i y ∙ is.count;
      done = λ k low. ⊎_elim
          (λ (same : k ≡ i). ap (λ (j : ℕ). dev_of_list (slice_set now i y) j) same ∙ get_or-set_same now i y no_dev h ∙ made
          ∙ ap f (get_or_default now i x no_dev h ∙ is.rest i (omega arith)) ∙ ap (λ (j : ℕ). f (dev_of_list before j)) (sym same))
          (λ (other : k ≡ i → ⊥). get_or-set_other now i k y no_dev other ∙ is.done k (omega arith)) (cases_eq k i);
      rest = λ k high. get_or-set_other now i k y no_dev (λ e. omega arith) ∙ is.rest k (omega arith);
    }

-- all are
pub all_changed : (f : Dev → Dev) (before now : List Dev) (i : ℕ) → Changed f before now i → length before ≤ i
    → now ≡ listed (length before) (λ d. f (dev_of_list before d))
all_changed f before now i is all =
    sym (listed_items (length before) now no_dev is.count)
    ∙ listed_same (length before) (λ k. dev_of_list now k) (λ k. f (dev_of_list before k)) (λ k h. is.done k (omega arith))

-- one device is set
pub one_set : (n : ℕ) (devs : List Dev) (d : ℕ) (dev : Dev) → length devs ≡ n → slice_set devs d dev ≡ listed n (with_dev d dev (dev_of_list devs))
one_set n devs d dev is = sym (listed_set n devs no_dev d dev is)

-- none is
pub none_set : (n : ℕ) (devs : List Dev) → length devs ≡ n → devs ≡ listed n (dev_of_list devs)
none_set n devs is = sym (listed_items n devs no_dev is)
