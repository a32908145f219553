-- A search for a request among the pending ones, one place after another.
use Rattle.std.proofs.Common.{◌≡◌, ℕ, ◌+◌, ◌<◌, ◌==◌, ◌||◌, Bool, false, List, length, drop, get_or, refl, sym, ap, ◌∙◌}
use Rattle.std.proofs.lemmas.List.{drop_more}
use Rattle.vfm_plain.proofs.Places.{Looked, looked_more}
use Rattle.vfm_laws.specs.Queues.{is_listed}

-- no request is a fence to this search, and it looks at all of them
abbrev pub no_fence : ℕ → Bool
no_fence job = false

-- the looks at the places below k leave the answers to the places from k on
pub record Sought (pending : List (ℕ × ℕ)) (n k : ℕ) : Type 0 where
  pub looked : Looked no_fence (length pending) pending n k
  pub listed : is_listed n (drop k pending) ≡ is_listed n pending

-- another request stands at place k
pub sought_more : (pending : List (ℕ × ℕ)) (n k : ℕ) → Sought pending n k → k < length pending
    → ((get_or pending k (0, 0)).0 == n) ≡ false → Sought pending n (k + 1)
sought_more pending n k sought within other =
    record {
      looked = looked_more no_fence (length pending) pending n k sought.looked within within other refl;
      listed = sym (ap (is_listed n) (drop_more pending k (0, 0) within) ∙ ap (λ (b : Bool). b || is_listed n (drop (k + 1) pending)) other) ∙ sought.listed;
    }
