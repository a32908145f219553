-- Delivered requests whose jobs pass a test, before an entry and after it.
use Rattle.std.proofs.Common.{◌≡◌, ℕ, ◌==◌, Bool, true, false, not, ◌&&◌, ◌||◌, if◌then◌else◌, List, [], ◌∷◌, refl, ◌∙◌}
use Rattle.std.proofs.lemmas.Bool.{or_from, or_parts, and_left, and_right, not-true, false≢true}
use Rattle.std.proofs.lemmas.List.Folds.{list_any-append}
use Rattle.vfm_types.specs.Outstanding.{Outstanding, issue_if, deliver_if, complete_if, is_undelivered, outstanding_job_or_zero}
use Rattle.vfm_laws.proofs.Rising.{by_bool}
use Rattle.vfm_copying.specs.Stale.{has_delivered}

or_false : (b : Bool) → (b || false) ≡ b
or_false true = refl
or_false false = refl

-- what is issued isn't delivered
pub issued_undelivered : (test : ℕ → Bool) (b : Bool) (n job : ℕ) (requests : List Outstanding)
    → has_delivered test (issue_if b (record { number = n; job = job; is_delivered = false }) requests) ≡ has_delivered test requests
issued_undelivered test true n job requests =
    list_any-append (λ (r : Outstanding). r.is_delivered && test r.job) requests ((record { number = n; job = job; is_delivered = false }) ∷ [])
    ∙ or_false (has_delivered test requests)
issued_undelivered test false n job requests = refl

-- where no delivered one passes after a delivery, none did before, nor does what is delivered
pub before_delivery : (test : ℕ → Bool) (n : ℕ) (requests : List Outstanding) → is_undelivered n requests ≡ true
    → has_delivered test (deliver_if true n requests) ≡ false
    → (test (outstanding_job_or_zero n requests) ≡ false) × (has_delivered test requests ≡ false)
before_delivery test n [] undelivered none = absurd (false≢true undelivered)
before_delivery test n (r ∷ requests) undelivered none =
    by_bool (r.number == n)
    (λ b. (if b then not r.is_delivered else is_undelivered n requests) ≡ true
    → has_delivered test (if b then (record { number = r.number; job = r.job; is_delivered = true }) ∷ requests else r ∷ deliver_if true n requests) ≡ false
    → (test (if b then r.job else outstanding_job_or_zero n requests) ≡ false) × (((r.is_delivered && test r.job) || has_delivered test requests) ≡ false))
    (λ same h g.
    let parts = or_parts (test r.job) (has_delivered test requests) g in
    (parts.0, or_from (r.is_delivered && test r.job) (has_delivered test requests) (and_left r.is_delivered (test r.job) (not-true r.is_delivered h)) parts.1))
    (λ other h g.
    let parts = or_parts (r.is_delivered && test r.job) (has_delivered test (deliver_if true n requests)) g in
    let rest = before_delivery test n requests h parts.1 in
    (rest.0, or_from (r.is_delivered && test r.job) (has_delivered test requests) parts.0 rest.1)) undelivered none

-- where no delivered one passes after a completion, nor does what is completed, none did before
pub before_completion : (test : ℕ → Bool) (n : ℕ) (requests : List Outstanding) → test (outstanding_job_or_zero n requests) ≡ false
    → has_delivered test (complete_if true n requests) ≡ false → has_delivered test requests ≡ false
before_completion test n [] own none = refl
before_completion test n (r ∷ requests) own none =
    by_bool (r.number == n)
    (λ b. test (if b then r.job else outstanding_job_or_zero n requests) ≡ false
    → has_delivered test (if b then requests else r ∷ complete_if true n requests) ≡ false
    → ((r.is_delivered && test r.job) || has_delivered test requests) ≡ false)
    (λ same h g. or_from (r.is_delivered && test r.job) (has_delivered test requests) (and_right r.is_delivered (test r.job) h) g)
    (λ other h g.
    let parts = or_parts (r.is_delivered && test r.job) (has_delivered test (complete_if true n requests)) g in
    or_from (r.is_delivered && test r.job) (has_delivered test requests) parts.0 (before_completion test n requests h parts.1)) own none
