-- What stands at a place among the requests on the bus, and what is taken or changed there.
use Rattle.std.proofs.Common.{◌≡◌, ℕ, zero, suc, ◌+◌, ◌<◌, ◌≤◌, ◌==◌, not, Bool, true, false, if◌then◌else◌, List, [], ◌∷◌, ◌++◌, length, take, remove, slice_index_or, slice_set, Some, None, refl, ap, eq-eqb, arith}
use Rattle.std.proofs.lemmas.Bool.{or_parts}
use Rattle.vfm_types.specs.Outstanding.{Outstanding, complete_if, deliver_if, is_arrived, is_outstanding, is_undelivered, outstanding_job_or_zero, undelivered_count}
use Rattle.vfm_device.specs.Bus.{StandsAt, no_request, outstanding_at}

-- what holds of a list whose first request has the number, and is carried past one that hasn't, holds where it stands
pub at_place : (n : ℕ) (P : List Outstanding → ℕ → Type 0)
    → ((r : Outstanding) (rest : List Outstanding) → (r.number == n) ≡ true → P (r ∷ rest) 0)
    → ((r : Outstanding) (rest : List Outstanding) (k : ℕ) → (r.number == n) ≡ false → P rest k → P (r ∷ rest) (suc k))
    → (requests : List Outstanding) (k : ℕ) → StandsAt n k requests → P requests k
at_place n P here later [] k stands = let within : k < 0 = stands.within in absurd (omega arith)
at_place n P here later (r ∷ rest) zero stands = here r rest (eq-eqb r.number n stands.number)
at_place n P here later (r ∷ rest) (suc k) stands =
    let parts = or_parts (r.number == n) (is_outstanding n (take k rest)) stands.first in
    let within : suc k < suc (length rest) = stands.within in
    later r rest k parts.0 (at_place n P here later rest k (record { within = omega arith; number = stands.number; first = parts.1 }))

pub undelivered_at : (n k : ℕ) (requests : List Outstanding) → StandsAt n k requests
    → is_undelivered n requests ≡ not (slice_index_or requests k no_request).is_delivered
undelivered_at n k requests =
    at_place n (λ rs i. is_undelivered n rs ≡ not (slice_index_or rs i no_request).is_delivered)
    (λ r rest same. rw same refl) (λ r rest i other after. rw other after) requests k

pub arrived_at : (n k : ℕ) (requests : List Outstanding) → StandsAt n k requests
    → is_arrived n requests ≡ (slice_index_or requests k no_request).is_delivered
arrived_at n k requests =
    at_place n (λ rs i. is_arrived n rs ≡ (slice_index_or rs i no_request).is_delivered)
    (λ r rest same. rw same refl) (λ r rest i other after. rw other after) requests k

pub job_at_place : (n k : ℕ) (requests : List Outstanding) → StandsAt n k requests
    → outstanding_job_or_zero n requests ≡ (slice_index_or requests k no_request).job
job_at_place n k requests =
    at_place n (λ rs i. outstanding_job_or_zero n rs ≡ (slice_index_or rs i no_request).job)
    (λ r rest same. rw same refl) (λ r rest i other after. rw other after) requests k

-- request n marked as delivered where it stands
abbrev pub delivered_at : List Outstanding → ℕ → List Outstanding
delivered_at requests k =
    let r = slice_index_or requests k no_request in
    slice_set requests k (record { number = r.number; job = r.job; is_delivered = true })

pub deliver_at : (n k : ℕ) (requests : List Outstanding) → StandsAt n k requests
    → deliver_if true n requests ≡ delivered_at requests k
deliver_at n k requests =
    at_place n (λ rs i. deliver_if true n rs ≡ delivered_at rs i)
    (λ r rest same. rw same refl) (λ r rest i other after. rw other (ap (λ (xs : List Outstanding). r ∷ xs) after)) requests k

pub complete_at : (n k : ℕ) (requests : List Outstanding) → StandsAt n k requests
    → complete_if true n requests ≡ remove requests k
complete_at n k requests =
    at_place n (λ rs i. complete_if true n rs ≡ remove rs i)
    (λ r rest same. rw same refl) (λ r rest i other after. rw other (ap (λ (xs : List Outstanding). r ∷ xs) after)) requests k

-- a request that isn't among them
pub undelivered_none : (n : ℕ) (requests : List Outstanding) → is_outstanding n requests ≡ false → is_undelivered n requests ≡ false
undelivered_none n [] none = refl
undelivered_none n (r ∷ requests) none =
    let parts = or_parts (r.number == n) (is_outstanding n requests) none in
    rw parts.0 (undelivered_none n requests parts.1)

pub arrived_none : (n : ℕ) (requests : List Outstanding) → is_outstanding n requests ≡ false → is_arrived n requests ≡ false
arrived_none n [] none = refl
arrived_none n (r ∷ requests) none =
    let parts = or_parts (r.number == n) (is_outstanding n requests) none in
    rw parts.0 (arrived_none n requests parts.1)

pub deliver_none : (n : ℕ) (requests : List Outstanding) → is_outstanding n requests ≡ false → deliver_if true n requests ≡ requests
deliver_none n [] none = refl
deliver_none n (r ∷ requests) none =
    let parts = or_parts (r.number == n) (is_outstanding n requests) none in
    rw parts.0 (ap (λ (xs : List Outstanding). r ∷ xs) (deliver_none n requests parts.1))

pub complete_none : (n : ℕ) (requests : List Outstanding) → is_outstanding n requests ≡ false → complete_if true n requests ≡ requests
complete_none n [] none = refl
complete_none n (r ∷ requests) none =
    let parts = or_parts (r.number == n) (is_outstanding n requests) none in
    rw parts.0 (ap (λ (xs : List Outstanding). r ∷ xs) (complete_none n requests parts.1))

-- how many wait, with one more behind
pub undelivered_more : (requests : List Outstanding) (r : Outstanding)
    → undelivered_count (requests ++ r ∷ []) ≡ undelivered_count requests + (if r.is_delivered then 0 else 1)
undelivered_more [] r = refl
undelivered_more (x ∷ requests) r =
    let after : undelivered_count (requests ++ r ∷ []) ≡ undelivered_count requests + (if r.is_delivered then 0 else 1) = undelivered_more requests r in
    omega (arith, after)

-- at most all wait
pub undelivered_most : (requests : List Outstanding) → undelivered_count requests ≤ length requests
undelivered_most [] = omega arith
undelivered_most (r ∷ requests) = go r.is_delivered (undelivered_most requests)
  where
    go : (b : Bool) → undelivered_count requests ≤ length requests → undelivered_count requests + (if b then 0 else 1) ≤ suc (length requests)
    go true rest = omega (arith, rest)
    go false rest = omega (arith, rest)

-- how many wait, beside the one at a place that is taken off
pub undelivered_removed : (requests : List Outstanding) (k : ℕ) (none : Outstanding) → k < length requests
    → undelivered_count requests ≡ undelivered_count (remove requests k) + (if (slice_index_or requests k none).is_delivered then 0 else 1)
undelivered_removed [] k none within = absurd (omega arith)
undelivered_removed (r ∷ requests) zero none within = refl
undelivered_removed (r ∷ requests) (suc k) none within =
    let rest : undelivered_count requests ≡ undelivered_count (remove requests k) + (if (slice_index_or requests k none).is_delivered then 0 else 1) =
    undelivered_removed requests k none (omega arith) in
    omega (arith, rest)

-- and beside the one at a place where a delivered one is put
pub undelivered_marked : (requests : List Outstanding) (k : ℕ) (none x : Outstanding) → x.is_delivered ≡ true → k < length requests
    → undelivered_count requests ≡ undelivered_count (slice_set requests k x) + (if (slice_index_or requests k none).is_delivered then 0 else 1)
undelivered_marked [] k none x marked within = absurd (omega arith)
undelivered_marked (r ∷ requests) zero none x marked within =
    let counts : undelivered_count (x ∷ requests) ≡ undelivered_count requests + 0 = ap (λ (b : Bool). undelivered_count requests + (if b then 0 else 1)) marked in
    omega (arith, counts)
undelivered_marked (r ∷ requests) (suc k) none x marked within =
    let rest : undelivered_count requests ≡ undelivered_count (slice_set requests k x) + (if (slice_index_or requests k none).is_delivered then 0 else 1) =
    undelivered_marked requests k none x marked (omega arith) in
    omega (arith, rest)

pub stands_outstanding : (n k : ℕ) (requests : List Outstanding) → StandsAt n k requests → is_outstanding n requests ≡ true
stands_outstanding n k requests =
    at_place n (λ rs i. is_outstanding n rs ≡ true) (λ r rest same. rw same refl) (λ r rest i other after. rw other after) requests k

-- a request stands at each place below the length, and none beyond
pub there : (requests : List Outstanding) (i : ℕ) → i < length requests
    → outstanding_at requests i ≡ Some ((slice_index_or requests i no_request).number, (slice_index_or requests i no_request).is_delivered)
there [] i within = absurd (omega arith)
there (r ∷ requests) zero within = refl
there (r ∷ requests) (suc i) within = there requests i (omega arith)

pub beyond : (requests : List Outstanding) (i : ℕ) → length requests ≤ i → outstanding_at requests i ≡ None
beyond [] i past = refl
beyond (r ∷ requests) zero past = absurd (omega arith)
beyond (r ∷ requests) (suc i) past = beyond requests i (omega arith)
