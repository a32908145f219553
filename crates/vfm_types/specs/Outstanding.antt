-- Requests on the bus: outstanding from their Issue to their Complete, undelivered before their Deliver.
use Rattle.std.specs.Prelude.{ℕ, ◌+◌, ◌==◌, not, Bool, true, false, if◌then◌else◌, List, [], ◌∷◌, ◌++◌}
use Rattle.std.specs.List.{list_any}
use Rattle.vfm_types.specs.declared.entry.Entry.{Entry}
use Rattle.vfm_types.specs.declared.entry.Entry.TheVariants.{Issue, Deliver, Complete}
use Rattle.vfm_types.specs.declared.desc.Desc.{Desc}
use Rattle.vfm_types.specs.Machine.{device_of}
use Rattle.vfm_types.specs.Requests.{job_or_zero}
use Rattle.vfm_types.specs.Deliveries.{machine_of}

-- a request on the bus: its number, its job's number, and whether it has reached its target
pub record Outstanding : Type 0 where
  pub number : ℕ
  pub job : ℕ
  pub is_delivered : Bool

-- one more at the end, where the test holds
abbrev pub issue_if : Bool → Outstanding → List Outstanding → List Outstanding
issue_if true request requests = requests ++ request ∷ []
issue_if false request requests = requests

-- request n marked as delivered, where the test holds
abbrev pub deliver_if : Bool → ℕ → List Outstanding → List Outstanding
deliver_if false n requests = requests
deliver_if true n [] = []
deliver_if true n (r ∷ requests) =
    (if r.number == n then (record { number = r.number; job = r.job; is_delivered = true }) ∷ requests
    else r ∷ deliver_if true n requests)

-- request n taken out, where the test holds
abbrev pub complete_if : Bool → ℕ → List Outstanding → List Outstanding
complete_if false n requests = requests
complete_if true n [] = []
complete_if true n (r ∷ requests) = if r.number == n then requests else r ∷ complete_if true n requests

-- the outstanding requests of device d, in the order of their issue
abbrev pub outstanding_of : Desc → ℕ → List Entry → List Outstanding
outstanding_of D d [] = []
outstanding_of D d (Issue e n ∷ past) =
    issue_if (e == d)
    (record { number = n; job = job_or_zero n (device_of (machine_of D past) d).pending; is_delivered = false })
    (outstanding_of D d past)
outstanding_of D d (Deliver e n ∷ past) = deliver_if (e == d) n (outstanding_of D d past)
outstanding_of D d (Complete e n ∷ past) = complete_if (e == d) n (outstanding_of D d past)
outstanding_of D d (entry ∷ past) = outstanding_of D d past

-- request n is among these and not delivered
abbrev pub is_undelivered : ℕ → List Outstanding → Bool
is_undelivered n [] = false
is_undelivered n (r ∷ requests) = if r.number == n then not r.is_delivered else is_undelivered n requests

-- request n is among these and delivered
abbrev pub is_arrived : ℕ → List Outstanding → Bool
is_arrived n [] = false
is_arrived n (r ∷ requests) = if r.number == n then r.is_delivered else is_arrived n requests

-- request n is among these
abbrev pub is_outstanding : ℕ → List Outstanding → Bool
is_outstanding n requests = list_any (λ r. r.number == n) requests

-- how many of these wait for their delivery, and how many have reached their target
abbrev pub undelivered_count : List Outstanding → ℕ
undelivered_count [] = 0
undelivered_count (r ∷ requests) = undelivered_count requests + (if r.is_delivered then 0 else 1)

abbrev pub delivered_count : List Outstanding → ℕ
delivered_count [] = 0
delivered_count (r ∷ requests) = delivered_count requests + (if r.is_delivered then 1 else 0)

-- the number of the job of request n among these
abbrev pub outstanding_job_or_zero : ℕ → List Outstanding → ℕ
outstanding_job_or_zero n [] = 0
outstanding_job_or_zero n (r ∷ requests) = if r.number == n then r.job else outstanding_job_or_zero n requests

-- the first pending request that isn't outstanding
abbrev pub unissued : List Outstanding → List (ℕ × ℕ) → List (ℕ × ℕ)
unissued requests [] = []
unissued requests (p ∷ pending) =
    if is_outstanding p.0 requests then unissued requests pending else p ∷ unissued requests pending

-- how many requests of device d were issued, and how many completed
abbrev pub issue_count : ℕ → List Entry → ℕ
issue_count d [] = 0
issue_count d (Issue e n ∷ past) = issue_count d past + (if e == d then 1 else 0)
issue_count d (entry ∷ past) = issue_count d past

abbrev pub complete_count : ℕ → List Entry → ℕ
complete_count d [] = 0
complete_count d (Complete e n ∷ past) = complete_count d past + (if e == d then 1 else 0)
complete_count d (entry ∷ past) = complete_count d past
