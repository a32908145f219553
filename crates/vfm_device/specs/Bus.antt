-- The requests that a device has on the bus, and where one of them stands among them.
use Rattle.std.specs.Prelude.{◌≡◌, ℕ, ◌-◌, ◌<◌, ◌≤◌, ◌==◌, Bool, true, false, not, if◌then◌else◌, List, [], ◌∷◌, Option, Some, None, length, slice_index_or, suc, take, zero}
use Rattle.vfm_types.specs.Outstanding.{Outstanding, is_outstanding, undelivered_count}

-- what stands where no request stands
abbrev pub no_request : Outstanding
no_request = record { number = 0; job = 0; is_delivered = false }

-- request n stands at place k of these, and none of those before it has its number
pub record StandsAt (n k : ℕ) (requests : List Outstanding) : Type 0 where
  pub within : k < length requests
  pub number : (slice_index_or requests k no_request).number ≡ n
  pub first : is_outstanding n (take k requests) ≡ false

-- what a bus keeps: room for eight requests, and the count of those that are yet to be delivered
pub record BusKept (requests : List Outstanding) (waiting room : ℕ) : Type 0 where
  pub roomy : 8 ≤ room
  pub counted : waiting ≡ undelivered_count requests

-- the number of the request at place i of these, and whether it was delivered
abbrev pub outstanding_at : List Outstanding → ℕ → Option (ℕ × Bool)
outstanding_at [] i = None
outstanding_at (r ∷ requests) zero = Some (r.number, r.is_delivered)
outstanding_at (r ∷ requests) (suc i) = outstanding_at requests i

-- both hold or neither does
abbrev pub is_same_flag : Bool → Bool → Bool
is_same_flag true b = b
is_same_flag false b = not b

-- of those of these requests that were delivered, or of those that weren't: the number of the one at place k, from 0
abbrev pub number_at : Bool → List Outstanding → ℕ → Option ℕ
number_at delivered [] k = None
number_at delivered (r ∷ requests) k =
    if is_same_flag r.is_delivered delivered then (if k == 0 then Some r.number else number_at delivered requests (k - 1))
    else number_at delivered requests k
