-- How the requests of a device stand: pending ones with rising numbers, of which the undelivered ones are the first.
use Rattle.std.specs.Prelude.{◌≡◌, ℕ, ◌+◌, ◌<◌, ◌≤◌, ◌==◌, Bool, true, false, if◌then◌else◌, List, [], ◌∷◌, ◌++◌, length}
use Rattle.std.specs.List.{list_any}
use Rattle.vfm_types.specs.declared.desc.Desc.{Desc}
use Rattle.vfm_types.specs.declared.entry.Entry.{Entry}
use Rattle.vfm_types.specs.Desc.{device_count, shape_at}
use Rattle.vfm_types.specs.Machine.{DeviceState, device_of, numbered}
use Rattle.vfm_types.specs.Deliveries.{machine_of}
use Rattle.vfm_types.specs.Outstanding.{Outstanding, outstanding_of, is_outstanding}
use Rattle.vfm_types.specs.Words.{has_fence}

-- the undelivered ones of these requests, each with its number and the number of its job, in the order of their issue
abbrev pub waiting : List Outstanding → List (ℕ × ℕ)
waiting [] = []
waiting (r ∷ requests) = if r.is_delivered then waiting requests else (r.number, r.job) ∷ waiting requests

-- request n is among these
abbrev pub is_listed : ℕ → List (ℕ × ℕ) → Bool
is_listed n requests = list_any (λ r. r.0 == n) requests

-- the numbers of these requests rise, from `low` on and below `high`
abbrev pub IsRising : ℕ → List (ℕ × ℕ) → ℕ → Type 0
IsRising low [] high = low ≤ high
IsRising low (r ∷ requests) high = (low ≤ r.0) × IsRising (r.0 + 1) requests high

-- the fact holds of the number of each delivered one of these requests
abbrev pub AllDelivered : (ℕ → Type 0) → List Outstanding → Type 0
AllDelivered Fact [] = Unit {0}
AllDelivered Fact (r ∷ requests) = (r.is_delivered ≡ true → Fact r.number) × AllDelivered Fact requests

-- no two of these requests have one number
abbrev pub AllOnce : List Outstanding → Type 0
AllOnce [] = Unit {0}
AllOnce (r ∷ requests) = (is_outstanding r.number requests ≡ false) × AllOnce requests

-- the number was given to a request of this device that isn't pending any more
abbrev pub IsGone : DeviceState → ℕ → Type 0
IsGone device n = (n < device.accepted) × (is_listed n device.pending ≡ false)

-- A device before and after the effect of a request: what its doorbell was rung for is accepted after the rest.
pub record IsGrown (D : Desc) (d : ℕ) (before after : DeviceState) : Type 0 where
  pub jobs : List ℕ
  pub pending : after.pending ≡ before.pending ++ numbered before.accepted jobs
  pub accepted : after.accepted ≡ before.accepted + length jobs
  pub done : after.done ≡ before.done
  pub budget : before.accepted ≤ (shape_at D d).budget → after.accepted ≤ (shape_at D d).budget

-- What every legal list keeps of a device's requests, pending and outstanding.
pub record QueueKept (D : Desc) (d : ℕ) (device : DeviceState) (requests : List Outstanding) : Type 0 where
  pub rest : List (ℕ × ℕ)
  pub pending : device.pending ≡ waiting requests ++ rest
  pub rising : IsRising 0 device.pending device.accepted
  pub gone : AllDelivered (IsGone device) requests
  pub once : AllOnce requests
  pub count : device.accepted ≡ device.done + length device.pending
  pub budget : device.accepted ≤ (shape_at D d).budget
  pub window : length requests ≤ (shape_at D d).window
  pub alone : has_fence D d requests ≡ true → length requests ≤ 1

-- one list is how another begins
abbrev pub IsPrefixOf : List (ℕ × ℕ) → List (ℕ × ℕ) → Type 0
IsPrefixOf front whole = (rest : List (ℕ × ℕ)) × (whole ≡ front ++ rest)

-- device d after a list
abbrev pub device_after : Desc → ℕ → List Entry → DeviceState
device_after D d past = device_of (machine_of D past) d

-- the machine of a list has the devices of the description, and each keeps its queue in order
abbrev pub KeepsQueues : Desc → List Entry → Type 0
KeepsQueues D past =
    (length (machine_of D past).devices ≡ device_count D)
    × ((d : ℕ) → d < device_count D → QueueKept D d (device_of (machine_of D past) d) (outstanding_of D d past))
