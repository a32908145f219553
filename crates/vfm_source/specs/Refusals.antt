-- Links that were only told that the source gives up.
use Rattle.std.specs.Prelude.{◌≡◌, ℕ, ◌<◌, Bool, true, false, Option, Some, None, List, slice_index_or, slice_set}
use Rattle.vfm_outside.specs.Counts.{Rose}
use Rattle.vfm_send.specs.Sends.{SentPrefix}
use Rattle.vfm_source.specs.declared.fault.OfferFault.{OfferFault}
use Rattle.vfm_source.specs.declared.fault.OfferFault.TheVariants as faults
use Rattle.vfm_source.specs.Offers.{IsFine, Told, untold}

-- a link that failed, or didn't, when it was told so by these bytes
abbrev pub FailedOrFine : Bool → Told → Told → Type 0
FailedOrFine true was now = Rose was.failed_out now.failed_out
FailedOrFine false was now = IsFine was now

-- A prefix of these bytes was sent, and the link is finished and its count as before; or the link failed.
pub record IsRefused (bytes : List ℕ) (was now : Told) (failed : Bool) : Type 0 where
  pub sent : SentPrefix was.sent now.sent bytes
  pub ends : FailedOrFine failed was now

-- link k of these alone was changed so
pub record OneRefused (bytes : List ℕ) (k : ℕ) (before now : List Told) (failed : Bool) : Type 0 where
  pub link : Told
  pub place : now ≡ slice_set before k link
  pub refused : IsRefused bytes (slice_index_or before k untold) link failed

-- the first n links were changed so
abbrev pub AllRefused : List ℕ → ℕ → List Told → List Told → Type 0
AllRefused bytes n before now =
    (k : ℕ) → k < n → (failed : Bool) × IsRefused bytes (slice_index_or before k untold) (slice_index_or now k untold) failed

-- the first n links are finished, and their counts as before
abbrev pub AreFine : ℕ → List Told → List Told → Type 0
AreFine n before now = (k : ℕ) → k < n → IsFine (slice_index_or before k untold) (slice_index_or now k untold)

-- The least of the first n links that failed is this one; or none failed.
abbrev pub IsFirstRefusal : ℕ → List Told → List Told → Option ℕ → Type 0
IsFirstRefusal n before now None = AreFine n before now
IsFirstRefusal n before now (Some k) =
    (k < n) × Rose (slice_index_or before k untold).failed_out (slice_index_or now k untold).failed_out × AreFine k before now

-- what is answered then
abbrev pub fault_of_refusal : Option ℕ → OfferFault
fault_of_refusal (Some k) = faults.Link k
fault_of_refusal None = faults.NoMemory
