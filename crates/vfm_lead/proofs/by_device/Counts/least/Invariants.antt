-- The devices before this one have none.
use Rattle.std.proofs.Common.{◌≡◌, ℕ, ◌<◌, false, nat_lt, slice_index_or}
use Rattle.vfm_lead.proofs.by_device.Counts.least.Given as goal

abbrev pub invariant-loop-d : goal.invariant-loop-d
invariant-loop-d l = (k : ℕ) → k < l.d → nat_lt 0 (slice_index_or l.self k 0) ≡ false
