-- The devices before this one have reported.
use Rattle.std.proofs.Common.{◌≡◌, ℕ, ◌<◌, true}
use Rattle.vfm_quiet.specs.Seen.{sees_reported}
use Rattle.vfm_quiet.proofs.devices.least_unreported.Given as goal

abbrev pub invariant-loop-d : goal.invariant-loop-d
invariant-loop-d l = (k : ℕ) → k < l.d → sees_reported l.look k ≡ true
