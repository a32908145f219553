-- The devices before this one fail the test.
use Rattle.std.proofs.Common.{◌≡◌, ℕ, ◌<◌, false}
use Rattle.vfm_quiet.specs.Seen.{may_be_held}
use Rattle.vfm_quiet.proofs.devices.least_to_hold.Given as goal

abbrev pub invariant-loop-d : goal.invariant-loop-d
invariant-loop-d l = (k : ℕ) → k < l.d → may_be_held l.desc l.look k ≡ false
