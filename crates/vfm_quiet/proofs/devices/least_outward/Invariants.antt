-- The devices before this one fail the test.
use Rattle.std.proofs.Common.{◌≡◌, ℕ, ◌<◌, false}
use Rattle.vfm_quiet.specs.Seen.{may_go_out}
use Rattle.vfm_quiet.proofs.devices.least_outward.Given as goal

abbrev pub invariant-loop-d : goal.invariant-loop-d
invariant-loop-d l = (k : ℕ) → k < l.d → may_go_out l.look k ≡ false
