-- The devices before this one fail the test.
use Rattle.std.proofs.Common.{◌≡◌, ℕ, ◌<◌, false}
use Rattle.vfm_quiet.specs.Seen.{may_enter_pre_copy}
use Rattle.vfm_quiet.proofs.devices.least_entering.Given as goal

abbrev pub invariant-loop-d : goal.invariant-loop-d
invariant-loop-d l = (k : ℕ) → k < l.d → may_enter_pre_copy l.desc l.look k ≡ false
