-- The devices before this one pass the test.
use Rattle.std.proofs.Common.{◌≡◌, ℕ, ◌<◌, true}
use Rattle.vfm_quiet.specs.Seen.{sees_warm}
use Rattle.vfm_quiet.proofs.devices.are_warm.Given as goal

abbrev pub invariant-loop-d : goal.invariant-loop-d
invariant-loop-d l = (k : ℕ) → k < l.d → sees_warm l.desc l.look k ≡ true
