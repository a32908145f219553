-- The devices before this one pass the test.
use Rattle.std.proofs.Common.{◌≡◌, ℕ, ◌<◌, true}
use Rattle.vfm_types.specs.Paths.{same_state}
use Rattle.vfm_quiet.specs.Seen.{seen}
use Rattle.vfm_quiet.proofs.devices.all_in.Given as goal

abbrev pub invariant-loop-d : goal.invariant-loop-d
invariant-loop-d l = (k : ℕ) → k < l.d → same_state (seen l.look k).state l.state ≡ true
