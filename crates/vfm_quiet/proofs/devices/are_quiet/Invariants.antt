-- The devices before this one pass the test.
use Rattle.std.proofs.Common.{◌≡◌, ℕ, ◌<◌, ◌||◌, true}
use Rattle.vfm_types.specs.Arcs.{is_p2p, is_stopped}
use Rattle.vfm_quiet.specs.Seen.{seen}
use Rattle.vfm_quiet.proofs.devices.are_quiet.Given as goal

abbrev pub invariant-loop-d : goal.invariant-loop-d
invariant-loop-d l = (k : ℕ) → k < l.d → (is_p2p (seen l.look k).state || is_stopped (seen l.look k).state) ≡ true
