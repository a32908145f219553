-- The devices before this one pass the test.
use Rattle.std.proofs.Common.{◌≡◌, ℕ, ◌<◌, true, ◌||◌}
use Rattle.vfm_types.specs.Arcs.{is_p2p, is_stopped}
use Rattle.vfm_lead.specs.LeadSteps.{dev_of_list}
use Rattle.vfm_lead.proofs.devices.are_quiet.Given as goal

abbrev pub invariant-loop-d : goal.invariant-loop-d
invariant-loop-d l = (k : ℕ) → k < l.d → (is_p2p (dev_of_list l.devices k).state || is_stopped (dev_of_list l.devices k).state) ≡ true
