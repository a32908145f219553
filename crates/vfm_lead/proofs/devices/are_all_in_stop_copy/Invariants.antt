-- The devices before this one pass the test.
use Rattle.std.proofs.Common.{◌≡◌, ℕ, ◌<◌, true}
use Rattle.vfm_types.specs.declared.state.MigState.TheVariants.{StopCopy}
use Rattle.vfm_types.specs.Paths.{same_state}
use Rattle.vfm_lead.specs.LeadSteps.{dev_of_list}
use Rattle.vfm_lead.proofs.devices.are_all_in_stop_copy.Given as goal

abbrev pub invariant-loop-d : goal.invariant-loop-d
invariant-loop-d l = (k : ℕ) → k < l.d → (same_state (dev_of_list l.devices k).state StopCopy) ≡ true
