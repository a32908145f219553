-- The devices before this one pass the test.
use Rattle.std.proofs.Common.{◌≡◌, ℕ, ◌<◌, true, ◌||◌, not}
use Rattle.vfm_types.specs.declared.state.MigState.TheVariants.{PreCopy}
use Rattle.vfm_types.specs.Desc.{shape_at}
use Rattle.vfm_types.specs.Paths.{same_state}
use Rattle.vfm_types.specs.State.{has_pre_copy}
use Rattle.vfm_lead.specs.LeadSteps.{dev_of_list}
use Rattle.vfm_lead.proofs.devices.have_entered_pre_copy.Given as goal

abbrev pub invariant-loop-d : goal.invariant-loop-d
invariant-loop-d l = (k : ℕ) → k < l.d → (not (has_pre_copy (shape_at l.desc k).flags) || same_state (dev_of_list l.devices k).state PreCopy) ≡ true
