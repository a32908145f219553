-- The devices before this one pass the test.
use Rattle.std.proofs.Common.{◌≡◌, ℕ, ◌<◌, true, ◌||◌, nat_le}
use Rattle.vfm_parts.specs.PartWords.{is_idle_in}
use Rattle.vfm_lead.specs.LeadSteps.{dev_of_list}
use Rattle.vfm_lead.proofs.devices.may_begin.Given as goal

abbrev pub invariant-loop-d : goal.invariant-loop-d
invariant-loop-d l = (k : ℕ) → k < l.d → (nat_le l.desc.begin (dev_of_list l.devices k).completes || is_idle_in (dev_of_list l.devices k)) ≡ true
