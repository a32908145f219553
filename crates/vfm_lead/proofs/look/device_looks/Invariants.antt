-- The devices before this one have their looks.
use Rattle.std.proofs.Common.{◌≡◌, ℕ, ◌<◌, length, slice_index_or}
use Rattle.vfm_parts_laws.specs.LooksIn.{look_in}
use Rattle.vfm_quiet.specs.Seen.{no_look}
use Rattle.vfm_lead.specs.LeadSteps.{dev_of_list}
use Rattle.vfm_lead.proofs.look.device_looks.Given as goal

abbrev pub invariant-loop-d : goal.invariant-loop-d
invariant-loop-d l = record { places : length l.looks ≡ 8; shown : (k : ℕ) → k < l.d → slice_index_or l.looks k no_look ≡ look_in l.desc k (dev_of_list l.devices k) }
