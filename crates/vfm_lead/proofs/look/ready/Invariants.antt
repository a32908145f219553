-- The devices before this one have their answers.
use Rattle.std.proofs.Common.{◌≡◌, ℕ, ◌<◌, false, length, slice_index_or}
use Rattle.vfm_parts_laws.specs.LooksIn.{is_ready_in}
use Rattle.vfm_lead.specs.LeadSteps.{parts_of}
use Rattle.vfm_lead.proofs.look.ready.Given as goal

abbrev pub invariant-loop-d : goal.invariant-loop-d
invariant-loop-d l = record { places : length l.ready ≡ 8; shown : (k : ℕ) → k < l.d → slice_index_or l.ready k false ≡ is_ready_in l.desc k (parts_of l.lead l.devices) }
