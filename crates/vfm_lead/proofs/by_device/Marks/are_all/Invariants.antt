-- The devices before this one are marked.
use Rattle.std.proofs.Common.{◌≡◌, ℕ, ◌<◌, true, false, slice_index_or}
use Rattle.vfm_lead.proofs.by_device.Marks.are_all.Given as goal

abbrev pub invariant-loop-d : goal.invariant-loop-d
invariant-loop-d l = (k : ℕ) → k < l.d → slice_index_or l.self k false ≡ true
