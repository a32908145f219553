-- The list has as many items as there are devices.
use Rattle.std.proofs.Common.{false, sym, slice_index_or}
use Rattle.vfm_parts.proofs.Listed.{length-listed}
use Rattle.vfm_lead.proofs.by_device.Marks.count.Goals as goal

pub returns-clause-value : goal.returns-clause-value
returns-clause-value c = rw (← c.self.view_is) (sym (length-listed c.self.inside.count (λ k. slice_index_or c.self.inside.marks k false)))
