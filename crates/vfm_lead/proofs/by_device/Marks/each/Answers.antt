-- Each device has its place.
use Rattle.std.proofs.Common.{Bool, List, false, slice_index_or, ap, sym, ◌∙◌}
use Rattle.vfm_lead.proofs.ByDevice.{item_at}
use Rattle.vfm_lead.proofs.by_device.Marks.each.Goals as goal

pub returns : goal.returns
returns c = λ d h. sym (item_at c.self.inside.count c.self.inside.marks false d (rw c.self.view_is h)) ∙ ap (λ (marks : List Bool). slice_index_or marks d false) c.self.view_is
