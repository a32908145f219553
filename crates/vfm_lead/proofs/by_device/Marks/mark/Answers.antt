-- The device has one of the eight places.
use Rattle.std.proofs.Common.{arith, true, false, slice_index_or}
use Rattle.vfm_lead.proofs.ByDevice.{inside, item_set}
use Rattle.vfm_lead.proofs.by_device.Marks.mark.Goals as goal

pub bounds-self-inside-from : goal.bounds-self-inside-from
bounds-self-inside-from c =
    let h = inside c.self.inside.count (λ k. slice_index_or c.self.inside.marks k false) c.args.d (rw c.self.view_is c.requires) in
    omega arith

pub returns : goal.returns
returns c = rw (c.from.ensures, c.d.view_is, ← c.self.view_is) (item_set c.self.inside.count c.self.inside.marks c.args.d true false (let h = inside c.self.inside.count (λ k. slice_index_or c.self.inside.marks k false) c.args.d (rw c.self.view_is c.requires) in omega arith))
