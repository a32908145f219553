-- The device has one of the eight places.
use Rattle.std.proofs.Common.{ℕ, refl, ap, sym, ◌∙◌, arith, false, slice_index_or}
use Rattle.vfm_lead.proofs.ByDevice.{inside, item_at}
use Rattle.vfm_lead.proofs.by_device.Marks.has.Goals as goal

pub bounds-self-inside-from : goal.bounds-self-inside-from
bounds-self-inside-from c =
    let h = inside c.self.inside.count (λ k. slice_index_or c.self.inside.marks k false) c.args.d (rw c.self.view_is c.requires) in
    omega arith

pub returns : goal.returns
returns c =
    ap (λ (d : ℕ). slice_index_or c.self.inside.marks d false) (c.from.ensures ∙ c.d.view_is)
    ∙ sym (item_at c.self.inside.count c.self.inside.marks false c.args.d (rw c.self.view_is c.requires))
    ∙ rw c.self.view_is refl
