-- The device has one of the eight places.
use Rattle.std.proofs.Common.{ℕ, refl, ap, sym, ◌∙◌, arith, slice_index_or}
use Rattle.vfm_lead.proofs.ByDevice.{inside, item_at}
use Rattle.vfm_lead.proofs.by_device.Counts.at.Goals as goal

pub bounds-self-inside-from : goal.bounds-self-inside-from
bounds-self-inside-from c =
    let h = inside c.self.inside.count (λ k. slice_index_or c.self.inside.counts k 0) c.args.d (rw c.self.view_is c.requires) in
    omega arith

pub returns : goal.returns
returns c =
    ap (λ (d : ℕ). slice_index_or c.self.inside.counts d 0) (c.from.ensures ∙ c.d.view_is)
    ∙ sym (item_at c.self.inside.count c.self.inside.counts 0 c.args.d (rw c.self.view_is c.requires))
    ∙ rw c.self.view_is refl
