use Rattle.std.proofs.Common.{ap, sym, ◌∙◌}
use Rattle.vfm_types.specs.declared.entry.Entry.TheVariants.{Deliver}
use Rattle.vfm_device_part.proofs.Picks.{entry_of, delivery_is}
use Rattle.vfm_device_part.proofs.part.DevPart.delivery_at.Goals as goal

pub returns-in-Some : goal.returns-in-Some
returns-in-Some c =
    sym (delivery_is c.args.d c.args.self.now.requests c.args.k ∙ ap (entry_of (Deliver c.args.d)) (sym c.number_at.ensures ∙ c.in-Some.is))

pub returns-in-None : goal.returns-in-None
returns-in-None c =
    sym (delivery_is c.args.d c.args.self.now.requests c.args.k ∙ ap (entry_of (Deliver c.args.d)) (sym c.number_at.ensures ∙ c.in-None.is))
