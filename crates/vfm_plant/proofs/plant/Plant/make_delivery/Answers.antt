-- Both cells are held, and drawn on.
use Rattle.std.proofs.Common.{ℕ, ◌+◌, ◌∷◌, [], refl, ap, sym, ◌∙◌}
use Rattle.vfm_turn.specs.Seen.{hold}
use Rattle.vfm_plant.specs.declared.stepped.Wish.TheVariants as wish
use Rattle.vfm_plant.specs.Outcome.{attempted}
use Rattle.vfm_plant.proofs.Turns.{pair_drawn}
use Rattle.vfm_plant.proofs.plant.Plant.make_delivery.Goals as goal

pub returns-clause-outcome : goal.returns-clause-outcome
returns-clause-outcome c =
    let p = c.args.pair in
    let cell = c.own_cell.ensures in
    let stamp = c.draw_two-stamp.result in
    pair_drawn (attempted c.args.self.now (wish.Device c.args.d c.args.pick) c.args.t.now c.draw_two-stamp.new.t) c.args.d c.args.n c.args.pick (c.base.result + stamp)
    c.own_cell.result p.cell p.region p.own p.target c.step_across.new.own c.step_across.new.target stamp refl c.requires.device c.requires.named c.step_across.ensures.step
    cell c.requires.cell
    (c.draw_two-stamp.ensures.turned p.own p.target
    (c.requires.held ∙ ap (λ (k : ℕ). hold k p.own p.own ∷ hold p.cell p.target p.target ∷ []) (sym cell)))
    (ap (λ (k : ℕ). k + stamp) c.base.ensures.value) refl
