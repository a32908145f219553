-- The device's cell is held, and drawn on.
use Rattle.std.proofs.Common.{ℕ, ◌+◌, ◌||◌, Bool, false, ◌∷◌, [], refl, ap, sym, subst, ◌∙◌}
use Rattle.std.proofs.lemmas.Bool.{eq-eqb}
use Rattle.vfm_types.specs.declared.entry.Entry.{Entry}
use Rattle.vfm_turn.specs.Seen.{hold, touch}
use Rattle.vfm_turn.specs.Words.{number_of, seen_of}
use Rattle.vfm_cells.specs.Cells.{dev_number}
use Rattle.vfm_plant.specs.declared.stepped.Wish.TheVariants as wish
use Rattle.vfm_plant.specs.Hands.{turned}
use Rattle.vfm_plant.specs.Outcome.{attempted, HasDrawn}
use Rattle.vfm_plant.proofs.Turns.{dev_drawn, step_own}
use Rattle.vfm_plant.proofs.plant.Plant.make_own.Goals as goal

pub returns-clause-outcome : goal.returns-clause-outcome
returns-clause-outcome c =
    let d = c.args.d in
    let e = c.args.e.now in
    let own = c.args.own in
    let part = c.step_own.new.self in
    let cell = c.own_cell-cell.ensures in
    let stamp = c.draw_one-stamp.result in
    let a = attempted c.args.self.now (wish.Device d c.args.pick) c.args.t.now c.draw_one-stamp.new.t in
    let seen = c.draw_one-stamp.ensures.turned own (c.requires.held ∙ ap (λ (k : ℕ). hold k own own ∷ []) (sym cell))
    ∙ ap (λ (k : ℕ). turned (number_of c.args.t.now) stamp e (touch k own part ∷ []) (seen_of c.args.t.now)) cell in
    subst (λ (x : Entry). HasDrawn a (c.base.result + stamp) x) (sym c.again.ensures)
    (dev_drawn a d c.args.pick (c.base.result + stamp) e (dev_number d ∷ []) (λ k. own) (λ k. part) stamp refl c.requires.device
    (ap (λ (b : Bool). b || false) (eq-eqb (d + 1) (d + 1) refl)) c.requires.named (step_own d e c.requires.entry) c.in-Ok.ensures.step seen
    (ap (λ (k : ℕ). k + stamp) c.base.ensures.value) refl)
