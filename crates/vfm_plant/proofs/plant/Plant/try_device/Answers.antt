-- The device's cell is entered, or another seat is in it.
use Rattle.std.proofs.Common.{ℕ, ◌∷◌, ◌++◌, [], List, refl, ap, subst, ◌∙◌}
use Rattle.vfm_turn.specs.Seen.{Hold, hold, met}
use Rattle.vfm_turn.specs.Words.{holds_of, seen_of}
use Rattle.vfm_cells.specs.Cells.{Cell}
use Rattle.vfm_plant.specs.declared.stepped.Wish.TheVariants as wish
use Rattle.vfm_plant.specs.Outcome.{IsOutcome, attempted}
use Rattle.vfm_plant.proofs.Turns.{outcome_from, met_at_once}
use Rattle.vfm_plant.proofs.plant.Plant.try_device.Goals as goal

pub returns-in-Err-clause-outcome : goal.returns-in-Err-clause-outcome
returns-in-Err-clause-outcome c =
    met_at_once (attempted c.args.self.now (wish.Device c.args.d c.args.pick) c.args.t.now c.enter.new.t) c.in-Err.busy
    (c.in-Err.ensures.busy ∙ ap (λ (hs : List (Hold Cell)). record (met c.in-Err.busy (seen_of c.args.t.now)) { holds = hs }) c.requires.rest)
    (c.in-Err.ensures.cell ∙ c.own_cell.ensures) c.in-Err.ensures.holder c.in-Err.ensures.other refl

pub returns-in-Ok-clause-outcome : goal.returns-in-Ok-clause-outcome
returns-in-Ok-clause-outcome c =
    let a = attempted c.args.self.now (wish.Device c.args.d c.args.pick) c.args.t.now c.try_entered.new.t in
    let s = seen_of c.enter.new.t in
    outcome_from a s (holds_of c.args.t.now ++ hold c.own_cell.result c.in-Ok.own c.in-Ok.own ∷ []) c.try_entered.result c.in-Ok.ensures.ok
    (subst (λ (k : ℕ). IsOutcome (record a { by = k; old = s }) c.try_entered.result) c.in-Ok.ensures.ticket.1 c.try_entered.ensures.outcome)
