-- Its own cell is held.
use Rattle.std.proofs.Common.{◌≡◌, ℕ, refl, ap, sym, ◌∙◌}
use Rattle.vfm_turn.specs.Seen.{Seen, left, noted, met}
use Rattle.vfm_turn.specs.Words.{holds_of, seen_of}
use Rattle.vfm_cells.specs.Cells.{Cell, dev_number}
use Rattle.vfm_plant.specs.declared.stepped.Wish.TheVariants as wish
use Rattle.vfm_plant.specs.Outcome.{attempted}
use Rattle.vfm_plant.proofs.Turns.{one_held, met_one, dev_met}
use Rattle.vfm_plant.proofs.plant.Plant.try_delivery.Goals as goal

pub leave-requires-clause-held : goal.leave-requires-clause-held
leave-requires-clause-held c =
    rw c.own_cell.ensures
    (one_held (dev_number c.args.d) c.args.own (holds_of c.now.new.t)
    (ap (λ (s : Seen Cell). s.holds) c.now.ensures.seen ∙ (ap (λ (s : Seen Cell). s.holds) c.in-Err.ensures.busy ∙ c.requires.held)))

pub returns-in-Err-clause-outcome : goal.returns-in-Err-clause-outcome
returns-in-Err-clause-outcome c =
    let d = c.args.d in
    let seen : seen_of c.leave.new.t ≡ left (dev_number d) (noted c.now.result (met c.in-Err.busy (seen_of c.args.t.now))) =
    c.leave.ensures.seen
    ∙ (ap (λ (k : ℕ). left k (seen_of c.now.new.t)) c.own_cell.ensures
    ∙ ap (left (dev_number d)) (c.now.ensures.seen ∙ ap (noted c.now.result) c.in-Err.ensures.busy)) in
    dev_met (attempted c.args.self.now (wish.Device d c.args.pick) c.args.t.now c.leave.new.t) c.in-Err.busy d c.args.n c.args.pick c.now.result c.in-Some.region c.args.own
    refl c.requires.device c.requires.named (sym c.target.ensures.value ∙ c.in-Some.is) (c.in-Err.ensures.cell ∙ c.cell_of-cell.ensures.value)
    (met_one (seen_of c.args.t.now) (seen_of c.leave.new.t) c.in-Err.busy (dev_number d) c.now.result c.args.own seen c.requires.held)
    c.in-Err.ensures.holder c.in-Err.ensures.other refl
