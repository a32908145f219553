-- One cell is held, noted and left.
use Rattle.std.proofs.Common.{◌≡◌, ℕ, ◌+◌, refl, ap, ◌∙◌}
use Rattle.vfm_turn.specs.Seen.{Seen, left, noted}
use Rattle.vfm_turn.specs.Words.{holds_of, seen_of}
use Rattle.vfm_cells.specs.Cells.{Cell, dev_number}
use Rattle.vfm_plant.specs.declared.stepped.Wish.TheVariants as wish
use Rattle.vfm_plant.specs.Outcome.{attempted}
use Rattle.vfm_plant.proofs.Turns.{one_held, looked_one, dev_looked}
use Rattle.vfm_plant.proofs.plant.Plant.see_nothing.Goals as goal

pub leave-requires-clause-held : goal.leave-requires-clause-held
leave-requires-clause-held c =
    let cell = c.own_cell.ensures in
    rw cell (one_held (dev_number c.args.d) c.args.own (holds_of c.now-answer.new.t) (ap (λ (s : Seen Cell). s.holds) c.now-answer.ensures.seen ∙ c.requires.held))

pub returns-clause-outcome : goal.returns-clause-outcome
returns-clause-outcome c =
    let cell = c.own_cell.ensures in
    let seen : seen_of c.leave.new.t ≡ left (dev_number c.args.d) (noted c.now-answer.result (seen_of c.args.t.now)) =
    c.leave.ensures.seen ∙ (ap (λ (k : ℕ). left k (seen_of c.now-answer.new.t)) cell ∙ ap (left (dev_number c.args.d)) c.now-answer.ensures.seen) in
    dev_looked (attempted c.args.self.now (wish.Device c.args.d c.args.pick) c.args.t.now c.leave.new.t) c.args.d c.args.pick
    (c.base.result + c.now-answer.result) c.now-answer.result c.args.own c.look-look.result refl c.requires.device c.requires.none c.look-look.ensures
    (looked_one (seen_of c.args.t.now) (seen_of c.leave.new.t) (dev_number c.args.d) c.now-answer.result c.args.own seen c.requires.held)
    (ap (λ (k : ℕ). k + c.now-answer.result) c.base.ensures.value) refl
