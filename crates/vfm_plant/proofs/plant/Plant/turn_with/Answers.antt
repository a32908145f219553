-- The entry touches these two cells.
use Rattle.std.proofs.Common.{ℕ, List, ap, sym, subst, ◌∙◌, ◌∷◌, []}
use Rattle.vfm_parts.specs.Parts.{parts_in}
use Rattle.vfm_turn.specs.Words.{holds_of, number_of, seen_of}
use Rattle.vfm_cells.specs.Cells.{cell_at}
use Rattle.vfm_plant.specs.Hands.{AreAmong, cells_held, touches_by, turned}
use Rattle.vfm_plant.proofs.GroupHands.{group_making, two_rising}
use Rattle.vfm_plant.proofs.plant.Plant.turn_with.Goals as goal

pub turn-requires-clause-rising : goal.turn-requires-clause-rising
turn-requires-clause-rising c = two_rising c.args.cell c.requires.some

pub turn-requires-clause-among : goal.turn-requires-clause-among
turn-requires-clause-among c =
    let turn = c.requires.turn in
    subst (λ (cells : List ℕ). AreAmong cells (cells_held c.args.hands.now.items)) (c.requires.touched (parts_in turn.0)) turn.2.among

pub turn-requires-clause-making : goal.turn-requires-clause-making
turn-requires-clause-making c =
    let D = c.args.self.now.desc in
    let turn = c.requires.turn in (
      cell_at D turn.0,
      cell_at D turn.1,
      group_making D c.args.e.now (holds_of c.args.t.now) c.args.hands.now.items turn.0 turn.1 (0 ∷ c.args.cell ∷ []) turn.2 (c.requires.touched (parts_in turn.0)),
    )

pub returns-clause-turned : goal.returns-clause-turned
returns-clause-turned c = λ w v turn.
    let D = c.args.self.now.desc in
    let is = c.requires.touched (parts_in w) in
    c.turn.ensures.turned (cell_at D w) (cell_at D v)
    (group_making D c.args.e.now (holds_of c.args.t.now) c.args.hands.now.items w v (0 ∷ c.args.cell ∷ []) turn is)
    ∙ ap (λ (cells : List ℕ). turned (number_of c.args.t.now) c.turn.result c.args.e.now (touches_by (cell_at D w) (cell_at D v) cells) (seen_of c.args.t.now)) (sym is)
