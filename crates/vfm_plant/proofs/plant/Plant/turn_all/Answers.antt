-- The numbers are those of all these cells.
use Rattle.std.proofs.Common.{◌≡◌, ℕ, ◌+◌, ◌≤◌, List, take, ap, sym, subst, ◌∙◌, ◌∷◌, [], arith}
use Rattle.vfm_types.specs.Desc.{device_count}
use Rattle.vfm_parts.specs.Parts.{parts_in}
use Rattle.vfm_turn.specs.Seen.{are_rising}
use Rattle.vfm_turn.specs.Words.{holds_of, number_of, seen_of}
use Rattle.vfm_cells.specs.Cells.{cell_at}
use Rattle.vfm_cells.specs.Touched.{up_from}
use Rattle.vfm_plant.specs.Hands.{AreAmong, cells_held, touches_by, turned}
use Rattle.vfm_plant.proofs.GroupHands.{all_rising, first_cells, group_making}
use Rattle.vfm_plant.proofs.plant.Plant.turn_all.Goals as goal

abbrev numbers : List ℕ
numbers = 0 ∷ 1 ∷ 2 ∷ 3 ∷ 4 ∷ 5 ∷ 6 ∷ 7 ∷ 8 ∷ []

cells_are : (n len : ℕ) → len ≡ n → n ≤ 8 → take (len + 1) numbers ≡ up_from 0 (n + 1)
cells_are n len is few = ap (λ (k : ℕ). take (k + 1) numbers) is ∙ first_cells (n + 1) (omega arith)

pub turn-requires-clause-rising : goal.turn-requires-clause-rising
turn-requires-clause-rising c =
    let n = device_count c.args.self.now.desc in
    ap are_rising (cells_are n c.len.result c.len.ensures c.requires.plant.valid.in_range.count_high) ∙ all_rising (n + 1)

pub turn-requires-clause-among : goal.turn-requires-clause-among
turn-requires-clause-among c =
    let n = device_count c.args.self.now.desc in
    let turn = c.requires.turn in
    subst (λ (cells : List ℕ). AreAmong cells (cells_held c.args.hands.now.items))
    (c.requires.touched (parts_in turn.0) ∙ sym (cells_are n c.len.result c.len.ensures c.requires.plant.valid.in_range.count_high)) turn.2.among

pub turn-requires-clause-making : goal.turn-requires-clause-making
turn-requires-clause-making c =
    let D = c.args.self.now.desc in
    let turn = c.requires.turn in (
      cell_at D turn.0,
      cell_at D turn.1,
      group_making D c.args.e.now (holds_of c.args.t.now) c.args.hands.now.items turn.0 turn.1 (take (c.len.result + 1) numbers) turn.2
          (c.requires.touched (parts_in turn.0) ∙ sym (cells_are (device_count D) c.len.result c.len.ensures c.requires.plant.valid.in_range.count_high)),
    )

pub returns-clause-turned : goal.returns-clause-turned
returns-clause-turned c = λ w v turn.
    let D = c.args.self.now.desc in
    let is = c.requires.touched (parts_in w) ∙ sym (cells_are (device_count D) c.len.result c.len.ensures c.requires.plant.valid.in_range.count_high) in
    c.turn.ensures.turned (cell_at D w) (cell_at D v)
    (group_making D c.args.e.now (holds_of c.args.t.now) c.args.hands.now.items w v (take (c.len.result + 1) numbers) turn is)
    ∙ ap (λ (cells : List ℕ). turned (number_of c.args.t.now) c.turn.result c.args.e.now (touches_by (cell_at D w) (cell_at D v) cells) (seen_of c.args.t.now)) (sym is)
