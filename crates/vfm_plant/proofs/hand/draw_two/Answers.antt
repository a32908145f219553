-- Two cells are held.
use Rattle.std.proofs.Common.{◌≡◌, ℕ, List, [], ◌∷◌, ◌++◌, ap, sym, ◌∙◌}
use Rattle.vfm_turn.specs.Words.{holds_of, number_of, seen_of}
use Rattle.vfm_cell_steps.specs.Made.{two_cells}
use Rattle.vfm_plant.specs.declared.hand.Hand.{Hand}
use Rattle.vfm_plant.specs.Hands.{touches_by, turned}
use Rattle.vfm_plant.proofs.Turns.{two_making, order_low, order_high, has_swapped}
use Rattle.vfm_plant.proofs.hand.draw_two.Goals as goal

pub turn-requires-clause-making : goal.turn-requires-clause-making
turn-requires-clause-making c =
    let one = c.args.one in
    let two = c.args.two in
    let is : c.push_reserved-2.new.self.items ≡ one ∷ two ∷ [] =
    c.push_reserved-2.ensures.items ∙ (ap (λ (hs : List Hand). hs ++ two ∷ []) (c.push_reserved.ensures.items ∙ ap (λ (hs : List Hand). hs ++ one ∷ []) c.requires.hands.0)) in
    let w = c.requires.held in (
      two_cells one.cell w.0 w.1,
      two_cells one.cell one.part two.part,
      two_making (holds_of c.args.t.now) c.push_reserved-2.new.self.items one two w.0 w.1 (one.cell ∷ two.cell ∷ []) is c.requires.other w.2 (λ k among. among),
    )

pub turn-requires-else-a-b-clause-making : goal.turn-requires-else-a-b-clause-making
turn-requires-else-a-b-clause-making c =
    let one = c.args.one in
    let two = c.args.two in
    let is : c.push_reserved-2.new.self.items ≡ one ∷ two ∷ [] =
    c.push_reserved-2.ensures.items ∙ (ap (λ (hs : List Hand). hs ++ two ∷ []) (c.push_reserved.ensures.items ∙ ap (λ (hs : List Hand). hs ++ one ∷ []) c.requires.hands.0)) in
    let w = c.requires.held in (
      two_cells one.cell w.0 w.1,
      two_cells one.cell one.part two.part,
      two_making (holds_of c.args.t.now) c.push_reserved-2.new.self.items one two w.0 w.1 (two.cell ∷ one.cell ∷ []) is c.requires.other w.2
          (has_swapped one.cell two.cell),
    )

pub returns-then-a-b-clause-turned : goal.returns-then-a-b-clause-turned
returns-then-a-b-clause-turned c = λ this that stands.
    let one = c.args.one in
    let two = c.args.two in
    let is : c.push_reserved-2.new.self.items ≡ one ∷ two ∷ [] =
    c.push_reserved-2.ensures.items ∙ (ap (λ (hs : List Hand). hs ++ two ∷ []) (c.push_reserved.ensures.items ∙ ap (λ (hs : List Hand). hs ++ one ∷ []) c.requires.hands.0)) in
    let f = two_cells one.cell this that in
    let g = two_cells one.cell one.part two.part in
    c.turn.ensures.turned f g
    (two_making (holds_of c.args.t.now) c.push_reserved-2.new.self.items one two this that (one.cell ∷ two.cell ∷ []) is c.requires.other stands (λ k among. among))
    ∙ ap (λ (cells : List ℕ). turned (number_of c.args.t.now) c.turn.result c.args.e (touches_by f g cells) (seen_of c.args.t.now))
    (sym (order_low one.cell two.cell c.requires.other c.if-a-b.true))

pub returns-else-a-b-clause-turned : goal.returns-else-a-b-clause-turned
returns-else-a-b-clause-turned c = λ this that stands.
    let one = c.args.one in
    let two = c.args.two in
    let is : c.push_reserved-2.new.self.items ≡ one ∷ two ∷ [] =
    c.push_reserved-2.ensures.items ∙ (ap (λ (hs : List Hand). hs ++ two ∷ []) (c.push_reserved.ensures.items ∙ ap (λ (hs : List Hand). hs ++ one ∷ []) c.requires.hands.0)) in
    let f = two_cells one.cell this that in
    let g = two_cells one.cell one.part two.part in
    c.turn-else-a-b.ensures.turned f g
    (two_making (holds_of c.args.t.now) c.push_reserved-2.new.self.items one two this that (two.cell ∷ one.cell ∷ []) is c.requires.other stands
    (has_swapped one.cell two.cell))
    ∙ ap (λ (cells : List ℕ). turned (number_of c.args.t.now) c.turn-else-a-b.result c.args.e (touches_by f g cells) (seen_of c.args.t.now))
    (sym (order_high one.cell two.cell c.requires.other c.if-a-b.false))
