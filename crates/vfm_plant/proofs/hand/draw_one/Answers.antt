-- One cell is held.
use Rattle.std.proofs.Common.{◌≡◌, List, [], ◌∷◌, ◌++◌, ap, ◌∙◌}
use Rattle.vfm_turn.specs.Words.{holds_of}
use Rattle.vfm_plant.specs.declared.hand.Hand.{Hand}
use Rattle.vfm_plant.proofs.Turns.{one_making}
use Rattle.vfm_plant.proofs.hand.draw_one.Goals as goal

pub turn-requires-clause-making : goal.turn-requires-clause-making
turn-requires-clause-making c =
    let h = c.args.hand in
    let is : c.push_reserved.new.self.items ≡ h ∷ [] = c.push_reserved.ensures.items ∙ ap (λ (hs : List Hand). hs ++ h ∷ []) c.requires.hands.0 in
    let w = c.requires.held in
    ((λ k. w.0), (λ k. h.part), one_making (holds_of c.args.t.now) c.push_reserved.new.self.items h w.0 is w.1)

pub returns-clause-turned : goal.returns-clause-turned
returns-clause-turned c = λ before stands.
    let h = c.args.hand in
    let is : c.push_reserved.new.self.items ≡ h ∷ [] = c.push_reserved.ensures.items ∙ ap (λ (hs : List Hand). hs ++ h ∷ []) c.requires.hands.0 in
    c.turn.ensures.turned (λ k. before) (λ k. h.part) (one_making (holds_of c.args.t.now) c.push_reserved.new.self.items h before is stands)
