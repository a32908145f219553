-- The last hand is left, and those before it are what is held.
use Rattle.std.proofs.Common.{List, map, ap, ◌∙◌}
use Rattle.vfm_turn.specs.Seen.{Hold, Seen}
use Rattle.vfm_turn.specs.Words.{desc_of, holds_of, seen_of}
use Rattle.vfm_turn.proofs.Closes.{all_parts}
use Rattle.vfm_cells.specs.Cells.{Cell}
use Rattle.vfm_cells.specs.CellFits.{CellFits}
use Rattle.vfm_plant.specs.declared.hand.Hand.{Hand}
use Rattle.vfm_plant.specs.Hands.{rest_of, with_holds}
use Rattle.vfm_plant.proofs.Holds.{last_hand}
use Rattle.vfm_plant.proofs.hand.leave_all.Goals as goal

pub leave-requires-clause-held : goal.leave-requires-clause-held
leave-requires-clause-held c =
    let i = c.loop-hand.invariant in
    (last_hand (holds_of c.loop-hand.t) c.loop-hand.hands.items c.pop.new.self.items c.in-Some.hand c.in-Some.ensures.items (ap (λ (s : Seen Cell). s.holds) i.2) i.3).held

pub leave-requires-clause-settled : goal.leave-requires-clause-settled
leave-requires-clause-settled c =
    let i = c.loop-hand.invariant in
    (last_hand (holds_of c.loop-hand.t) c.loop-hand.hands.items c.pop.new.self.items c.in-Some.hand c.in-Some.ensures.items (ap (λ (s : Seen Cell). s.holds) i.2) i.3).settled

pub loop-hand-preserved : goal.loop-hand-preserved
loop-hand-preserved c =
    let i = c.loop-hand.invariant in
    let rest = c.pop.new.self.items in
    let last = last_hand (holds_of c.loop-hand.t) c.loop-hand.hands.items rest c.in-Some.hand c.in-Some.ensures.items (ap (λ (s : Seen Cell). s.holds) i.2) i.3 in (
      c.leave.ensures.ticket.0,
      c.leave.ensures.ticket.1 ∙ i.1,
      c.leave.ensures.seen
          ∙ (ap (λ (hs : List (Hold Cell)). with_holds hs (seen_of c.loop-hand.t)) last.without ∙ ap (with_holds (map rest_of rest)) i.2),
      last.once,
      (all_parts (λ (h : Hand). CellFits (desc_of c.args.board.now) h.cell h.part) rest c.loop-hand.hands.items c.in-Some.hand c.in-Some.ensures.items i.4).0,
      c.in-Some.ensures.capacity ∙ i.5,
    )
