-- The hands that are left are all that is held.
use Rattle.std.proofs.Common.{◌≡◌, true, map, vec_capacity}
use Rattle.vfm_turn.specs.Order.{are_once}
use Rattle.vfm_turn.specs.Words.{IsTicketOf, desc_of, number_of, seen_of}
use Rattle.vfm_plant.specs.Hands.{AreFitting, cells_held, rest_of, with_holds}
use Rattle.vfm_plant.proofs.hand.leave_all.Given as goal

abbrev pub invariant-loop-hand : goal.invariant-loop-hand
invariant-loop-hand l =
    IsTicketOf l.board l.t × (number_of l.t ≡ number_of l.initial.t)
    × (seen_of l.t ≡ with_holds (map rest_of l.hands.items) (seen_of l.initial.t))
    × (are_once (cells_held l.hands.items) ≡ true) × AreFitting (desc_of l.board) l.hands.items
    × (vec_capacity l.hands ≡ vec_capacity l.initial.hands)

abbrev pub decreases-loop-hand : goal.decreases-loop-hand
decreases-loop-hand l = goal.left-loop-hand l
