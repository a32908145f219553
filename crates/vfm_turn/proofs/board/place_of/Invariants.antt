use Rattle.std.proofs.Common.{◌≡◌, true, ◌+◌, map, drop}
use Rattle.vfm_turn.specs.Order.{has, held_cell}
use Rattle.vfm_turn.specs.Place.{place_in}
use Rattle.vfm_turn.proofs.board.place_of.Given as goal

abbrev pub invariant-loop-i : goal.invariant-loop-i
invariant-loop-i g l = (has l.cell (map held_cell (drop l.i l.order.items)) ≡ true) × (place_in l.cell (map held_cell (drop l.i l.order.items)) + l.i ≡ place_in l.cell (map held_cell l.order.items))
