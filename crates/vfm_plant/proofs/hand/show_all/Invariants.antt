-- The hands before this one are shown.
use Rattle.std.proofs.Common.{◌≡◌, ℕ, take}
use Rattle.vfm_turn.specs.Words.{IsTicketOf, holds_of, number_of, seen_of}
use Rattle.vfm_cells.specs.Cells.{Cell}
use Rattle.vfm_plant.specs.Hands.{cells_held, held, with_holds}
use Rattle.vfm_plant.proofs.Holds.{puts}
use Rattle.vfm_plant.proofs.hand.show_all.Given as goal

abbrev pub invariant-loop-hand : goal.invariant-loop-hand
invariant-loop-hand l =
    IsTicketOf l.board l.t × (number_of l.t ≡ number_of l.initial.t)
    × ((before : ℕ → Cell) → holds_of l.initial.t ≡ held before before (cells_held l.hands.items)
    → seen_of l.t ≡ with_holds (held before (puts (take l.hand-index l.hands.items) before) (cells_held l.hands.items)) (seen_of l.initial.t))
