use Rattle.std.proofs.Common.{◌≡◌, ◌≤◌, ◌++◌, true, false, [], ◌∷◌, map, All, vec_capacity}
use Rattle.vfm_turn.specs.Order.{has}
use Rattle.vfm_turn.specs.Steps.{past_of}
use Rattle.vfm_turn.specs.Words.{IsSeatOf, number_of, holds_of, past_told}
use Rattle.vfm_turn.proofs.close.gather.Given as goal

abbrev pub invariant-loop-ticket : goal.invariant-loop-ticket
invariant-loop-ticket g l = record {
  table : l.seat.table_id ≡ l.top.table_id;
  live : l.seat.me.0.live ≡ true;
  holds : l.seat.me.0.holds ≡ [];
  told : map past_told l.tickets.items ++ (l.seat.me.0.pasts ++ past_of l.seat.me.0 ∷ []) ≡ map past_told l.fn.tickets.items;
  tickets : All (λ t. IsSeatOf l.top t × (holds_of t ≡ [])) l.tickets.items;
  empty : l.room.items ≡ [];
  room : has 0 (map number_of l.tickets.items) ≡ false → l.top.table_id.slots ≤ vec_capacity l.room;
}

abbrev pub decreases-loop-ticket : goal.decreases-loop-ticket
decreases-loop-ticket g l = goal.left-loop-ticket g l
