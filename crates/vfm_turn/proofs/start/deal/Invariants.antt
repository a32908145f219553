use Rattle.std.proofs.Common.{◌≡◌, ◌+◌, ◌≤◌, map, [], All, vec_len, vec_capacity}
use Rattle.std.specs.List.{range_with_len}
use Rattle.vfm_turn.specs.Order.{AreRooms}
use Rattle.vfm_turn.specs.Rule.{fresh_view}
use Rattle.vfm_turn.specs.Seen.{nothing_seen}
use Rattle.vfm_turn.specs.Words.{IsSeatOf, number_of, seen_of}
use Rattle.vfm_turn.proofs.start.deal.Given as goal

abbrev pub invariant-loop-number : goal.invariant-loop-number
invariant-loop-number g l = record {
  table : l.seat.table_id ≡ l.top.table_id;
  fresh : l.seat.me ≡ (fresh_view l.number l.top.key.seats l.top.key.desc, []);
  orders : vec_len l.orders + l.number ≡ l.top.key.seats;
  tickets : vec_len l.tickets ≡ l.number;
  reach : l.top.key.seats ≤ vec_capacity l.tickets;
  rooms : AreRooms l.top.table_id.slots l.orders.items;
  empty : l.room.items ≡ [];
  room : l.number ≡ 0 → l.top.table_id.slots ≤ vec_capacity l.room;
  numbers : map number_of l.tickets.items ≡ range_with_len 0 l.number;
  new : All (λ t. IsSeatOf l.top t × (seen_of t ≡ nothing_seen)) l.tickets.items;
}
