use Rattle.std.proofs.Common.{◌≡◌, ◌≤◌, vec_len, vec_capacity}
use Rattle.vfm_turn.specs.Order.{AreRooms}
use Rattle.vfm_turn.proofs.start.take_memory.Given as goal

abbrev pub invariant-loop-i : goal.invariant-loop-i
invariant-loop-i g l = record {
  count : vec_len l.orders ≡ l._i;
  room : l.seats ≤ vec_capacity l.orders;
  each : AreRooms l.cells l.orders.items;
}
