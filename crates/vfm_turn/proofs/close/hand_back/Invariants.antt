use Rattle.std.proofs.Common.{◌≡◌, ℕ, ◌<◌, ◌≤◌, false, take, get_or, vec_capacity}
use Rattle.std.specs.Slots.{slots_items, slots_filled, slots_len}
use Rattle.std.specs.Slots.Ownership.{Filled}
use Rattle.vfm_turn.specs.Order.{values_in}
use Rattle.vfm_turn.proofs.close.hand_back.Given as goal

abbrev pub invariant-loop-i : goal.invariant-loop-i
invariant-loop-i g l = record {
  items : slots_items l.closed.slots ≡ slots_items l.fn.closed.slots;
  count : slots_len l.closed.slots ≡ l.i-end;
  filled : Filled (slots_filled l.closed.slots) l.i (slots_len l.closed.slots);
  taken : (k : ℕ) → k < l.i → get_or (slots_filled l.closed.slots) k false ≡ false;
  room : l.room.items ≡ take l.i (values_in (slots_items l.fn.closed.slots));
  reach : slots_len l.closed.slots ≤ vec_capacity l.room;
}
