use Rattle.std.proofs.Common.{◌≡◌, ◌+◌, ◌≤◌, ◌++◌, reverse, vec_len, vec_capacity}
use Rattle.vfm_turn.specs.Order.{AreAllHome, values_in}
use Rattle.vfm_turn.proofs.start.moved_back.Given as goal

abbrev pub invariant-loop-slot : goal.invariant-loop-slot
invariant-loop-slot g l = record {
  all : values_in l.slots.items ++ reverse l.cells.items ≡ values_in l.fn.slots.items;
  home : AreAllHome l.slots.items;
  room : vec_len l.slots + vec_len l.cells ≤ vec_capacity l.cells;
}

abbrev pub decreases-loop-slot : goal.decreases-loop-slot
decreases-loop-slot g l = vec_len l.slots
