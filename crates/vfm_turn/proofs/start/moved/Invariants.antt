use Rattle.std.proofs.Common.{◌≡◌, ◌+◌, ◌≤◌, ◌++◌, map, reverse, Some, vec_len, vec_capacity}
use Rattle.vfm_turn.proofs.start.moved.Given as goal

abbrev pub invariant-loop-value : goal.invariant-loop-value
invariant-loop-value g l = record {
  all : map Some l.cells.items ++ reverse l.slots.items ≡ map Some l.initial.cells.items;
  room : vec_len l.cells + vec_len l.slots ≤ vec_capacity l.slots;
  kept : vec_capacity l.cells ≡ vec_capacity l.initial.cells;
}

abbrev pub decreases-loop-value : goal.decreases-loop-value
decreases-loop-value g l = vec_len l.cells
