use Rattle.std.proofs.Common.{◌≡◌, length}
use Rattle.vfm_turn_bench.proofs.round.zeros.Given as goal

abbrev pub invariant-loop-cell : goal.invariant-loop-cell
invariant-loop-cell l = length l.list.items ≡ l._cell
