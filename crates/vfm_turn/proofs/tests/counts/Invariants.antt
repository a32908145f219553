use Rattle.std.proofs.Common.{◌≡◌, length}
use Rattle.vfm_turn.proofs.tests.counts.Given as goal

abbrev pub invariant-loop-c : goal.invariant-loop-c
invariant-loop-c l = length l.list.items ≡ l.c
