use Rattle.std.proofs.Common.{◌≡◌, replicate}
use Rattle.vfm_space.proofs.memory.Memory.of.Given as goal

abbrev pub invariant-loop : goal.invariant-loop
invariant-loop l = l.sheets.items ≡ replicate l.counter (replicate l.page 0)
