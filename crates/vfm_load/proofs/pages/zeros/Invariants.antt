use Rattle.std.proofs.Common.{◌≡◌, replicate}
use Rattle.vfm_load.proofs.pages.zeros.Given as goal

abbrev pub invariant-loop : goal.invariant-loop
invariant-loop l = l.list.items ≡ replicate l.counter (replicate l.page 0)
