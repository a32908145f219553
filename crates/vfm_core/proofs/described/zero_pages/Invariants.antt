-- The pages before this one are there.
use Rattle.std.proofs.Common.{◌≡◌, replicate}
use Rattle.vfm_core.proofs.described.zero_pages.Given as goal

abbrev pub invariant-loop-p : goal.invariant-loop-p
invariant-loop-p l = l.list.items ≡ replicate l._p (replicate l.page 0)
