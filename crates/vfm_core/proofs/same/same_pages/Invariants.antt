-- The pages before this one are the same.
use Rattle.std.proofs.Common.{◌≡◌, take}
use Rattle.vfm_core.proofs.same.same_pages.Given as goal

abbrev pub invariant-loop-p : goal.invariant-loop-p
invariant-loop-p l = take l.p l.one ≡ take l.p l.other
