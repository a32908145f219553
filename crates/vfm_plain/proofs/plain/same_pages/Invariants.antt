use Rattle.std.proofs.Common.{◌≡◌, take}
use Rattle.vfm_plain.proofs.plain.same_pages.Given as goal

abbrev pub invariant-loop-p : goal.invariant-loop-p
invariant-loop-p l = take l.p l.one ≡ take l.p l.other
