-- The pages before this one are the same.
use Rattle.std.proofs.Common.{◌≡◌, take}
use Rattle.vfm_audit.proofs.same.has_pages.Given as goal

abbrev pub invariant-loop-p : goal.invariant-loop-p
invariant-loop-p l = take l.p l.machine.pages ≡ take l.p l.pages
