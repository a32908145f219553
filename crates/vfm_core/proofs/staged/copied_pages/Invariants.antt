-- The pages before this one are there.
use Rattle.std.proofs.Common.{◌≡◌, take}
use Rattle.vfm_core.proofs.staged.copied_pages.Given as goal

abbrev pub invariant-loop-p : goal.invariant-loop-p
invariant-loop-p l = l.list.items ≡ take l.p l.sheets
