-- The items before this one are copied.
use Rattle.std.proofs.Common.{◌≡◌, take}
use Rattle.vfm_base.proofs.lists.duplicates.Given as goal

abbrev pub invariant-loop-item : goal.invariant-loop-item
invariant-loop-item g l = l.copy.items ≡ take l.item-index l.items
