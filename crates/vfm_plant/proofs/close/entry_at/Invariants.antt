-- It isn't in the lists before this one.
use Rattle.std.proofs.Common.{◌≡◌, drop, map}
use Rattle.vfm_plant.specs.Closed.{find_at, items_of}
use Rattle.vfm_plant.proofs.close.entry_at.Given as goal

abbrev pub invariant-loop-list : goal.invariant-loop-list
invariant-loop-list l = find_at l.place (map items_of (drop l.list-index l.lists.items)) ≡ find_at l.place (map items_of l.lists.items)
