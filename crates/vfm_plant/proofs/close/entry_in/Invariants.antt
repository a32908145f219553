-- It isn't among those before this one.
use Rattle.std.proofs.Common.{◌≡◌, drop}
use Rattle.vfm_plant.specs.Closed.{find_in}
use Rattle.vfm_plant.proofs.close.entry_in.Given as goal

abbrev pub invariant-loop-made : goal.invariant-loop-made
invariant-loop-made l = find_in l.place (drop l.made-index l.list.items) ≡ find_in l.place l.list.items
