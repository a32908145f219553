-- What the links of a move tell, by the words of their type.
use Rattle.std.specs.Prelude.{◌≡◌, ℕ, Bool, List, Option, map}
use Rattle.vfm_outside.specs.Carried.{ends_told, told_by}
use Rattle.vfm_outside.specs.Links.{Told, ToldEnds}
use Rattle.vfm_outside.specs.declared.wires.Ends.{Ends}
use Rattle.vfm_move.specs.Contact.{Line, told_line}

-- the links of the two ends
abbrev pub tells : {L : Type 0} → (L → Bool) → (L → ℕ) → (L → ℕ) → (L → Option (List ℕ)) → (L → Option (List ℕ))
    → Ends L → ToldEnds
tells ended failed_out failed_in sent received ends = ends_told (told_by ended failed_out failed_in sent received) ends

-- these links tell their bytes, and carried this
abbrev pub AreLines : List Told → List Line → Type 0
AreLines links lines = links ≡ map told_line lines
