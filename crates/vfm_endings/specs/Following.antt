-- Following the coordinator's order: each entry that it wants is made, until it wants none.
use Rattle.std.specs.Prelude.{◌≡◌, ℕ, ◌+◌, ◌≤◌, List, [], ◌∷◌, ◌++◌, length}
use Rattle.vfm_types.specs.declared.desc.Desc.{Desc}
use Rattle.vfm_types.specs.declared.entry.Entry.{Entry}
use Rattle.vfm_plain.specs.Legal.{IsLegal}
use Rattle.vfm_parts_laws.specs.EntriesLeft.{room_of_run}
use Rattle.vfm_quiet.specs.declared.want.Want.TheVariants.{Do, Done}
use Rattle.vfm_quiet.specs.Order.{next_want}
use Rattle.vfm_order.specs.LookAfter.{look_after}

-- these entries, newest first, are those that the order wanted after a list, one after another
abbrev pub Follows : Desc → List Entry → ℕ → List Entry → Type 0
Follows D past abort_after [] = Unit {0}
Follows D past abort_after (entry ∷ made) =
    (next_want D (look_after D (made ++ past)) abort_after ≡ Do entry) × Follows D past abort_after made

-- the order comes to its end: with these entries made all is done, within the room of a run
pub record ComesToEnd (D : Desc) (past : List Entry) (abort_after : ℕ) : Type 0 where
  pub made : List Entry
  pub follows : Follows D past abort_after made
  pub legal : IsLegal D (made ++ past)
  pub done : next_want D (look_after D (made ++ past)) abort_after ≡ Done
  pub few : length made + length past ≤ room_of_run D
