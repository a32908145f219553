-- What a closed plant gives back.
use Rattle.std.specs.Prelude.{◌≡◌, ℕ, ◌+◌, ◌==◌, if◌then◌else◌, List, [], ◌∷◌, ◌++◌, map, reverse, slice_get, Option, Some, None, Vec}
use Rattle.std.specs.Global.{Global}
use Rattle.vfm_types.specs.declared.entry.Entry.{Entry}
use Rattle.vfm_turn.specs.declared.seen.Drawn.{Drawn}
use Rattle.vfm_cells.specs.Cells.{Cell}
use Rattle.vfm_cells.specs.WholeRun.{entries_of}
use Rattle.vfm_core.specs.CoreState.{CoreState}
use Rattle.vfm_plant_laws.specs.OneRun.{IsRunOf, world_then}
use Rattle.vfm_plant.specs.declared.plant.Plant.{Plant}
use Rattle.vfm_plant.specs.declared.seat.Made.{Made}
use Rattle.vfm_plant.specs.declared.seat.PlantSeat.{PlantSeat}
use Rattle.vfm_plant.specs.Started.{started_core}
use Rattle.vfm_plant.specs.Seat.{told_of}

-- The core is the started one after one list of entries, each Ok in its turn, and these are the ones that the seats made.
pub record IsClosed (plant : Plant) (seats : List PlantSeat) (core : CoreState) : Type 0 where
  pub log : List (Drawn Cell)
  pub run : IsRunOf plant.desc (started_core plant).world (map told_of seats) log
  pub core_is : core ≡ record (started_core plant) {
    entries = (started_core plant).entries ++ reverse (entries_of log);
    world = world_then plant.desc (started_core plant).world log;
  }

-- the first of these, if there is one, and else the other
abbrev pub first_of : Option Entry → Option Entry → Option Entry
first_of None other = other
first_of (Some entry) other = Some entry

-- the entry at a place, among those of one seat, and of all
abbrev pub find_in : ℕ → List Made → Option Entry
find_in place [] = None
find_in place (m ∷ made) = if m.place == place then Some m.entry else find_in place made

abbrev pub find_at : ℕ → List (List Made) → Option Entry
find_at place [] = None
find_at place (made ∷ lists) = first_of (find_in place made) (find_at place lists)

abbrev pub items_of : Vec Made Global → List Made
items_of list = list.items

-- the lists have these entries, each at its place from this one on, and no others from there on
abbrev pub AreAtPlaces : ℕ → List (List Made) → List Entry → Type 0
AreAtPlaces base lists entries = (k : ℕ) → find_at (base + k) lists ≡ slice_get entries k
