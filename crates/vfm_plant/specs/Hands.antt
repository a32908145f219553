-- What a seat holds while it makes a step: cells, each with the part that lies in it.
use Rattle.std.specs.Prelude.{◌≡◌, ℕ, true, false, List, [], ◌∷◌, map, All}
use Rattle.vfm_types.specs.declared.desc.Desc.{Desc}
use Rattle.vfm_types.specs.declared.entry.Entry.{Entry}
use Rattle.vfm_turn.specs.declared.seen.Touch.{Touch}
use Rattle.vfm_turn.specs.Log.{Each}
use Rattle.vfm_turn.specs.Order.{has, are_once}
use Rattle.vfm_turn.specs.Seen.{Hold, Seen, hold, touch, drawn, note, settled_of}
use Rattle.vfm_cells.specs.Cells.{Cell}
use Rattle.vfm_cells.specs.CellFits.{CellFits}
use Rattle.vfm_plant.specs.declared.hand.Hand.{Hand}

abbrev pub hand_cell : Hand → ℕ
hand_cell h = h.cell

-- the numbers of the held cells
abbrev pub cells_held : List Hand → List ℕ
cells_held hands = map hand_cell hands

-- cells that were this before the step, and are shown to be that
abbrev pub held : (ℕ → Cell) → (ℕ → Cell) → List ℕ → List (Hold Cell)
held before after cells = map (λ c. hold c (before c) (after c)) cells

-- what lies in each held cell is what this says
abbrev pub AreParts : (ℕ → Cell) → List Hand → Type 0
AreParts at hands = Each (λ h. at h.cell ≡ h.part) hands

-- each part fits its cell
abbrev pub AreFitting : Desc → List Hand → Type 0
AreFitting D hands = All (λ h. CellFits D h.cell h.part) hands

-- the cells of a step, with what lay in them before it and what lies in them after it
abbrev pub touches_by : (ℕ → Cell) → (ℕ → Cell) → List ℕ → List (Touch Cell)
touches_by before after cells = map (λ c. touch c (before c) (after c)) cells

-- these cells are among those
abbrev pub AreAmong : List ℕ → List ℕ → Type 0
AreAmong cells others = Each (λ c. has c others ≡ true) cells

-- A step on some of the held cells: what lay in each held cell before, which the board has; what lies there after, which the
-- hands have; and a cell that isn't the step's has what it had.
pub record IsMaking (holds : List (Hold Cell)) (hands : List Hand) (cells : List ℕ) (before after : ℕ → Cell) : Type 0 where
  pub holds_are : holds ≡ held before before (cells_held hands)
  pub parts : AreParts after hands
  pub kept : (c : ℕ) → has c (cells_held hands) ≡ true → has c cells ≡ false → after c ≡ before c

-- what a seat knows once it drew an entry and left every cell
abbrev pub turned : ℕ → ℕ → Entry → List (Touch Cell) → Seen Cell → Seen Cell
turned by stamp entry touches seen = record seen { holds = []; records = drawn by stamp entry touches ∷ seen.records }

-- once it left every cell
abbrev pub at_rest : Seen Cell → Seen Cell
at_rest seen = record seen { holds = [] }

-- once it noted how many stamps are drawn, with these cells, and left them
abbrev pub looked : ℕ → List (Hold Cell) → Seen Cell → Seen Cell
looked answer holds seen = record seen { holds = []; notes = note answer (map settled_of holds) ∷ seen.notes }

-- once it holds these cells
abbrev pub with_holds : List (Hold Cell) → Seen Cell → Seen Cell
with_holds holds seen = record seen { holds = holds }

-- a held cell, and each hand, as it is before a step: what the board has of it is its part
abbrev pub rest_of : Hand → Hold Cell
rest_of h = hold h.cell h.part h.part

-- what the ticket holds is what the hands hold, each cell once, and each part fits its cell
pub record IsHolding (D : Desc) (holds : List (Hold Cell)) (hands : List Hand) : Type 0 where
  pub holds_are : holds ≡ map rest_of hands
  pub once : are_once (cells_held hands) ≡ true
  pub fits : AreFitting D hands
