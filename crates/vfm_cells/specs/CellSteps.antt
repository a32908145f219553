-- A step on the cells that its entry touches: from what lies in them before to what lies in them after.
use Rattle.std.specs.Prelude.{◌≡◌, ℕ, ◌<◌, ◌==◌, ◌&&◌, Bool, true, false, is_none, if◌then◌else◌, List, [], ◌∷◌, map, Option, Some, None, IsTrue}
use Rattle.vfm_types.specs.declared.desc.Desc.{Desc}
use Rattle.vfm_types.specs.declared.entry.Entry.{Entry}
use Rattle.vfm_plain.specs.Legal.{is_entry_of}
use Rattle.vfm_parts.specs.Parts.{World, Parts, parts_in}
use Rattle.vfm_parts.specs.Steps.{fault_in, parts_after, fault_on, after_on}
use Rattle.vfm_cells.specs.Cells.{Cell, page_cell, cell_in, cell_at, parts_of_cells, cell_count}
use Rattle.vfm_cells.specs.Touched.{touched, is_aimed}
use Rattle.vfm_turn.specs.Order.{has}

-- the cells given one by one, by their numbers; another cell is a page without bytes
abbrev pub given_at : List ℕ → List Cell → ℕ → Cell
given_at [] befores c = page_cell []
given_at (k ∷ cells) [] c = page_cell []
given_at (k ∷ cells) (x ∷ befores) c = if k == c then x else given_at cells befores c

-- the parts in the given cells
abbrev pub given_parts : Desc → List ℕ → List Cell → Parts
given_parts D cells befores = parts_of_cells D (given_at cells befores)

-- two lists of numbers are the same
abbrev pub is_same_list : List ℕ → List ℕ → Bool
is_same_list [] [] = true
is_same_list [] (k ∷ others) = false
is_same_list (c ∷ cells) [] = false
is_same_list (c ∷ cells) (k ∷ others) = c == k && is_same_list cells others

-- these are the cells that the entry touches, and by the parts in them it breaks no rule
abbrev pub may_step : Desc → Parts → Entry → List ℕ → Bool
may_step D parts entry cells =
    is_entry_of D entry && is_aimed D parts entry && is_same_list cells (touched D parts entry) && is_none (fault_in D parts entry)

-- What an entry makes of the cells that it touches, given in rising order with what lies in them; nothing where it
-- breaks a rule or touches other cells.
abbrev pub step_of : Desc → Entry → List ℕ → List Cell → Option (List Cell)
step_of D entry cells befores =
    let parts = given_parts D cells befores in
    if may_step D parts entry cells then Some (map (cell_in D (parts_after D parts entry)) cells) else None

-- A step on some cells of a world is a step of the whole world: the entry breaks no rule there, the world after it has
-- in these cells what the step made, and in each other cell what it had.
pub record IsStepOf (D : Desc) (w : World) (entry : Entry) (cells : List ℕ) (afters : List Cell) : Type 0 where
  pub named : IsTrue (is_entry_of D entry)
  pub allowed : fault_on D w entry ≡ None
  pub touched : cells ≡ touched D (parts_in w) entry
  pub made : afters ≡ map (cell_at D (after_on D w entry)) cells
  pub kept : (c : ℕ) → c < cell_count D → has c cells ≡ false → cell_at D (after_on D w entry) c ≡ cell_at D w c
