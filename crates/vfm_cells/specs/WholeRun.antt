-- A log of steps that are each made on some cells, and the run of the whole world that it is.
use Rattle.std.specs.Prelude.{◌≡◌, ℕ, ◌<◌, List, [], ◌∷◌, map, Some, None, IsTrue}
use Rattle.vfm_types.specs.declared.desc.Desc.{Desc}
use Rattle.vfm_types.specs.declared.entry.Entry.{Entry}
use Rattle.vfm_plain.specs.Legal.{is_entry_of}
use Rattle.vfm_parts.specs.Parts.{World}
use Rattle.vfm_parts.specs.Steps.{fault_on, after_on}
use Rattle.vfm_turn.specs.declared.seen.Touch.{Touch}
use Rattle.vfm_turn.specs.declared.seen.Drawn.{Drawn}
use Rattle.vfm_turn.specs.Log.{Each, state_after}
use Rattle.vfm_cells.specs.Cells.{Cell, cell_at, cell_count, IsWhole}
use Rattle.vfm_cells.specs.CellSteps.{step_of}

-- a touched cell's number, and what lay in it before and after
abbrev pub touch_cell : Touch Cell → ℕ
touch_cell t = t.cell

abbrev pub touch_before : Touch Cell → Cell
touch_before t = t.before

abbrev pub touch_after : Touch Cell → Cell
touch_after t = t.after

-- an entry with the cells that it touches is a step of theirs
abbrev pub IsStep : Desc → Entry → List (Touch Cell) → Type 0
IsStep D entry touches = step_of D entry (map touch_cell touches) (map touch_before touches) ≡ Some (map touch_after touches)

-- each record of a log is a step on the cells that it touches
abbrev pub AreSteps : Desc → List (Drawn Cell) → Type 0
AreSteps D log = Each (λ r. IsStep D r.entry r.touches) log

-- the entries of a log, newest first
abbrev pub entry_of : Drawn Cell → Entry
entry_of r = r.entry

abbrev pub entries_of : List (Drawn Cell) → List Entry
entries_of log = map entry_of log

-- the world after these entries, newest first
abbrev pub world_after : Desc → World → List Entry → World
world_after D w [] = w
world_after D w (entry ∷ past) = after_on D (world_after D w past) entry

-- from this world on no entry breaks a rule
abbrev pub IsRunFrom : Desc → World → List Entry → Type 0
IsRunFrom D w [] = Unit {0}
IsRunFrom D w (entry ∷ past) = IsTrue (is_entry_of D entry) × (fault_on D (world_after D w past) entry ≡ None) × IsRunFrom D w past

-- The entries of a log are a run of the whole world, which has after it in each cell what the log says.
pub record IsWholeRun (D : Desc) (w : World) (log : List (Drawn Cell)) : Type 0 where
  pub run : IsRunFrom D w (entries_of log)
  pub cells : (c : ℕ) → c < cell_count D → cell_at D (world_after D w (entries_of log)) c ≡ state_after c (cell_at D w c) log
  pub whole : IsWhole D (world_after D w (entries_of log))
