-- A board over the cells of a machine, once it is closed, as one run of the whole machine.
use Rattle.std.specs.Prelude.{◌≡◌, ℕ, ◌<◌, ◌≤◌, true, List, [], ◌∷◌, length, map, slice_get, Some, All}
use Rattle.vfm_types.specs.declared.desc.Desc.{Desc}
use Rattle.vfm_parts.specs.Parts.{World}
use Rattle.vfm_turn.specs.declared.seen.Stand.{Stand}
use Rattle.vfm_turn.specs.declared.seen.Touch.{Touch}
use Rattle.vfm_turn.specs.declared.seen.Drawn.{Drawn}
use Rattle.vfm_turn.specs.declared.seen.Note.{Note}
use Rattle.vfm_turn.specs.declared.seen.Past.{Past}
use Rattle.vfm_turn.specs.Log.{Each, drawn_by, earlier}
use Rattle.vfm_turn.specs.Order.{has}
use Rattle.vfm_turn.specs.History.{past_number}
use Rattle.vfm_cells.specs.Cells.{Cell, cell_at, cell_count}
use Rattle.vfm_cells.specs.WholeRun.{AreSteps, IsRunFrom, entries_of, touch_before, touch_cell, world_after}

-- these states lie in their cells of the world
abbrev pub AreIn : Desc → World → List (Stand Cell) → Type 0
AreIn D w stands = Each (λ s. (s.cell < cell_count D) × (s.state ≡ cell_at D w s.cell)) stands

-- what a record found in the cells that it touches lies there in the world
abbrev pub IsFoundIn : Desc → World → List (Touch Cell) → Type 0
IsFoundIn D w touches = map touch_before touches ≡ map (cell_at D w) (map touch_cell touches)

-- the world after the entries of a log, newest first
abbrev pub world_then : Desc → World → List (Drawn Cell) → World
world_then D w log = world_after D w (entries_of log)

-- the stamps count from 0, and each entry found in its cells what the world had there after those before it
abbrev pub AreFound : Desc → World → List (Drawn Cell) → Type 0
AreFound D w [] = Unit {0}
AreFound D w (r ∷ log) = (r.stamp ≡ length log) × IsFoundIn D (world_then D w log) r.touches × AreFound D w log

-- what was noted of some cells stood in them after as many entries as the note says
abbrev pub IsTrueNote : Desc → World → List (Drawn Cell) → Note Cell → Type 0
IsTrueNote D w log note = (note.answer ≤ length log) × AreIn D (world_then D w (earlier note.answer log)) note.stands

-- A log, newest first, is one run of the machine from this world on, and the whole of what some seats drew.
-- Each entry breaks no rule in its turn; its stamp is its place, counted from 0; it found in its cells what the machine had
-- there before its place. Each seat's entries stand in it in the seat's order, each once, and there are no others. What a
-- seat noted was so after as many entries as the note says.
pub record IsRunOf (D : Desc) (w : World) (told : List (Past Cell)) (log : List (Drawn Cell)) : Type 0 where
  pub run : IsRunFrom D w (entries_of log)
  pub found : AreFound D w log
  pub seats : All (λ p. p.records ≡ drawn_by p.number log) told
  pub no_others : All (λ r. has r.by (map past_number told) ≡ true) log
  pub notes : All (λ p. Each (IsTrueNote D w log) p.notes) told

-- the states of all cells, in the order of their numbers, are those of the world
pub record AreCellsOf (D : Desc) (w : World) (cells : List Cell) : Type 0 where
  pub count : length cells ≡ cell_count D
  pub each : (c : ℕ) (cell : Cell) → slice_get cells c ≡ Some cell → cell ≡ cell_at D w c

-- the records of each seat are steps on the cells that they touch
abbrev pub AreAllSteps : Desc → List (Past Cell) → Type 0
AreAllSteps D told = All (λ p. AreSteps D p.records) told
