-- One run of the whole board: one list of entries, newest first, each a step on the states of all cells.
use Rattle.std.specs.Prelude.{◌≡◌, ◌≤◌, List, [], ◌∷◌, length, slice_get, slice_set, Some, All}
use Rattle.vfm_types.specs.declared.entry.Entry.{Entry}
use Rattle.vfm_turn.specs.declared.seen.Touch.{Touch}
use Rattle.vfm_turn.specs.declared.seen.Drawn.{Drawn}
use Rattle.vfm_turn.specs.declared.seen.Note.{Note}
use Rattle.vfm_turn.specs.Log.{earlier}
use Rattle.vfm_turn.specs.History.{Closing, IsHistory, IsLogOf}

module _ {Z : Type 0} where
  -- the cells stand in the states before
  abbrev pub Finds : List Z → List (Touch Z) → Type 0
  Finds zs [] = Unit {0}
  Finds zs (t ∷ ts) = (slice_get zs t.cell ≡ Some t.before) × Finds zs ts

  -- the states of all cells after an entry that touches these
  abbrev pub after_all : List (Touch Z) → List Z → List Z
  after_all [] zs = zs
  after_all (t ∷ ts) zs = slice_set (after_all ts zs) t.cell t.after

  -- the entries of the log, in the order of their stamps, lead from the started states to these, each allowed and made on what it finds
  abbrev pub IsRun : (Entry → List (Touch Z) → Type 0) → List Z → List (Drawn Z) → List Z → Type 0
  IsRun allows started [] zs = zs ≡ started
  IsRun allows started (r ∷ log) zs = (ys : List Z) × IsRun allows started log ys × (r.stamp ≡ length log) × allows r.entry r.touches × Finds ys r.touches × (zs ≡ after_all r.touches ys)

  -- each record of each ticket is allowed
  abbrev pub AreAllowed : (Entry → List (Touch Z) → Type 0) → Closing Z → Type 0
  AreAllowed allows closing = All (λ p. All (λ r. allows r.entry r.touches) p.records) closing.told

  -- each noted state is that of the cell
  abbrev pub Shows : List Z → Note Z → Type 0
  Shows zs note = All (λ s. slice_get zs s.cell ≡ Some s.state) note.stands

  -- the whole history is one run from the started states to those that came back
  abbrev pub IsOneRun : (Entry → List (Touch Z) → Type 0) → Closing Z → Type 0
  IsOneRun allows closing = (log : List (Drawn Z)) × IsLogOf closing log × IsRun allows closing.started log closing.ended

  -- so is what was drawn up to each note, and it leads to the noted states
  abbrev pub IsRunToNotes : (Entry → List (Touch Z) → Type 0) → Closing Z → List (Drawn Z) → Type 0
  IsRunToNotes allows closing log = All (λ p. All (λ note. (note.answer ≤ length log) × ((zs : List Z) × IsRun allows closing.started (earlier note.answer log) zs × Shows zs note)) p.notes) closing.told

  -- of each closed board whose records are allowed, the history is one run
  abbrev pub HistoriesRun : (Entry → List (Touch Z) → Type 0) → Type 0
  HistoriesRun allows = (closing : Closing Z) → IsHistory closing → AreAllowed allows closing → IsOneRun allows closing

  -- and so is what was drawn up to each note
  abbrev pub NotesRun : (Entry → List (Touch Z) → Type 0) → Type 0
  NotesRun allows = (closing : Closing Z) (log : List (Drawn Z)) → IsLogOf closing log → AreAllowed allows closing → IsRunToNotes allows closing log
