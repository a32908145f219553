-- What a seat knows of the board, as its owner sees it, and what each call makes of it.
use Rattle.std.specs.Prelude.{◌≡◌, ℕ, ◌==◌, if◌then◌else◌, Bool, true, false, ◌||◌, ◌&&◌, nat_lt, List, [], ◌∷◌, ◌++◌, map}
use Rattle.vfm_types.specs.declared.entry.Entry.{Entry}
use Rattle.vfm_turn.specs.declared.seen.Busy.{Busy}
use Rattle.vfm_turn.specs.declared.seen.Stand.{Stand}
use Rattle.vfm_turn.specs.declared.seen.Touch.{Touch}
use Rattle.vfm_turn.specs.declared.seen.Drawn.{Drawn}
use Rattle.vfm_turn.specs.declared.seen.Note.{Note}

-- A held cell: its settled state, which is that after the last entry that touches it, and its shown one, which the holder says that its value has
pub record Hold (Z : Type 0) : Type 0 where
  pub cell : ℕ
  pub settled : Z
  pub shown : Z

-- What a seat knows: the cells that it holds, in the order in which it entered them, and, newest first, its records, notes and meetings
pub record Seen (Z : Type 0) : Type 0 where
  pub holds : List (Hold Z)
  pub records : List (Drawn Z)
  pub notes : List (Note Z)
  pub meetings : List Busy

-- whether each number is above the one before it
abbrev pub are_rising : List ℕ → Bool
are_rising [] = true
are_rising (c ∷ cs) = (elim cs as (λ (x : List ℕ). Bool) [ [] ↦ true | d ∷ ds ↦ nat_lt c d ]) && are_rising cs

module _ {Z : Type 0} where
  abbrev pub stand : ℕ → Z → Stand Z
  stand c z = record { cell = c; state = z }

  abbrev pub touch : ℕ → Z → Z → Touch Z
  touch c before after = record { cell = c; before = before; after = after }

  -- the record of an entry that a seat drew at a stamp
  abbrev pub drawn : ℕ → ℕ → Entry → List (Touch Z) → Drawn Z
  drawn by stamp entry touches = record { by = by; stamp = stamp; entry = entry; touches = touches }

  abbrev pub note : ℕ → List (Stand Z) → Note Z
  note answer stands = record { answer = answer; stands = stands }

  -- a held cell with both its states
  abbrev pub hold : ℕ → Z → Z → Hold Z
  hold c settled shown = record { cell = c; settled = settled; shown = shown }

  -- a new seat knows nothing
  abbrev pub nothing_seen : Seen Z
  nothing_seen = record { holds = []; records = []; notes = []; meetings = [] }

  -- whether a cell is among the held ones
  abbrev pub is_held : ℕ → List (Hold Z) → Bool
  is_held c [] = false
  is_held c (h ∷ hs) = (h.cell == c) || is_held c hs

  -- whether each of these cells is held
  abbrev pub are_held : List ℕ → List (Hold Z) → Bool
  are_held [] hs = true
  are_held (c ∷ cs) hs = is_held c hs && are_held cs hs

  -- the settled state of a held cell is this one, at each place where the cell stands
  abbrev pub IsSettled : ℕ → Z → List (Hold Z) → Type 0
  IsSettled c z [] = Unit {0}
  IsSettled c z (h ∷ hs) = (h.cell ≡ c → h.settled ≡ z) × IsSettled c z hs

  -- the held cells once this one is shown in a state
  abbrev pub show_in : ℕ → Z → List (Hold Z) → List (Hold Z)
  show_in c z [] = []
  show_in c z (h ∷ hs) = (if h.cell == c then hold c h.settled z else h) ∷ show_in c z hs

  -- the held cells but this one
  abbrev pub without : ℕ → List (Hold Z) → List (Hold Z)
  without c [] = []
  without c (h ∷ hs) = if h.cell == c then without c hs else h ∷ without c hs

  -- this cell's settled and shown states, as an entry's state before and after
  abbrev pub touch_in : ℕ → List (Hold Z) → List (Touch Z)
  touch_in c [] = []
  touch_in c (h ∷ hs) = if h.cell == c then touch c h.settled h.shown ∷ [] else touch_in c hs

  -- the same of each of these cells
  abbrev pub touches_in : List ℕ → List (Hold Z) → List (Touch Z)
  touches_in [] hs = []
  touches_in (c ∷ cs) hs = touch_in c hs ++ touches_in cs hs

  -- the state of a cell after an entry that touches these cells, where it stood in this one
  abbrev pub after_in : ℕ → List (Touch Z) → Z → Z
  after_in c [] z = z
  after_in c (t ∷ ts) z = if t.cell == c then t.after else after_in c ts z

  -- the held cells once an entry is drawn that touches these: their settled states are those after it
  abbrev pub settle : List (Touch Z) → List (Hold Z) → List (Hold Z)
  settle ts [] = []
  settle ts (h ∷ hs) = hold h.cell (after_in h.cell ts h.settled) h.shown ∷ settle ts hs

  -- a held cell with its settled state
  abbrev pub settled_of : Hold Z → Stand Z
  settled_of h = stand h.cell h.settled

  -- the seat has entered a cell whose value has this state
  abbrev pub entered : ℕ → Z → Seen Z → Seen Z
  entered c z seen = record seen { holds = seen.holds ++ hold c z z ∷ [] }

  -- the seat has found another in a cell
  abbrev pub met : Busy → Seen Z → Seen Z
  met busy seen = record seen { meetings = busy ∷ seen.meetings }

  -- the seat has shown a cell in a state
  abbrev pub shown : ℕ → Z → Seen Z → Seen Z
  shown c z seen = record seen { holds = show_in c z seen.holds }

  -- the seat has drawn an entry
  abbrev pub drew : Drawn Z → Seen Z → Seen Z
  drew r seen = record seen { holds = settle r.touches seen.holds; records = r ∷ seen.records }

  -- the seat has read how many stamps are drawn
  abbrev pub noted : ℕ → Seen Z → Seen Z
  noted answer seen = record seen { notes = note answer (map settled_of seen.holds) ∷ seen.notes }

  -- the seat has left a cell
  abbrev pub left : ℕ → Seen Z → Seen Z
  left c seen = record seen { holds = without c seen.holds }
