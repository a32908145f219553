-- The list of all drawn entries, newest first, and what it says of each cell and each seat.
use Rattle.std.specs.Prelude.{◌≡◌, ℕ, ◌-◌, ◌<◌, ◌≤◌, ◌==◌, if◌then◌else◌, List, [], ◌∷◌, length, drop}
use Rattle.vfm_turn.specs.declared.seen.Stand.{Stand}
use Rattle.vfm_turn.specs.declared.seen.Touch.{Touch}
use Rattle.vfm_turn.specs.declared.seen.Drawn.{Drawn}
use Rattle.vfm_turn.specs.declared.seen.Note.{Note}
use Rattle.vfm_turn.specs.declared.seen.Past.{Past}
use Rattle.vfm_turn.specs.Seen.{after_in}

-- P holds of each element
abbrev pub Each : {X : Type 0} → (X → Type 0) → List X → Type 0
Each P [] = Unit {0}
Each P (x ∷ xs) = P x × Each P xs

module _ {Z : Type 0} where
  -- the state of a cell after all entries of the log, where it began in this one
  abbrev pub state_after : ℕ → Z → List (Drawn Z) → Z
  state_after c z [] = z
  state_after c z (r ∷ log) = after_in c r.touches (state_after c z log)

  -- each touched cell is one of the n, and its state before is the one that it is in
  abbrev pub Begins : ℕ → (ℕ → Z) → List (Touch Z) → Type 0
  Begins n at [] = Unit {0}
  Begins n at (t ∷ ts) = (t.cell < n) × (t.before ≡ at t.cell) × Begins n at ts

  -- the log of a board with n cells that began in these states: the stamps count from 0, and each entry finds each cell that it touches
  -- as the last entry before it left the cell
  abbrev pub Ran : ℕ → (ℕ → Z) → List (Drawn Z) → Type 0
  Ran n at [] = Unit {0}
  Ran n at (r ∷ log) = (r.stamp ≡ length log) × Begins n (λ c. state_after c (at c) log) r.touches × Ran n at log

  -- the entries of the log that a seat drew
  abbrev pub drawn_by : ℕ → List (Drawn Z) → List (Drawn Z)
  drawn_by k [] = []
  drawn_by k (r ∷ log) = if r.by == k then r ∷ drawn_by k log else drawn_by k log

  -- the log when so many stamps were drawn
  abbrev pub earlier : ℕ → List (Drawn Z) → List (Drawn Z)
  earlier count log = drop (length log - count) log

  -- a cell stood in this state when so many stamps were drawn
  abbrev pub Stood : ℕ → (ℕ → Z) → List (Drawn Z) → ℕ → Stand Z → Type 0
  Stood n at log count s = (s.cell < n) × (s.state ≡ state_after s.cell (at s.cell) (earlier count log))

  -- each noted state is the one in which the cell stood at the noted answer
  abbrev pub IsNote : ℕ → (ℕ → Z) → List (Drawn Z) → Note Z → Type 0
  IsNote n at log note = (note.answer ≤ length log) × Each (Stood n at log note.answer) note.stands

  -- a seat's records are the entries of the log that it drew, and its notes are true
  abbrev pub IsPast : ℕ → (ℕ → Z) → List (Drawn Z) → Past Z → Type 0
  IsPast n at log p = (p.records ≡ drawn_by p.number log) × Each (IsNote n at log) p.notes
