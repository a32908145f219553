-- What clauses read of a board and of a ticket.
use Rattle.std.specs.Prelude.{◌≡◌, ℕ, List, [], ◌∷◌, map, Option, Some}
use Rattle.vfm_types.specs.declared.desc.Desc.{Desc}
use Rattle.vfm_turn.specs.declared.kept.Kept.{Ghosts}
use Rattle.vfm_turn.specs.declared.seen.Busy.{Busy}
use Rattle.vfm_turn.specs.declared.seen.Stand.{Stand}
use Rattle.vfm_turn.specs.declared.seen.Drawn.{Drawn}
use Rattle.vfm_turn.specs.declared.seen.Note.{Note}
use Rattle.vfm_turn.specs.declared.seen.Past.{Past}
use Rattle.vfm_turn.specs.declared.seen.Held.{Held}
use Rattle.vfm_turn.specs.declared.seen.View.{View}
use Rattle.vfm_turn.specs.declared.seen.Key.{Key}
use Rattle.atomic_table.specs.declared.shared.Shared.{Shared}
use Rattle.vfm_turn.specs.declared.ticket.Ticket.{Ticket}
use Rattle.vfm_turn.specs.declared.board.Board.{Board}
use Rattle.vfm_types.specs.declared.entry.Entry.{Entry}
use Rattle.vfm_turn.specs.Seen.{Hold, Seen, hold, drawn, touches_in}
use Rattle.vfm_turn.specs.History.{Closing}
use Rattle.vfm_turn.specs.Steps.{past_of}

-- the held cells, from their settled states and from what they were shown as
abbrev pub holds_from : {T Z : Type 0} → (T → Z) → List (Stand Z) → List (Held T) → List (Hold Z)
holds_from state [] hs = []
holds_from state (s ∷ ss) [] = []
holds_from state (s ∷ ss) (h ∷ hs) = hold s.cell s.state (state h.shown.value) ∷ holds_from state ss hs

-- what a seat knows, from its view and from the cells that it was shown
abbrev pub seen_from : {T Z : Type 0} → (T → Z) → View Z → List (Held T) → Seen Z
seen_from state v hs = record { holds = holds_from state v.holds hs; records = v.records; notes = v.notes; meetings = v.meetings }

module _ {T Z : Type 0} {g : Ghosts T Z} where
  -- the seat's number, counted from 0
  abbrev pub number_of : Ticket T Z g → ℕ
  number_of t = t.number

  -- all that the seat knows
  abbrev pub seen_of : Ticket T Z g → Seen Z
  seen_of t = seen_from g.state t.seat.me.0 t.order.items

  -- what it drew and noted, newest first
  abbrev pub past_told : Ticket T Z g → Past Z
  past_told t = past_of t.seat.me.0

  -- the cells that it holds, with their settled and their shown states
  abbrev pub holds_of : Ticket T Z g → List (Hold Z)
  holds_of t = (seen_of t).holds

  -- the entries that it drew, newest first
  abbrev pub records_of : Ticket T Z g → List (Drawn Z)
  records_of t = t.seat.me.0.records

  -- what it noted of the number of stamps, newest first
  abbrev pub notes_of : Ticket T Z g → List (Note Z)
  notes_of t = t.seat.me.0.notes

  -- the seats that it found in cells, newest first
  abbrev pub meetings_of : Ticket T Z g → List Busy
  meetings_of t = t.seat.me.0.meetings

  -- the record of an entry that it draws at a stamp, for these of the cells that it holds
  abbrev pub drawn_of : Ticket T Z g → ℕ → Entry → List ℕ → Drawn Z
  drawn_of t stamp entry cells = drawn t.number stamp entry (touches_in cells (holds_of t))

module _ {T Z : Type 0} where
  -- how many cells the board has
  abbrev pub cells_of : Board T Z → ℕ
  cells_of b = b.table.shared.table_id.slots

  -- how many seats it was started with
  abbrev pub seats_of : Board T Z → ℕ
  seats_of b = b.table.shared.key.seats

  -- the description that it was started with
  abbrev pub desc_of : Board T Z → Desc
  desc_of b = b.table.shared.key.desc.value

  -- the states of the values that it was started with
  abbrev pub started_of : (T → Z) → Board T Z → List Z
  started_of state b = map state b.table.shared.key.cells.value.items

-- the seat of the ticket is one of the table
abbrev pub IsSeatOf : {T Z P : Type 0} {g : Ghosts T Z} → Shared (Option T) (View Z) (Key T) P → Ticket T Z g → Type 0
IsSeatOf top t = (t.seat.table_id ≡ top.table_id) × (t.seat.me.0.desc ≡ Some top.key.desc) × (t.seat.me.0.seats ≡ top.key.seats)

-- the ticket is one of the board
abbrev pub IsTicketOf : {T Z : Type 0} {g : Ghosts T Z} → Board T Z → Ticket T Z g → Type 0
IsTicketOf b t = IsSeatOf b.table.shared t

-- what a closed board says: its started states, what its tickets drew and noted, and the states of the values that came back
abbrev pub closing_of : {T Z : Type 0} {g : Ghosts T Z} → (T → Z) → Board T Z → List (Ticket T Z g) → List T → Closing Z
closing_of state b tickets values = record { started = started_of state b; told = map past_told tickets; ended = map state values }
