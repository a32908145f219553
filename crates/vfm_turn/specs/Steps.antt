-- What each step on a word of the board makes of a seat, and what it tells it.
use Rattle.std.specs.Prelude.{◌≡◌, ◌≢◌, ℕ, ◌+◌, ◌-◌, ◌^◌, ◌<◌, ◌≤◌, ◌==◌, true, false, if◌then◌else◌, List, [], ◌∷◌, ◌++◌, Option, Some, None, MatchBool, All}
use Rattle.atomic_table.specs.Table.{Step, Me, rest}
use Rattle.std.specs.declared.snapshot.Snapshot.{Snapshot}
use Rattle.vfm_types.specs.declared.desc.Desc.{Desc}
use Rattle.vfm_types.specs.declared.entry.Entry.{Entry}
use Rattle.vfm_turn.specs.declared.seen.Stand.{Stand}
use Rattle.vfm_turn.specs.declared.seen.Touch.{Touch}
use Rattle.vfm_turn.specs.declared.seen.Past.{Past}
use Rattle.vfm_turn.specs.declared.seen.View.{View}
use Rattle.vfm_turn.specs.Seen.{stand, drawn, note, after_in}

module _ {Z : Type 0} where
  -- the cells that a seat holds, but this one
  abbrev pub stands_without : ℕ → List (Stand Z) → List (Stand Z)
  stands_without c [] = []
  stands_without c (s ∷ ss) = if s.cell == c then stands_without c ss else s ∷ stands_without c ss

  -- their settled states, once an entry is drawn that touches these cells
  abbrev pub stands_after : List (Touch Z) → List (Stand Z) → List (Stand Z)
  stands_after ts [] = []
  stands_after ts (s ∷ ss) = stand s.cell (after_in s.cell ts s.state) ∷ stands_after ts ss

  abbrev pub view_entered : ℕ → Z → View Z → View Z
  view_entered c z v = record v { holds = v.holds ++ stand c z ∷ [] }

  abbrev pub view_met : ℕ → ℕ → View Z → View Z
  view_met c holder v = record v { meetings = record { cell = c; holder = holder } ∷ v.meetings }

  abbrev pub view_drew : ℕ → Entry → List (Touch Z) → View Z → View Z
  view_drew stamp entry ts v = record v { holds = stands_after ts v.holds; records = drawn v.number stamp entry ts ∷ v.records }

  abbrev pub view_noted : ℕ → View Z → View Z
  view_noted answer v = record v { notes = note answer v.holds ∷ v.notes }

  abbrev pub view_left : ℕ → View Z → View Z
  view_left c v = record v { holds = stands_without c v.holds }

  -- the newest seat has made another
  abbrev pub has_made : View Z → View Z
  has_made v = record v { newest = false }

  -- what the seat knows that it makes
  abbrev pub new_view : View Z → View Z
  new_view v = record { live = true; number = v.number + 1; newest = true; seats = v.seats; desc = v.desc; holds = []; records = []; notes = []; meetings = []; pasts = [] }

  -- what a seat drew and noted
  abbrev pub past_of : View Z → Past Z
  past_of v = record { number = v.number; records = v.records; notes = v.notes }

  -- the seat has taken another in
  abbrev pub taken_in : View Z → View Z → View Z
  taken_in v w = record v { pasts = past_of w ∷ v.pasts }

  -- the one view of each seat that isn't there any more
  abbrev pub spent_view : View Z
  spent_view = record { live = false; number = 0; newest = false; seats = 0; desc = None; holds = []; records = []; notes = []; meetings = []; pasts = [] }

-- Where 0 was found, the seat enters the cell: its slot is out with the seat, with the value, which fits the description, and the value's state is settled.
-- Else the seat has met the one whose number stood there, which is another.
abbrev pub entering_at : {T Z : Type 0} → (T → Z) → (Desc → ℕ → T → Type 0) → ℕ → Me (Option T) (View Z) → ℕ → Me (Option T) (View Z) → Type 0
entering_at {T} {Z} state fits c me found after = MatchBool (found == 0)
    ((x : T) × (after.1 ≡ (c, Some x) ∷ me.1) × (after.0 ≡ view_entered c (state x) me.0) × ((desc : Snapshot Desc) → me.0.desc ≡ Some desc → fits desc.value c x))
    ((after.1 ≡ me.1) × (after.0 ≡ view_met c (found - 1) me.0) × (found - 1 < me.0.seats) × (found - 1 ≢ me.0.number))

-- the same of the cell of the word that the step is on
abbrev pub entering : {T Z : Type 0} → (T → Z) → (Desc → ℕ → T → Type 0) → Step (Option T) → Me (Option T) (View Z) → ℕ → Me (Option T) (View Z) → Type 0
entering state fits st me found after = entering_at state fits (st.word - 1) me found after

-- A seat draws the stamp that is found, which is above those that it drew. A board has fewer than 2^39 stamps in all.
abbrev pub drawing : {T Z : Type 0} → Entry → List (Touch Z) → Step (Option T) → Me (Option T) (View Z) → ℕ → Me (Option T) (View Z) → Type 0
drawing entry ts st me found after = (after.1 ≡ me.1) × (after.0 ≡ view_drew found entry ts me.0) × All (λ r. r.stamp < found) me.0.records × (found < 2 ^ 39)

-- A seat reads how many stamps are drawn, which is above those that it drew and no less than it read before.
abbrev pub noting : {T Z : Type 0} → Step (Option T) → Me (Option T) (View Z) → ℕ → Me (Option T) (View Z) → Type 0
noting st me found after = (after.1 ≡ me.1) × (after.0 ≡ view_noted found me.0) × All (λ r. r.stamp < found) me.0.records × All (λ n. n.answer ≤ found) me.0.notes × (found < 2 ^ 39)

-- A seat leaves a cell, and its slot goes home.
abbrev pub leaving_at : {T Z : Type 0} → ℕ → Me (Option T) (View Z) → Me (Option T) (View Z) → Type 0
leaving_at c me after = (after.1 ≡ rest me.1) × (after.0 ≡ view_left c me.0)

-- the same of the cell of the word that the step is on
abbrev pub leaving : {T Z : Type 0} → Step (Option T) → Me (Option T) (View Z) → ℕ → Me (Option T) (View Z) → Type 0
leaving st me found after = leaving_at (st.word - 1) me after
