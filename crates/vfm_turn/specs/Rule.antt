-- The rule of the board: what the words, the cells' values and what all seats know have to do with one another, at every moment.
-- Word 0 counts the drawn stamps. Word c + 1 is 0 where cell c is free, and else the holder's number plus one.
use Rattle.std.specs.Prelude.{◌≡◌, ℕ, ◌+◌, ◌<◌, ◌≤◌, ◌==◌, Bool, true, false, ◌||◌, List, [], ◌∷◌, length, slice_index, Option, Some}
use mathlib.Core.Option.{some}
use lib.ListN.{get_elem?}
use Rattle.atomic_table.specs.Table.{State, Me}
use Rattle.std.specs.declared.snapshot.Snapshot.{Snapshot}
use Rattle.vfm_types.specs.declared.desc.Desc.{Desc}
use Rattle.vfm_turn.specs.declared.seen.Stand.{Stand}
use Rattle.vfm_turn.specs.declared.seen.Drawn.{Drawn}
use Rattle.vfm_turn.specs.declared.seen.Past.{Past}
use Rattle.vfm_turn.specs.declared.seen.View.{View}
use Rattle.vfm_turn.specs.declared.seen.Key.{Key}
use Rattle.vfm_turn.specs.Log.{Each, state_after, Ran, drawn_by, IsNote, IsPast}

module _ {Z : Type 0} where
  -- what a new seat knows
  abbrev pub fresh_view : ℕ → ℕ → Snapshot Desc → View Z
  fresh_view number seats desc = record { live = true; number = number; newest = true; seats = seats; desc = Some desc; holds = []; records = []; notes = []; meetings = []; pasts = [] }

  -- a seat that is there, and knows its number alone
  abbrev pub IsFreshSeat : {T : Type 0} → ℕ → Me (Option T) (View Z) → Type 0
  IsFreshSeat number me = (me.1 ≡ []) × (me.0.live ≡ true) × (me.0.number ≡ number) × (me.0.holds ≡ []) × (me.0.records ≡ []) × (me.0.notes ≡ []) × (me.0.meetings ≡ []) × (me.0.pasts ≡ [])

  -- what the first seat knows at the start
  abbrev pub first_view : ℕ → Snapshot Desc → View Z
  first_view seats desc = fresh_view 0 seats desc

  -- whether a seat holds a cell
  abbrev pub stands_in : ℕ → List (Stand Z) → Bool
  stands_in c [] = false
  stands_in c (s ∷ ss) = (s.cell == c) || stands_in c ss

  -- a seat that isn't there any more
  abbrev pub IsSpent : List (View Z) → ℕ → Type 0
  IsSpent views k = (v : View Z) × (get_elem? views k ≡ some v) × (v.live ≡ false)

  -- what a seat drew before another took it in, and that it isn't there any more
  abbrev pub IsTakenIn : ℕ → (ℕ → Z) → List (Drawn Z) → List (View Z) → Past Z → Type 0
  IsTakenIn n at log views p = IsPast n at log p × IsSpent views p.number

  -- a held cell is one of the n, its word names the holder, and its settled state is that after the last entry that touches it
  abbrev pub IsHeldBy : ℕ → (ℕ → Z) → List (Drawn Z) → List ℕ → ℕ → Stand Z → Type 0
  IsHeldBy n at log words k s = (s.cell < n) × (slice_index words (s.cell + 1) ≡ k + 1) × (s.state ≡ state_after s.cell (at s.cell) log)

  -- what is so of seat k while it is there
  pub record IsLive (n : ℕ) (at : ℕ → Z) (log : List (Drawn Z)) (words : List ℕ) (views : List (View Z)) (desc : Snapshot Desc) (seats k : ℕ) (v : View Z) : Type 0 where
    pub numbered : v.number ≡ k
    pub described : v.desc ≡ Some desc
    pub seated : v.seats ≡ seats
    pub drew : v.records ≡ drawn_by k log
    pub noted : Each (IsNote n at log) v.notes
    pub holding : Each (IsHeldBy n at log words k) v.holds
    pub taken : Each (IsTakenIn n at log views) v.pasts

-- The rule
pub record Ruled {T Z : Type 0} (state : T → Z) (fits : Desc → ℕ → T → Type 0) (key : Key T) (s : State (Option T) (View Z)) : Type 0 where
  pub log : List (Drawn Z)
  pub at : ℕ → Z
  pub starts : (c : ℕ) (x : T) → get_elem? key.cells.value.items c ≡ some x → at c ≡ state x
  pub wide : length s.words ≡ length key.cells.value.items + 1
  pub deep : length s.homes ≡ length key.cells.value.items
  pub counted : slice_index s.words 0 ≡ length log
  pub ran : Ran (length key.cells.value.items) at log
  pub known : Each (λ r. r.by < length s.views) log
  pub few : (k : ℕ) → length (drawn_by k log) ≤ 4294967296
  pub first : 0 < length s.views
  pub within : length s.views ≤ key.seats
  pub limit : key.seats ≤ 64
  pub home : (c : ℕ) → c < length key.cells.value.items → slice_index s.words (c + 1) ≡ 0
      → (x : T) × (get_elem? s.homes c ≡ some (some (Some x))) × (state x ≡ state_after c (at c) log) × fits key.desc.value c x
  pub held : (c k : ℕ) → c < length key.cells.value.items → slice_index s.words (c + 1) ≡ k + 1 → (v : View Z) × (get_elem? s.views k ≡ some v) × (stands_in c v.holds ≡ true)
  pub alive : (k : ℕ) (v : View Z) → get_elem? s.views k ≡ some v → v.live ≡ true → IsLive (length key.cells.value.items) at log s.words s.views key.desc key.seats k v
  pub spent : (k : ℕ) (v : View Z) → get_elem? s.views k ≡ some v → v.live ≡ false → v.holds ≡ []
  pub newest : (k : ℕ) (v : View Z) → get_elem? s.views k ≡ some v → v.live ≡ true → v.newest ≡ true → length s.views ≡ k + 1
