-- The cells that a ticket holds, in the order in which it entered them.
use Rattle.std.specs.Prelude.{◌≡◌, ℕ, ◌≤◌, ◌==◌, All, Vec, vec_capacity, Bool, true, false, not, ◌&&◌, ◌||◌, nat_lt, List, [], ◌∷◌, map, Option, Some, None}
use Rattle.std.specs.Global.{Global}
use Rattle.vfm_turn.specs.declared.seen.Stand.{Stand}
use Rattle.vfm_turn.specs.declared.seen.Held.{Held}

abbrev pub held_cell : {T : Type 0} → Held T → ℕ
held_cell h = h.cell

abbrev pub stand_cell : {Z : Type 0} → Stand Z → ℕ
stand_cell s = s.cell

-- the slot of a held cell, which is empty, since its holder has the value
abbrev pub empty_slot : {T : Type 0} → Held T → ℕ × Option T
empty_slot h = (h.cell, None)

-- whether a number is in a list
abbrev pub has : ℕ → List ℕ → Bool
has x [] = false
has x (y ∷ ys) = (y == x) || has x ys

-- whether each number stands in the list once
abbrev pub are_once : List ℕ → Bool
are_once [] = true
are_once (x ∷ xs) = not (has x xs) && are_once xs

-- whether each number is below n
abbrev pub are_below : ℕ → List ℕ → Bool
are_below n [] = true
are_below n (x ∷ xs) = nat_lt x n && are_below n xs

-- the values that lie in slots, in their order
abbrev pub values_in : {T : Type 0} → List (Option T) → List T
values_in [] = []
values_in (Some x ∷ slots) = x ∷ values_in slots
values_in (None ∷ slots) = values_in slots

-- each slot has its value
abbrev pub AreAllHome : {T : Type 0} → List (Option T) → Type 0
AreAllHome slots = slots ≡ map Some (values_in slots)

-- empty lists with room for so many cells each
abbrev pub AreRooms : {T : Type 0} → ℕ → List (Vec (Held T) Global) → Type 0
AreRooms cells = All (λ v. (v.items ≡ []) × (cells ≤ vec_capacity v))
