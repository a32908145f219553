-- What a closed board says of all that was done on it.
use Rattle.std.specs.Prelude.{◌≡◌, ℕ, ◌<◌, true, List, map, length, slice_get, Some, All}
use Rattle.vfm_turn.specs.declared.seen.Drawn.{Drawn}
use Rattle.vfm_turn.specs.declared.seen.Past.{Past}
use Rattle.vfm_turn.specs.Log.{state_after, Ran, IsPast}
use Rattle.vfm_turn.specs.Order.{has}

-- A closed board: the states of the values that it was started with, what each ticket drew and noted, and the states of the values that came back
pub record Closing (Z : Type 0) : Type 0 where
  pub started : List Z
  pub told : List (Past Z)
  pub ended : List Z

abbrev pub past_number : {Z : Type 0} → Past Z → ℕ
past_number p = p.number

module _ {Z : Type 0} where
  -- the cells began in these states
  abbrev pub BeganAt : List Z → (ℕ → Z) → Type 0
  BeganAt started at = (c : ℕ) (z : Z) → slice_get started c ≡ Some z → at c ≡ z

  -- the cells end in these states
  abbrev pub EndsAt : List Z → (ℕ → Z) → List (Drawn Z) → Type 0
  EndsAt ended at log = (c : ℕ) (z : Z) → slice_get ended c ≡ Some z → z ≡ state_after c (at c) log

  -- The log of a closed board. The stamps count from 0, and of each cell the entries that touch it are one chain from its started state to the one that came back;
  -- each ticket's records are the entries that it drew, in their order, and there are no others; and each note is true.
  pub record IsLogOf (closing : Closing Z) (log : List (Drawn Z)) : Type 0 where
    pub some_cells : 0 < length closing.started
    pub cells : length closing.ended ≡ length closing.started
    pub ran : (at : ℕ → Z) → BeganAt closing.started at → Ran (length closing.started) at log
    pub told : (at : ℕ → Z) → BeganAt closing.started at → All (IsPast (length closing.started) at log) closing.told
    pub ended : (at : ℕ → Z) → BeganAt closing.started at → EndsAt closing.ended at log
    pub no_others : All (λ r. has r.by (map past_number closing.told) ≡ true) log

  -- there is such a log
  abbrev pub IsHistory : Closing Z → Type 0
  IsHistory closing = (log : List (Drawn Z)) × IsLogOf closing log
