-- Counts of faults, and what a call may do to them.
use Rattle.std.specs.Prelude.{◌≡◌, ℕ, ◌+◌, ◌≤◌, min, Result, OnOk, OnErr}

-- the last number that a stored count can hold: a count that has reached it stays there
abbrev pub last_count : ℕ
last_count = 18446744073709551615

-- a number as a stored count holds it
abbrev pub counted : ℕ → ℕ
counted n = min n last_count

-- the count rose, or stands at the last number that it can hold
abbrev pub Rose : ℕ → ℕ → Type 0
Rose before now = counted (before + 1) ≤ now

-- what a call with this result did to a count: it never falls, Ok leaves it, and an error comes only where it rose
pub record CountsFaults {T E : Type 0} (result : Result T E) (before now : ℕ) : Type 0 where
  pub never_falls : before ≤ now
  pub ok : OnOk result (now ≡ before)
  pub failed : OnErr result (Rose before now)

-- the count now has these faults besides those from before, as far as a stored count can hold them
pub record Includes (before added now : ℕ) : Type 0 where
  pub never_falls : before ≤ now
  pub all_counted : counted (before + added) ≤ now
  pub none_invented : now ≤ before + added
