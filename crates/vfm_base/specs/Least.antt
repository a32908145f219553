-- Tests over the numbers below a bound: whether one passes, whether all do, how many do, and the least that does.
use Rattle.std.specs.Prelude.{ℕ, zero, suc, ◌+◌, ◌&&◌, ◌||◌, Bool, true, false, if◌then◌else◌, Option, Some, None}

-- some number below n passes
abbrev pub any_below : ℕ → (ℕ → Bool) → Bool
any_below zero test = false
any_below (suc n) test = any_below n test || test n

-- each number below n passes
abbrev pub all_below : ℕ → (ℕ → Bool) → Bool
all_below zero test = true
all_below (suc n) test = all_below n test && test n

-- how many numbers below n pass
abbrev pub count_below : ℕ → (ℕ → Bool) → ℕ
count_below zero test = 0
count_below (suc n) test = count_below n test + (if test n then 1 else 0)

-- the least of the n numbers from i on that passes
abbrev pub least_from : ℕ → ℕ → (ℕ → Bool) → Option ℕ
least_from i zero test = None
least_from i (suc n) test = if test i then Some i else least_from (i + 1) n test

-- the least number below n that passes
abbrev pub least_below : ℕ → (ℕ → Bool) → Option ℕ
least_below n test = least_from 0 n test
