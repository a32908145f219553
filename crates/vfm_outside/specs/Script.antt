-- The objects in memory: which of their calls fail, and what the others move.
use Rattle.std.specs.Prelude.{ℕ, ◌+◌, ◌==◌, Bool, List, Result, Ok, Err, if◌then◌else◌}
use Rattle.std.specs.List.{list_any}
use Rattle.vfm_outside.specs.Counts.{counted}
use Rattle.vfm_outside.specs.declared.failed.Failed.{Failed}

-- the numbers of the calls that fail, the number of the next call, and the most bytes that one call moves
pub record Plan : Type 0 where
  pub fail : List ℕ
  pub next : ℕ
  pub most : ℕ

-- a plan before its first call
abbrev pub new_plan : List ℕ → ℕ → Plan
new_plan fail most = record { fail = fail; next = 0; most = most }

-- whether the next call is one of those that fail
abbrev pub is_failing : Plan → Bool
is_failing plan = list_any (λ call. call == plan.next) plan.fail

-- the plan after a call
abbrev pub after_call : Plan → Plan
after_call plan = record plan { next = counted (plan.next + 1) }

-- the plan after a call that was to move so many bytes: a call that moves none isn't numbered
abbrev pub after_moving : ℕ → Plan → Plan
after_moving asked plan = if asked == 0 then plan else after_call plan

-- the answer of a call that was to move `asked` bytes and can move n of them
abbrev pub answer_of : (asked : ℕ) (fails : Bool) (n : ℕ) → Result ℕ Failed
answer_of asked fails n = if asked == 0 then Ok 0 else (if fails then Err (record {}) else Ok n)
