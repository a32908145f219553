-- Conditions: what is tested, and the rule that is broken where it fails.
use Rattle.std.specs.Prelude.{Bool, List, None, Option, Some, [], false, if◌then◌else◌, ℕ, ◌==◌, ◌∷◌}
use Rattle.vfm_types.specs.declared.entry.Rule.{Rule}

-- a condition: whether it holds, and the rule that is broken where it doesn't
abbrev pub Condition : Type 0
Condition = Bool × Rule

-- the option is this number
abbrev pub is_exactly : ℕ → Option ℕ → Bool
is_exactly n None = false
is_exactly n (Some k) = k == n
