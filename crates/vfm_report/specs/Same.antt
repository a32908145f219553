-- Whether two texts are the same.
use Rattle.std.specs.Prelude.{ℕ, Bool, nat_eq, List}
use Rattle.std.specs.Cmp.Lexicographic.{pointwise}

-- two texts are the same
abbrev pub same_text : List ℕ → List ℕ → Bool
same_text = pointwise nat_eq
