-- The place of a number in a list.
use Prim.Native.Nat.{suc}
use Rattle.std.specs.Prelude.{ℕ, ◌==◌, if◌then◌else◌, List, [], ◌∷◌}

-- the first place where x stands, or the length where it doesn't
abbrev pub place_in : ℕ → List ℕ → ℕ
place_in x [] = 0
place_in x (y ∷ ys) = if y == x then 0 else suc (place_in x ys)
