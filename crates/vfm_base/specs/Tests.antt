-- Tests in their order, each with what is answered where it fails.
use Rattle.std.specs.Prelude.{Bool, List, [], ◌∷◌, Option, Some, None, if◌then◌else◌}

-- a test: whether it holds, and what is answered where it doesn't
abbrev pub Test : Type 0 → Type 0
Test X = Bool × X

-- the answer of the first test that fails
abbrev pub first_failed : {X : Type 0} → List (Bool × X) → Option X
first_failed [] = None
first_failed (test ∷ tests) = if test.0 then first_failed tests else Some test.1
