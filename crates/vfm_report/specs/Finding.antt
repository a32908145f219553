-- What calls that read answer.
use Rattle.std.specs.Prelude.{◌≡◌, ℕ, ◌<◌, List, [], ◌∷◌, length, Option, Some, None, IfSome, Result, Ok, Err}
use Rattle.vfm_report.specs.declared.stop.Stop.{Stop}
use Rattle.vfm_report.specs.declared.stop.Stop.TheVariants.{BadLine, NoMemory}
use Rattle.vfm_report.specs.Found.{Found, Read, Bad, found_map, many_lines}

-- what a call answered, seen by view, and the lines that it left are what was to be found, unless memory ran out
abbrev pub Finds : {X Y : Type 0} → (X → Y) → Result X Stop → List (List ℕ) → Found Y → Type 0
Finds view (Ok x) left found = found ≡ Read (view x) left
Finds view (Err BadLine) left found = found ≡ Bad left
Finds view (Err NoMemory) left found = Unit {0}

-- the same of a value that is there or not
abbrev pub Gets : {X Y : Type 0} → (X → Y) → Result X Stop → Option Y → Type 0
Gets view (Ok x) o = o ≡ Some (view x)
Gets view (Err BadLine) o = o ≡ None
Gets view (Err NoMemory) o = Unit {0}

-- no line of this kind stands first
abbrev pub Ends : {X : Type 0} → (List ℕ → Option X) → List (List ℕ) → Type 0
Ends of_line lines = many_lines of_line lines ≡ Read [] lines

-- the first line has this value, and these lines stand after it
abbrev pub Begins : {X : Type 0} → (List ℕ → Option X) → List (List ℕ) → X → List (List ℕ) → Type 0
Begins of_line lines x rest = many_lines of_line lines ≡ found_map (λ xs. x ∷ xs) (many_lines of_line rest)

-- fewer lines are left where one was found
abbrev pub Fewer : {X : Type 0} → Option X → List (List ℕ) → (X → List (List ℕ)) → Type 0
Fewer found lines rest = IfSome found (λ x. length (rest x) < length lines)
