-- Reading lines one after another: what was found, and the lines after it; or the lines from the first that isn't one
-- of those that may stand there.
use Rattle.std.specs.Prelude.{ℕ, zero, suc, ◌+◌, List, [], ◌∷◌, Option, Some, None, if◌then◌else◌}
use Rattle.vfm_report.specs.Same.{same_text}

-- What is read, and the lines after it. Or the lines from a bad one on; none where the lines end too soon.
pub data Found (X : Type 0) : Type 0 where
  Read : X → List (List ℕ) → Found X
  Bad : List (List ℕ) → Found X

-- what reads lines
abbrev pub Reader : Type 0 → Type 0
Reader X = List (List ℕ) → Found X

-- the next step, where the one before found something
infixl 10 ◌>>=◌
abbrev pub ◌>>=◌ : {X Y : Type 0} → Found X → (X → List (List ℕ) → Found Y) → Found Y
(Read x rest) >>= f = f x rest
(Bad rest) >>= f = Bad rest

-- what is found, made into something else
abbrev pub found_map : {X Y : Type 0} → (X → Y) → Found X → Found Y
found_map f (Read x rest) = Read (f x) rest
found_map f (Bad rest) = Bad rest

-- the value of a line that was to be one, or the line and those after it
abbrev pub found_or : {X : Type 0} → Option X → List (List ℕ) → List (List ℕ) → Found X
found_or (Some x) lines rest = Read x rest
found_or None lines rest = Bad lines

-- one line
abbrev pub one_line : {X : Type 0} → (List ℕ → Option X) → Reader X
one_line of_line [] = Bad []
one_line of_line (l ∷ lines) = found_or (of_line l) (l ∷ lines) lines

-- this line
abbrev pub this_line : List ℕ → Reader (Unit {0})
this_line text lines = one_line (λ l. if same_text l text then Some tt else None) lines

-- a line's value, before those that are found
abbrev pub then_more : {X : Type 0} → Option X → Found (List X) → List (List ℕ) → Found (List X)
then_more None more lines = Read [] lines
then_more (Some x) more lines = found_map (λ xs. x ∷ xs) more

-- as many lines as have a value
abbrev pub many_lines : {X : Type 0} → (List ℕ → Option X) → Reader (List X)
many_lines of_line [] = Read [] []
many_lines of_line (l ∷ lines) = then_more (of_line l) (many_lines of_line lines) (l ∷ lines)

-- one after the other
abbrev pub in_turn : {X Y : Type 0} → Reader X → Reader Y → Reader (X × Y)
in_turn first second lines = first lines >>= (λ x rest. found_map (λ y. (x, y)) (second rest))

-- so many in a row, numbered from k on
abbrev pub row : {X : Type 0} → (ℕ → Reader X) → ℕ → ℕ → Reader (List X)
row reader zero k lines = Read [] lines
row reader (suc n) k lines = reader k lines >>= (λ x rest. found_map (λ xs. x ∷ xs) (row reader n (k + 1) rest))

-- a part under its title, where the title stands there
abbrev pub titled : {X : Type 0} → List ℕ → Reader X → Reader (Option X)
titled title reader [] = Read None []
titled title reader (l ∷ lines) = if same_text l title then found_map Some (reader lines) else Read None (l ∷ lines)
