-- Bytes cut at each place where a certain byte stands: words at blanks, lines at line feeds.
use Rattle.std.specs.Prelude.{ℕ, ◌==◌, ◌&&◌, Bool, true, not, List, [], ◌∷◌, ◌++◌, if◌then◌else◌}
use Rattle.std.specs.List.{flat_map}

-- the byte isn't among these
abbrev pub is_without : ℕ → List ℕ → Bool
is_without b [] = true
is_without b (x ∷ xs) = not (x == b) && is_without b xs

-- a byte before the first of these pieces
abbrev pub before_pieces : ℕ → List (List ℕ) → List (List ℕ)
before_pieces x [] = (x ∷ []) ∷ []
before_pieces x (piece ∷ pieces) = (x ∷ piece) ∷ pieces

-- The pieces between the places of a byte: one more than there are such places, some of them maybe empty.
unfoldable pub split : ℕ → List ℕ → List (List ℕ)
split b [] = [] ∷ []
split b (x ∷ xs) = if x == b then [] ∷ split b xs else before_pieces x (split b xs)

-- the words of a line without its line feed
abbrev pub words_of : List ℕ → List (List ℕ)
words_of bytes = split 32 bytes

-- a word and the words after it as a line without its line feed
abbrev pub words_line : List ℕ → List (List ℕ) → List ℕ
words_line first words = first ++ flat_map (λ word. 32 ∷ word) words
