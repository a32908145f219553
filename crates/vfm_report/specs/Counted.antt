-- Lists of so many words.
use Rattle.std.specs.Prelude.{ℕ, List, [], ◌∷◌, Option, Some, None}

-- no word
abbrev pub no_word : List (List ℕ) → Option (Unit {0})
no_word [] = Some tt
no_word _ = None

-- the only word
abbrev pub one_word : List (List ℕ) → Option (List ℕ)
one_word (a ∷ []) = Some a
one_word _ = None

-- both words, where there are two
abbrev pub two_words : List (List ℕ) → Option (List ℕ × List ℕ)
two_words (a ∷ b ∷ []) = Some (a, b)
two_words _ = None
