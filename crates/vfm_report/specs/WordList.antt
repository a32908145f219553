-- What is left of pieces between the places of a byte.
use Rattle.std.specs.Prelude.{ℕ, List, [], Option, Some, None}
use Rattle.std.specs.Borrow.{Bor}
use Rattle.vfm_report.specs.declared.words.Words.{Words}
use Rattle.vfm_report.specs.Split.{split}

-- the pieces of what is left; none where nothing is left
abbrev pub left_pieces : ℕ → Option (Bor (List ℕ)) → List (List ℕ)
left_pieces b None = []
left_pieces b (Some rest) = split b rest.now

-- the words that are left
abbrev pub words_left : Words → List (List ℕ)
words_left words = left_pieces words.between words.rest
