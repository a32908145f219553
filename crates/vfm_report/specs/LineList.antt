-- The lines of bytes that end with a line feed, and what stands after the last of them.
use Rattle.std.specs.Prelude.{ℕ, List, [], ◌∷◌, ◌++◌}
use Rattle.std.specs.List.{flat_map}
use Rattle.vfm_report.specs.declared.lines.Lines.{Lines}
use Rattle.vfm_report.specs.Split.{split}

-- all of these but the last
abbrev pub but_last : List (List ℕ) → List (List ℕ)
but_last [] = []
but_last (x ∷ []) = []
but_last (x ∷ y ∷ xs) = x ∷ but_last (y ∷ xs)

-- the last of these
abbrev pub last_piece : List (List ℕ) → List ℕ
last_piece [] = []
last_piece (x ∷ []) = x
last_piece (x ∷ y ∷ xs) = last_piece (y ∷ xs)

-- the whole lines, each without its line feed
abbrev pub whole_lines : List ℕ → List (List ℕ)
whole_lines bytes = but_last (split 10 bytes)

-- what stands after the last line feed
abbrev pub after_lines : List ℕ → List ℕ
after_lines bytes = last_piece (split 10 bytes)

-- these lines, each with its line feed
abbrev pub unlined : List (List ℕ) → List ℕ
unlined lines = flat_map (λ l. l ++ 10 ∷ []) lines

-- the whole lines that are left
abbrev pub lines_left : Lines → List (List ℕ)
lines_left lines = whole_lines lines.rest.now
