-- The words that the program answers itself.
use Rattle.std.specs.Prelude.{ℕ, ◌||◌, Bool, false, List, [], ◌∷◌, codes}
use Rattle.vfm_top.specs.Form.{same_text}

-- whether they are `--help` or `--version` alone
abbrev pub is_own : List (List ℕ) → Bool
is_own [] = false
is_own (word ∷ []) = same_text word (codes "--help") || same_text word (codes "--version")
is_own (first ∷ second ∷ words) = false
