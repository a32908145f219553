-- What becomes of a writer that is given a text.
use Rattle.std.specs.Prelude.{List, ℕ, Result, MatchResult}

-- Ok: the writer took the text; an error: it took a part of it and stopped
abbrev pub Writes : {P T E : Type 0} → (P → P → List ℕ → Type 0) → (P → P → List ℕ → Type 0) → P → P → List ℕ → Result T E → Type 0
Writes takes stops old new text result = MatchResult result (λ _. takes old new text) (λ _. stops old new text)
