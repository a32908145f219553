-- What a hasher took in.
use Rattle.std.specs.Prelude.{ℕ, List, ◌++◌}
use Rattle.sha2.specs.declared.Sha256.{Sha256}
use Rattle.sha2.specs.Hashers.{Holds256}

-- from the first state to the second the hasher took in this text, after whatever it held
abbrev pub TookIn : Sha256 → Sha256 → List ℕ → Type 0
TookIn before after text = (held : List ℕ) → Holds256 before held → Holds256 after (held ++ text)
