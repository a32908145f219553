-- Digests and a refusal for the worked cases of the tests. Digests of one byte stand for digests of 32.
use Rattle.std.specs.Prelude.{ℕ, List, [], ◌∷◌}
use Rattle.vfm_types.specs.declared.fault.Refusal.{Refusal}

-- the digest of the source
abbrev pub x : List ℕ
x = 1 ∷ []

-- another digest
abbrev pub y : List ℕ
y = 2 ∷ []

-- the refusal for a lost packet of stream 0: code 24 and two zeros
abbrev pub missing : Refusal
missing = record { code = 24; a = 0; b = 0 }
