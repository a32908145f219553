-- What the lines of a printed state say, each by its words.
use Rattle.std.specs.Prelude.{ℕ, nat_lt, List, [], ◌∷◌, Option, Some, None, codes, decimal, if◌then◌else◌}
use Rattle.std.specs.Option.{option_map}
use Rattle.vfm_report.specs.Maybe.{◌>>=◌}
use Rattle.vfm_report.specs.Same.{same_text}
use Rattle.vfm_report.specs.Counted.{one_word, two_words}
use Rattle.vfm_report.specs.Numbers.{number_of}
use Rattle.vfm_report.specs.HexWord.{is_hex, hex_value}

-- the words after the first, where the first is this one
abbrev pub after_word : List ℕ → List (List ℕ) → Option (List (List ℕ))
after_word text [] = None
after_word text (word ∷ words) = if same_text word text then Some words else None

-- a number and the words after it
abbrev pub number_then : List (List ℕ) → Option (ℕ × List (List ℕ))
number_then [] = None
number_then (word ∷ words) = option_map (λ n. (n, words)) (number_of word)

-- the bytes of a word, where it has so many
abbrev pub hex_of : ℕ → List ℕ → Option (List ℕ)
hex_of size word = if is_hex size word then Some (hex_value word) else None

-- a name, the number n and a word
abbrev pub named_word : List ℕ → ℕ → List (List ℕ) → Option (List ℕ)
named_word name n words = do
  numbered ← after_word name words
  rest ← after_word (decimal n) numbered
  one_word rest

-- a device's accepted, done and lost requests
abbrev pub counts_of : ℕ → List ℕ → List (List ℕ) → Option (ℕ × ℕ × ℕ)
counts_of d name words = do
  a ← after_word (codes "device") words
  b ← after_word (decimal d) a
  c ← after_word name b
  e ← after_word (codes "accepted") c
  accepted ← number_then e
  f ← after_word (codes "done") accepted.1
  done ← number_then f
  g ← after_word (codes "lost") done.1
  last ← one_word g
  lost ← number_of last
  Some (accepted.0, done.0, lost)

-- BAR k of several of device d
abbrev pub bar_word : ℕ → ℕ → List (List ℕ) → Option (List ℕ)
bar_word d k words = do
  a ← after_word (codes "bar") words
  named_word (decimal d) k a

-- a pending request of device d, which has so many jobs
abbrev pub pending_of : ℕ → ℕ → List (List ℕ) → Option (ℕ × ℕ)
pending_of d jobs words = do
  a ← after_word (codes "pend") words
  b ← after_word (decimal d) a
  both ← two_words b
  number ← number_of both.0
  job ← number_of both.1
  if nat_lt job jobs then Some (number, job) else None
