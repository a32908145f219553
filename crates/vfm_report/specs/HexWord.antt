-- Bytes in words: two lower-case hex digits each.
use Rattle.std.specs.Prelude.{ℕ, ◌+◌, ◌-◌, ◌*◌, ◌==◌, ◌&&◌, ◌||◌, Bool, nat_le, List, [], ◌∷◌, length, if◌then◌else◌}
use Rattle.std.specs.List.{list_all}

-- a digit, its letters in lower case
abbrev pub is_low_digit : ℕ → Bool
is_low_digit c = (nat_le 48 c && nat_le c 57) || (nat_le 97 c && nat_le c 102)

-- what the digit is worth
abbrev pub low_digit : ℕ → ℕ
low_digit c = if nat_le c 57 then c - 48 else c - 87

-- a word of the digits of so many bytes
abbrev pub is_hex : ℕ → List ℕ → Bool
is_hex size word = length word == 2 * size && list_all is_low_digit word

-- the bytes that such a word has
unfoldable pub hex_value : List ℕ → List ℕ
hex_value [] = []
hex_value (high ∷ []) = []
hex_value (high ∷ low ∷ rest) = (low_digit high * 16 + low_digit low) ∷ hex_value rest
