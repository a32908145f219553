-- Numbers in words: decimal, without a leading zero.
use Rattle.std.specs.Prelude.{ℕ, ◌^◌, ◌&&◌, nat_lt, List, Option, Some, None, decimal, if◌then◌else◌}
use Rattle.std.specs.Str.Parse.{digits_value}
use Rattle.vfm_report.specs.Same.{same_text}

-- the number below a bound, if it is one that has this text
unfoldable pub number_below : ℕ → List ℕ → Option ℕ
number_below bound word =
    if same_text (decimal (digits_value 10 word)) word && nat_lt (digits_value 10 word) bound then Some (digits_value 10 word)
    else None

-- a number of 64 bits
abbrev pub long_number : List ℕ → Option ℕ
long_number word = number_below (2 ^ 64) word

-- a number of 32 bits
abbrev pub number_of : List ℕ → Option ℕ
number_of word = number_below (2 ^ 32) word

-- a device, which has 8 bits
abbrev pub device_of : List ℕ → Option ℕ
device_of word = number_below (2 ^ 8) word
