-- Digits and the bytes that they are of.
use Rattle.std.proofs.Common.{◌≡◌, ℕ, zero, suc, ◌+◌, ◌*◌, ◌/◌, ◌%◌, ◌<◌, ◌&&◌, List, [], ◌∷◌, ◌++◌, length, get_or, drop, true, false, Bool, refl, arith, inl, inr, append-nil}
use Rattle.std.specs.Prelude.{◌==◌, ◌||◌, not}
use Rattle.std.specs.List.{list_all}
use Rattle.std.proofs.lemmas.Bool.{and_parts, and_from, eqb-true, eq-eqb, cases_lt}
use Rattle.std.proofs.lemmas.List.{drop_more}
use Rattle.hex.specs.Hex.{lower_digits, encode_with, encode_lower, IsBytes}
use Rattle.hex.proofs.HexLemmas.{length-encode_with}
use Rattle.vfm_base.specs.Least.{all_below}
use Rattle.vfm_report.specs.HexWord.{is_low_digit, low_digit, is_hex, hex_value}

-- two digits more, where two are left
pub hex_value-more : (word : List ℕ) (i : ℕ) → 2 * i + 1 < length word → hex_value (drop (2 * i) word) ≡ (low_digit (get_or word (2 * i) 0) * 16 + low_digit (get_or word (2 * i + 1) 0)) ∷ hex_value (drop (2 * (i + 1)) word)
unfolding hex_value
hex_value-more word i more =
    let first = drop_more word (2 * i) 0 (omega arith) in
    let second = drop_more word (2 * i + 1) 0 more in
    let next : 2 * (i + 1) ≡ 2 * i + 1 + 1 = omega arith in
    rw (first, second, next) refl

-- each digit of a word of digits is one
pub digit_at : (word : List ℕ) (k : ℕ) → list_all is_low_digit word ≡ true → k < length word → is_low_digit (get_or word k 0) ≡ true
digit_at [] k h lt = absurd (omega arith)
digit_at (c ∷ word) zero h lt = (and_parts (is_low_digit c) (list_all is_low_digit word) h).0
digit_at (c ∷ word) (suc k) h lt = digit_at word k (and_parts (is_low_digit c) (list_all is_low_digit word) h).1 (omega arith)

-- the table's digits, and what they are worth
worth : ℕ → Bool
worth d = is_low_digit (get_or lower_digits d 0) && (low_digit (get_or lower_digits d 0) == d)

named : ℕ → Bool
named c = not (is_low_digit c) || (get_or lower_digits (low_digit c) 0 == c)

below_at : (n : ℕ) (test : ℕ → Bool) (k : ℕ) → all_below n test ≡ true → k < n → test k ≡ true
below_at zero test k h lt = absurd (omega arith)
below_at (suc n) test k h lt =
    let parts = and_parts (all_below n test) (test n) h in
    elim (cases_lt k n) [
      | inl below ↦ below_at n test k parts.0 below
      | inr top ↦ let same : k ≡ n = omega arith in rw same parts.1
    ]

all_worth : all_below 16 worth ≡ true
unfolding worth
all_worth = refl

all_named : all_below 103 named ≡ true
unfolding named
all_named = refl

-- a digit of the table is one
table-digit : (d : ℕ) → d < 16 → is_low_digit (get_or lower_digits d 0) ≡ true
unfolding worth
table-digit d lt = (and_parts (is_low_digit (get_or lower_digits d 0)) _ (below_at 16 worth d all_worth lt)).0

-- and is worth its place
table-worth : (d : ℕ) → d < 16 → low_digit (get_or lower_digits d 0) ≡ d
unfolding worth
table-worth d lt = eqb-true _ _ (and_parts (is_low_digit (get_or lower_digits d 0)) _ (below_at 16 worth d all_worth lt)).1

pub digit-small : (c : ℕ) → is_low_digit c ≡ true → (low_digit c < 16) × (c < 103)
digit-small c h = grind arith

or_second : (x y : Bool) → (not x || y) ≡ true → x ≡ true → y ≡ true
or_second true y h t = h
or_second false y h t = absurd cc

digit-named : (c : ℕ) → is_low_digit c ≡ true → get_or lower_digits (low_digit c) 0 ≡ c
unfolding named
digit-named c h = eqb-true _ _ (or_second (is_low_digit c) _ (below_at 103 named c all_named (digit-small c h).1) h)

bytes-cons : (b : ℕ) (xs : List ℕ) → b < 256 → IsBytes xs → IsBytes (b ∷ xs)
bytes-cons b xs small h zero = small
bytes-cons b xs small h (suc k) = h k

-- the bytes of digits have these digits
pub digits-back : (n : ℕ) (word : List ℕ) → length word ≡ 2 * n → list_all is_low_digit word ≡ true → (encode_lower (hex_value word) ≡ word) × (length (hex_value word) ≡ n) × IsBytes (hex_value word)
unfolding hex_value encode_with
digits-back n [] len h = (refl, omega arith, λ k. omega arith)
digits-back n (a ∷ []) len h = absurd (omega arith)
digits-back zero (a ∷ b ∷ word) len h = absurd (omega arith)
digits-back (suc n) (a ∷ b ∷ word) len h =
    let first = and_parts (is_low_digit a) (list_all is_low_digit (b ∷ word)) h in
    let second = and_parts (is_low_digit b) (list_all is_low_digit word) first.1 in
    let rest = digits-back n word (omega arith) second.1 in
    let x = digit-small a first.0 in
    let y = digit-small b second.0 in
    let high : (low_digit a * 16 + low_digit b) / 16 ≡ low_digit a = omega (arith, x, y) in
    let low : (low_digit a * 16 + low_digit b) % 16 ≡ low_digit b = omega (arith, x, y) in (
      rw (high, low, digit-named a first.0, digit-named b second.0, rest.0) refl,
      omega (arith, rest.1),
      bytes-cons (low_digit a * 16 + low_digit b) (hex_value word) (omega (arith, x, y)) rest.2,
    )

-- the digits of bytes are those of these bytes
pub digits-own : (bytes : List ℕ) → IsBytes bytes → (list_all is_low_digit (encode_lower bytes) ≡ true) × (hex_value (encode_lower bytes) ≡ bytes)
unfolding hex_value encode_with
digits-own [] h = (refl, refl)
digits-own (b ∷ bytes) h =
    let small : b < 256 = h 0 in
    let high : b / 16 < 16 = omega arith in
    let low : b % 16 < 16 = omega arith in
    let rest = digits-own bytes (λ k. h (suc k)) in
    let whole : b / 16 * 16 + b % 16 ≡ b = omega arith in (
      and_from _ _ (table-digit (b / 16) high) (and_from _ _ (table-digit (b % 16) low) rest.0),
      rw (table-worth (b / 16) high, table-worth (b % 16) low, rest.1, whole) refl,
    )

-- a word of the digits of so many bytes
pub is_hex-is : (size : ℕ) (word : List ℕ) → is_hex size word ≡ true → (encode_lower (hex_value word) ≡ word) × (length (hex_value word) ≡ size) × IsBytes (hex_value word)
is_hex-is size word h =
    let parts = and_parts (length word == 2 * size) (list_all is_low_digit word) h in
    digits-back size word (eqb-true _ _ parts.0) parts.1

pub is_hex-own : (size : ℕ) (bytes : List ℕ) → length bytes ≡ size → IsBytes bytes → is_hex size (encode_lower bytes) ≡ true
is_hex-own size bytes len h =
    let two = length-encode_with lower_digits bytes in
    and_from (length (encode_lower bytes) == 2 * size) (list_all is_low_digit (encode_lower bytes)) (eq-eqb _ _ (omega (arith, two, len))) (digits-own bytes h).0

-- such a word is twice as long
pub is_hex-length : (size : ℕ) (word : List ℕ) → is_hex size word ≡ true → length word ≡ 2 * size
is_hex-length size word h = eqb-true _ _ (and_parts (length word == 2 * size) (list_all is_low_digit word) h).0

-- nothing more
pub hex_value-nil : (old : List ℕ) → old ++ hex_value [] ≡ old
unfolding hex_value
hex_value-nil old = append-nil old
