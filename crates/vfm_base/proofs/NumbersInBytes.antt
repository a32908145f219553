-- Numbers in bytes and out of them.
use Rattle.std.proofs.Common.{◌≡◌, ℕ, ◌+◌, ◌^◌, ◌<◌, ◌≤◌, List, ◌++◌, length, take, drop, refl, ap, ◌∙◌, inl, inr, arith}
use Rattle.std.specs.Int.{Width, w16, w32, w64, byte_len, from_be_bytes, to_be_bytes}
use Rattle.std.proofs.lemmas.Bool.{cases_lt}
use Rattle.std.proofs.lemmas.List.{length-take, length-drop, drop-drop, take-append-le, drop-append-le, get_or-drop, get_or-take, get_or_past}
use Rattle.std.proofs.lemmas.Nat.{be_bytes_2, be_bytes_4, be_bytes_8}
use Rattle.vfm_base.specs.Words.{IsBytes, word_at}

pub IsBytes-drop : (n : ℕ) (bytes : List ℕ) → IsBytes bytes → IsBytes (drop n bytes)
IsBytes-drop n bytes h i = rw get_or-drop (h (n + i))

pub IsBytes-take : (n : ℕ) (bytes : List ℕ) → IsBytes bytes → IsBytes (take n bytes)
IsBytes-take n bytes h i =
    elim (cases_lt i n) [
      | inl lt ↦ rw (get_or-take n bytes i 0 lt) (h i)
      | inr le ↦ rw (get_or_past (take n bytes) i 0 (omega (arith, length-take n bytes))) (omega arith)
    ]

-- the bytes from a place on, of which there are as many
pub piece_len : (n place : ℕ) (bytes : List ℕ) → place + n ≤ length bytes → length (take n (drop place bytes)) ≡ n
piece_len n place bytes h = omega (arith, length-take n (drop place bytes), length-drop place bytes)

pub IsBytes-piece : (n place : ℕ) (bytes : List ℕ) → IsBytes bytes → IsBytes (take n (drop place bytes))
IsBytes-piece n place bytes h = IsBytes-take n (drop place bytes) (IsBytes-drop place bytes h)

-- ---- the number that stands at a place fits, and encodes the bytes that stand there

pub word_16 : (place : ℕ) (bytes : List ℕ) → place + 2 ≤ length bytes → IsBytes bytes
    → (to_be_bytes w16 (word_at w16 place bytes) ≡ take 2 (drop place bytes)) × (word_at w16 place bytes < 2 ^ 16)
unfolding word_at
word_16 place bytes h fits =
    let piece = take 2 (drop place bytes) in
    let each = IsBytes-piece 2 place bytes fits in
    (be_bytes_2 piece _ (piece_len 2 place bytes h) each refl, omega (arith, each 0, each 1))

pub word_32 : (place : ℕ) (bytes : List ℕ) → place + 4 ≤ length bytes → IsBytes bytes
    → (to_be_bytes w32 (word_at w32 place bytes) ≡ take 4 (drop place bytes)) × (word_at w32 place bytes < 2 ^ 32)
unfolding word_at
word_32 place bytes h fits =
    let piece = take 4 (drop place bytes) in
    let each = IsBytes-piece 4 place bytes fits in
    (be_bytes_4 piece _ (piece_len 4 place bytes h) each refl, omega (arith, each 0, each 1, each 2, each 3))

pub word_64 : (place : ℕ) (bytes : List ℕ) → place + 8 ≤ length bytes → IsBytes bytes
    → (to_be_bytes w64 (word_at w64 place bytes) ≡ take 8 (drop place bytes)) × (word_at w64 place bytes < 2 ^ 64)
unfolding word_at
word_64 place bytes h fits =
    let piece = take 8 (drop place bytes) in
    let each = IsBytes-piece 8 place bytes fits in (
      be_bytes_8 piece _ (piece_len 8 place bytes h) each refl,
      omega (arith, each 0, each 1, each 2, each 3, each 4, each 5, each 6, each 7),
    )

-- a number after some bytes
pub word-drop : (w : Width) (place n : ℕ) (bytes : List ℕ) → word_at w place (drop n bytes) ≡ word_at w (n + place) bytes
unfolding word_at
word-drop w place n bytes = ap (λ (l : List ℕ). from_be_bytes w (take (byte_len w) l)) (drop-drop place n bytes)

-- what follows doesn't matter
pub word_stays : (w : Width) (place : ℕ) (bytes more : List ℕ) → place + byte_len w ≤ length bytes → word_at w place (bytes ++ more) ≡ word_at w place bytes
unfolding word_at
word_stays w place bytes more h =
    let piece : take (byte_len w) (drop place (bytes ++ more)) ≡ take (byte_len w) (drop place bytes) =
    ap (λ (l : List ℕ). take (byte_len w) l) (drop-append-le place bytes more (omega arith))
    ∙ take-append-le (byte_len w) (drop place bytes) more (omega (arith, length-drop place bytes)) in
    ap (from_be_bytes w) piece
