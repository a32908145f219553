-- Pairs in bytes and out of them.
use Rattle.std.proofs.Common.{◌≡◌, ℕ, zero, suc, ◌+◌, ◌*◌, ◌<◌, ◌≤◌, List, [], ◌∷◌, ◌++◌, length, get_or, take, drop, refl, sym, ap, ◌∙◌, arith}
use Rattle.std.specs.List.{flat_map, AllByRecursion}
use Rattle.std.specs.Int.{w16, w32, to_be_bytes}
use Rattle.std.proofs.lemmas.List.{length-drop, take-append-drop}
use Rattle.std.proofs.lemmas.Nat.{from_be_bytes-to_be_bytes_4}
use Rattle.std.proofs.Math.Seq.{take-add}
use Rattle.vfm_base.specs.Words.{IsBytes, word_at}
use Rattle.vfm_record.specs.Record.{Pending, record_bytes, pair_bytes, FitsPair, pairs_of}
use Rattle.vfm_base.proofs.NumbersInBytes.{IsBytes-drop, word_32, word-drop}

pub length-pairs_of : (n : ℕ) (bytes : List ℕ) → length (pairs_of n bytes) ≡ n
unfolding pairs_of
length-pairs_of zero bytes = refl
length-pairs_of (suc n) bytes = ap (λ k. suc k) (length-pairs_of n (drop 8 bytes))

-- the first pair encodes the first eight bytes
pair_encoded : (bytes : List ℕ) → 8 ≤ length bytes → IsBytes bytes
    → pair_bytes (word_at w32 0 bytes, word_at w32 4 bytes) ≡ take 8 bytes
pair_encoded bytes long fits =
    let number = word_32 0 bytes (omega arith) fits in
    let job = word_32 4 bytes (omega arith) fits in
    ap (λ (l : List ℕ). l ++ to_be_bytes w32 (word_at w32 4 bytes)) number.0
    ∙ ap (λ (l : List ℕ). take 4 (drop 0 bytes) ++ l) job.0
    ∙ sym (take-add 4 4 bytes)

pub pairs_encoded : (n : ℕ) (bytes : List ℕ) → length bytes ≡ 8 * n → IsBytes bytes → flat_map pair_bytes (pairs_of n bytes) ≡ bytes
unfolding pairs_of
pairs_encoded zero [] len fits = refl
pairs_encoded zero (byte ∷ bytes) len fits = absurd (omega arith)
pairs_encoded (suc n) bytes len fits =
    let rest : length (drop 8 bytes) ≡ 8 * n = omega (arith, length-drop 8 bytes) in
    let long : 8 ≤ length bytes = omega arith in
    ap (λ (l : List ℕ). l ++ flat_map pair_bytes (pairs_of n (drop 8 bytes))) (pair_encoded bytes long fits)
    ∙ ap (λ (l : List ℕ). take 8 bytes ++ l) (pairs_encoded n (drop 8 bytes) rest (IsBytes-drop 8 bytes fits))
    ∙ take-append-drop 8 bytes

pub pairs_fit : (n : ℕ) (bytes : List ℕ) → length bytes ≡ 8 * n → IsBytes bytes → AllByRecursion FitsPair (pairs_of n bytes)
unfolding pairs_of
pairs_fit zero bytes len fits = tt
pairs_fit (suc n) bytes len fits =
    let rest : length (drop 8 bytes) ≡ 8 * n = omega (arith, length-drop 8 bytes) in
    let number = word_32 0 bytes (omega arith) fits in
    let job = word_32 4 bytes (omega arith) fits in
    ((number.1, job.1), pairs_fit n (drop 8 bytes) rest (IsBytes-drop 8 bytes fits))

-- a count and the bytes after it encode as many pairs
pub pending_encoded : (count : ℕ) (bytes : List ℕ) → length bytes ≡ 8 * count → IsBytes bytes
    → (4 ∷ to_be_bytes w16 count) ++ bytes ≡ record_bytes (Pending (pairs_of count bytes))
pending_encoded count bytes len fits =
    sym (
    ap (λ (n : ℕ). (4 ∷ to_be_bytes w16 n) ++ flat_map pair_bytes (pairs_of count bytes)) (length-pairs_of count bytes)
    ∙ ap (λ (l : List ℕ). (4 ∷ to_be_bytes w16 count) ++ l) (pairs_encoded count bytes len fits)
    )

-- what is encoded is read
pub pairs_again : (pairs : List (ℕ × ℕ)) → AllByRecursion FitsPair pairs → pairs_of (length pairs) (flat_map pair_bytes pairs) ≡ pairs
unfolding pairs_of word_at
pairs_again [] fits = refl
pairs_again (pair ∷ pairs) fits =
    let number = from_be_bytes-to_be_bytes_4 pair.0 fits.0.0 in
    let job = from_be_bytes-to_be_bytes_4 pair.1 fits.0.1 in
    let rest = pairs_again pairs fits.1 in
    rw (number, job, rest) refl

-- each pair by its number
pub pair_of : (n i : ℕ) (bytes : List ℕ) (d : ℕ × ℕ) → i < n
    → get_or (pairs_of n bytes) i d ≡ (word_at w32 (8 * i) bytes, word_at w32 (8 * i + 4) bytes)
unfolding pairs_of
pair_of zero i bytes d h = absurd (omega arith)
pair_of (suc n) zero bytes d h = refl
pair_of (suc n) (suc i) bytes d h =
    let below : i < n = omega arith in
    let here : 8 + 8 * i ≡ 8 * suc i = omega arith in
    let behind : 8 + (8 * i + 4) ≡ 8 * suc i + 4 = omega arith in
    pair_of n i (drop 8 bytes) d below
    ∙ rw (word-drop w32 (8 * i) 8 bytes, word-drop w32 (8 * i + 4) 8 bytes, here, behind) refl

pub pairs_len : (pairs : List (ℕ × ℕ)) → length (flat_map pair_bytes pairs) ≡ 8 * length pairs
pairs_len [] = refl
pairs_len (pair ∷ pairs) = omega (arith, pairs_len pairs)

-- as many bytes after the count
pub pending_len : (count : ℕ) (bytes : List ℕ) → length bytes ≡ 8 * count → length (record_bytes (Pending (pairs_of count bytes))) ≡ 3 + length bytes
pending_len count bytes len = omega (arith, len, pairs_len (pairs_of count bytes), length-pairs_of count bytes)
