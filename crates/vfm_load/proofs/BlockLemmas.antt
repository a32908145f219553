-- Bytes put in place of a block, and what stands at each block then.
use Rattle.std.proofs.Common.{◌≡◌, ℕ, ◌+◌, ◌-◌, ◌*◌, ◌<◌, ◌≤◌, List, ◌++◌, length, take, drop, get_or, ap, sym, ◌∙◌, arith, ◌⊎◌, inl, inr, append_assoc, length-append}
use Rattle.std.proofs.lemmas.Bool.{cases_order}
use Rattle.std.proofs.lemmas.List.{length-take, length-drop, length-take-le, get_or_append_left, get_or-append_right, get_or-take, get_or-drop, ext_get_or}
use Rattle.std.proofs.Math.Seq.{take-append_seam, drop-append_seam}
use Rattle.vfm_types.specs.Machine.{splice}
use Rattle.vfm_plain.proofs.Steps.{length-splice}

-- what was put stands where it was put
put_here : (old : List ℕ) (offset : ℕ) (bytes : List ℕ) → offset + length bytes ≤ length old
    → take (length bytes) (drop offset (splice old offset bytes)) ≡ bytes
put_here old offset bytes within =
    let front : length (take offset old) ≡ offset = length-take-le offset old (omega arith) in
    let rest = drop (offset + length bytes) old in
    ap (λ (xs : List ℕ). take (length bytes) (drop offset xs)) (append_assoc (take offset old) bytes rest)
    ∙ ap (λ (n : ℕ). take (length bytes) (drop n (take offset old ++ (bytes ++ rest)))) (sym front)
    ∙ ap (take (length bytes)) (drop-append_seam (take offset old) (bytes ++ rest))
    ∙ take-append_seam bytes rest

-- the bytes before what was put, and those behind it
put_before : (old : List ℕ) (offset : ℕ) (bytes : List ℕ) (j : ℕ) → offset + length bytes ≤ length old → j < offset
    → get_or (splice old offset bytes) j 0 ≡ get_or old j 0
put_before old offset bytes j fits low =
    let front : length (take offset old) ≡ offset = length-take-le offset old (omega arith) in
    get_or_append_left (take offset old ++ bytes) (drop (offset + length bytes) old) 0 j (omega (arith, front, length-append (take offset old) bytes))
    ∙ get_or_append_left (take offset old) bytes 0 j (omega (arith, front))
    ∙ get_or-take offset old j 0 low

put_behind : (old : List ℕ) (offset : ℕ) (bytes : List ℕ) (j : ℕ) → offset + length bytes ≤ length old → offset + length bytes ≤ j
    → get_or (splice old offset bytes) j 0 ≡ get_or old j 0
put_behind old offset bytes j fits high =
    let front : length (take offset old) ≡ offset = length-take-le offset old (omega arith) in
    let both : length (take offset old ++ bytes) ≡ offset + length bytes = omega (arith, front, length-append (take offset old) bytes) in
    get_or-append_right (take offset old ++ bytes) (drop (offset + length bytes) old) (offset + length bytes) j 0 both high
    ∙ get_or-drop (offset + length bytes) old (j - (offset + length bytes)) 0
    ∙ ap (λ (k : ℕ). get_or old k 0) (omega arith)

-- a piece that lies before what was put or behind it
put_away : (old : List ℕ) (offset : ℕ) (bytes : List ℕ) (from size : ℕ) → offset + length bytes ≤ length old
    → (from + size ≤ offset) ⊎ (offset + length bytes ≤ from)
    → take size (drop from (splice old offset bytes)) ≡ take size (drop from old)
put_away old offset bytes from size fits away =
    ext_get_or 0 (take size (drop from (splice old offset bytes))) (take size (drop from old)) lengths each
  where
    same : length (splice old offset bytes) ≡ length old
    same = length-splice old offset bytes fits

    lengths : length (take size (drop from (splice old offset bytes))) ≡ length (take size (drop from old))
    lengths = omega (arith, same, length-take size (drop from (splice old offset bytes)), length-drop from (splice old offset bytes), length-take size (drop from old), length-drop from old)

    at : (xs : List ℕ) (i : ℕ) → i < size → get_or (take size (drop from xs)) i 0 ≡ get_or xs (from + i) 0
    at xs i inside = get_or-take size (drop from xs) i 0 inside ∙ get_or-drop from xs i 0

    there : (i : ℕ) → i < size → (from + size ≤ offset) ⊎ (offset + length bytes ≤ from) → get_or (splice old offset bytes) (from + i) 0 ≡ get_or old (from + i) 0
    there i low (inl before) = put_before old offset bytes (from + i) fits (omega arith)
    there i low (inr behind) = put_behind old offset bytes (from + i) fits (omega arith)

    each : (i : ℕ) → i < length (take size (drop from (splice old offset bytes)))
        → get_or (take size (drop from (splice old offset bytes))) i 0 ≡ get_or (take size (drop from old)) i 0
    each i inside =
        let low : i < size = omega (arith, length-take size (drop from (splice old offset bytes))) in
        at (splice old offset bytes) i low ∙ there i low away ∙ sym (at old i low)

-- block b after other bytes were put there
pub block_here : (old : List ℕ) (b : ℕ) (bytes : List ℕ) → length bytes ≡ 64 → 64 * b + 64 ≤ length old
    → take 64 (drop (64 * b) (splice old (64 * b) bytes)) ≡ bytes
block_here old b bytes size within =
    ap (λ (n : ℕ). take n (drop (64 * b) (splice old (64 * b) bytes))) (sym size) ∙ put_here old (64 * b) bytes (omega arith)

-- another block
pub block_away : (old : List ℕ) (b c : ℕ) (bytes : List ℕ) → length bytes ≡ 64 → 64 * b + 64 ≤ length old → (b ≡ c → ⊥)
    → take 64 (drop (64 * c) (splice old (64 * b) bytes)) ≡ take 64 (drop (64 * c) old)
block_away old b c bytes size within other = put_away old (64 * b) bytes (64 * c) 64 (omega arith) (aside (cases_order b c))
  where
    aside : (b ≡ c) ⊎ ((b < c) ⊎ (c < b)) → (64 * c + 64 ≤ 64 * b) ⊎ (64 * b + length bytes ≤ 64 * c)
    aside (inl same) = absurd (other same)
    aside (inr (inl below)) = inr (omega arith)
    aside (inr (inr above)) = inl (omega arith)
