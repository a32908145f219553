-- Lists cut into pieces, and put together again.
use Rattle.std.proofs.Common.{◌≡◌, ℕ, zero, suc, ◌+◌, ◌-◌, ◌*◌, ◌<◌, ◌≤◌, List, [], ◌∷◌, ◌++◌, length, take, drop, refl, ap, sym, ◌∙◌, arith}
use Rattle.std.specs.List.{flat_map, range_with_len}
use Rattle.std.proofs.lemmas.List.{take-append-drop, length-drop, take_all, drop-drop}
use Rattle.vfm_streams.specs.Sent.{chunks}

-- the pieces one behind another
abbrev pub joined : {X : Type 0} → List (List X) → List X
joined [] = []
joined (piece ∷ pieces) = piece ++ joined pieces

-- cut and joined, a list is what it was
pub joined_chunks : {X : Type 0} (most size : ℕ) (xs : List X) → 0 < size → length xs ≤ most → joined (chunks most size xs) ≡ xs
joined_chunks zero size [] some fits = refl
joined_chunks zero size (x ∷ xs) some fits = absurd (omega arith)
joined_chunks (suc most) size [] some fits = refl
joined_chunks (suc most) size (x ∷ xs) some fits =
    ap (λ (rest : List _). take size (x ∷ xs) ++ rest) (joined_chunks most size (drop size (x ∷ xs)) some (shorter (length-drop size (x ∷ xs))))
    ∙ take-append-drop size (x ∷ xs)
  where
    shorter : length (drop size (x ∷ xs)) ≡ suc (length xs) - size → length (drop size (x ∷ xs)) ≤ most
    shorter len = omega arith

-- a front of a list in two parts
take_sum : (a c : ℕ) (ys : List ℕ) → take a ys ++ take c (drop a ys) ≡ take (a + c) ys
take_sum zero c ys = ap (λ (k : ℕ). take k ys) (omega arith)
take_sum (suc a) zero [] = let e : suc a + 0 ≡ suc (a + 0) = omega arith in rw e refl
take_sum (suc a) (suc c) [] = let e : suc a + suc c ≡ suc (a + suc c) = omega arith in rw e refl
take_sum (suc a) c (y ∷ ys) =
    let e : suc a + c ≡ suc (a + c) = omega arith in rw e (ap (λ (rest : List ℕ). y ∷ rest) (take_sum a c ys))

-- bytes cut into so many blocks of a size, counted from one on
blocks_from : (size b n : ℕ) (bytes : List ℕ) → flat_map (λ k. take size (drop (size * k) bytes)) (range_with_len b n) ≡ take (size * n) (drop (size * b) bytes)
blocks_from size b zero bytes = let none : 0 ≡ size * 0 = omega arith in ap (λ (k : ℕ). take k (drop (size * b) bytes)) none
blocks_from size b (suc n) bytes =
    ap (λ (rest : List ℕ). take size (drop (size * b) bytes) ++ rest)
    (blocks_from size (b + 1) n bytes
    ∙ ap (λ (k : ℕ). take (size * n) (drop k bytes)) (times_next size b)
    ∙ ap (take (size * n)) (sym (drop-drop size (size * b) bytes)))
    ∙ take_sum size (size * n) (drop (size * b) bytes)
    ∙ ap (λ (k : ℕ). take k (drop (size * b) bytes)) (times_suc size n)
  where
    times_next : (a c : ℕ) → a * (c + 1) ≡ a * c + a
    times_next a c = grind arith

    times_suc : (a c : ℕ) → a + a * c ≡ a * suc c
    times_suc a c = grind arith

pub all_blocks : (size n : ℕ) (bytes : List ℕ) → length bytes ≡ size * n
    → flat_map (λ k. take size (drop (size * k) bytes)) (range_with_len 0 n) ≡ bytes
all_blocks size n bytes len =
    blocks_from size 0 n bytes ∙ ap (λ (k : ℕ). take (size * n) (drop k bytes)) (none size) ∙ take_all (size * n) bytes (omega arith)
  where
    none : (a : ℕ) → a * 0 ≡ 0
    none a = grind arith
