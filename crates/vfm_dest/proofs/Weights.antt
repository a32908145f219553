-- How many parcels of a stream are left in a mesh.
use Rattle.std.proofs.Common.{◌≡◌, refl, sym, ap, subst, ℕ, zero, suc, ◌+◌, ◌<◌, ◌≤◌, List, length, arith, ⊎_elim}
use Rattle.std.proofs.lemmas.Bool.{cases_eq, cases_lt}
use Rattle.vfm_mesh.specs.declared.parcel.Parcel.{Parcel}
use Rattle.vfm_mesh.specs.declared.rest.Rest.{Rest}
use Rattle.vfm_mesh.specs.Meshes.{channels_left, left, Gives}

-- how many the first n lists have together
abbrev pub total : ℕ → (ℕ → List Parcel) → ℕ
total zero lists = 0
total (suc n) lists = length (lists n) + total n lists

-- how many are left of a stream
abbrev pub left_count : Rest → ℕ → ℕ
left_count rest s = total (channels_left rest) (λ k. left rest k s)

total-same : (n : ℕ) (f g : ℕ → List Parcel) → ((k : ℕ) → k < n → g k ≡ f k) → total n g ≡ total n f
total-same zero f g same = refl
total-same (suc n) f g same =
    let rest : total n g ≡ total n f = total-same n f g (λ k low. same k (omega (arith, low))) in
    let one : length (g n) ≡ length (f n) = ap (λ (l : List Parcel). length l) (same n (omega arith)) in
    omega (arith, rest, one)

-- what is below n + 1 and isn't n is below n
pub below-of : (n i : ℕ) → i < suc n → (n ≡ i → ⊥) → i < n
below-of n i low away =
    ⊎_elim (λ (below : i < n). below) (λ (above : n ≤ i). absurd (away (omega (arith, low, above)))) (cases_lt i n)

-- one list has one less, and the others are the same
total-falls : (n : ℕ) (f g : ℕ → List Parcel) (i : ℕ) → i < n → length (f i) ≡ suc (length (g i)) → ((k : ℕ) → (k ≡ i → ⊥) → g k ≡ f k)
    → suc (total n g) ≡ total n f
total-falls zero f g i low less others = absurd (omega (arith, low))
total-falls (suc n) f g i low less others =
    ⊎_elim
    (λ (same : n ≡ i).
    let one : length (f n) ≡ suc (length (g n)) = subst (λ (k : ℕ). length (f k) ≡ suc (length (g k))) (sym same) less in
    let rest : total n g ≡ total n f = total-same n f g (λ k below. others k (λ e. absurd (omega (arith, below, e, same)))) in
    omega (arith, one, rest))
    (λ (away : n ≡ i → ⊥).
    let one : length (g n) ≡ length (f n) = ap (λ (l : List Parcel). length l) (others n away) in
    let rest : suc (total n g) ≡ total n f = total-falls n f g i (below-of n i low away) less others in
    omega (arith, one, rest)) (cases_eq n i)

-- where a parcel of the stream was given, one less is left
pub left-falls : (before now : Rest) (s : ℕ) (given : ℕ × Parcel) → Gives before now s given → channels_left now ≡ channels_left before
    → left_count now s < left_count before s
left-falls before now s given gives channels =
    let falls : suc (total (channels_left before) (λ k. left now k s)) ≡ left_count before s =
    total-falls (channels_left before) (λ k. left before k s) (λ k. left now k s) given.0 gives.channel
    (ap (λ (l : List Parcel). length l) gives.first) (λ k away. gives.others k s (λ e f. away e)) in
    subst (λ (n : ℕ). total n (λ k. left now k s) < left_count before s) (sym channels) (omega (arith, falls))
