-- Lists and what is read of each of their elements.
use Rattle.std.proofs.Common.{◌≡◌, ◌∙◌, refl, sym, ap, ap₂, subst, ℕ, zero, suc, ◌<◌, List, [], ◌∷◌, ◌++◌, length, map, take, drop, slice_index_or, arith, append_assoc}
use Rattle.std.specs.Prelude.{All}
use Rattle.vfm_intake.proofs.Elements.{each-more}
use Rattle.vfm_dest.proofs.Hearing.{map-more}

-- ---- one element more

module _ {X : Type 0} (xs now : List X) (x : X) (pushed : now ≡ xs ++ x ∷ []) where
  -- what is read of all
  pub read-more : {Y : Type 0} (f : X → Y) (ys : List Y) (y : Y) → map f xs ≡ ys → f x ≡ y → map f now ≡ ys ++ y ∷ []
  read-more f ys y all one = ap (map f) pushed ∙ map-more f xs x ∙ ap₂ (λ (l : List _) (z : _). l ++ z ∷ []) all one

  -- the same where the element comes off the others
  pub read-next : {Y : Type 0} (f : X → Y) (rest left all : List Y) (y : Y) → map f xs ++ rest ≡ all → rest ≡ y ∷ left → f x ≡ y
      → map f now ++ left ≡ all
  read-next f rest left all y before first one =
      ap (λ (l : List _). l ++ left) (read-more f (map f xs) y refl one)
      ∙ append_assoc (map f xs) (y ∷ []) left
      ∙ ap (λ (l : List _). map f xs ++ l) (sym first)
      ∙ before

  pub all-more : (P : X → Type 0) → All P xs → P x → All P now
  all-more P all one = subst (All P) (sym pushed) (each-more (λ k. P) xs x all one)

-- what was read of each comes behind what was read of the others
pub kept-more : {X Y : Type 0} (f : X → Y) (xs : List X) (x : X) (ys now : List Y) (y : Y) → now ≡ ys ++ y ∷ [] → ys ≡ map f xs → y ≡ f x
    → now ≡ map f (xs ++ x ∷ [])
kept-more f xs x ys now y pushed all one = pushed ∙ ap₂ (λ (l : List _) (z : _). l ++ z ∷ []) all one ∙ sym (map-more f xs x)

-- ---- by their places

-- what is read twice
pub read-twice : {X Y Z : Type 0} (f : X → Y) (g : Y → Z) (xs : List X) (k : ℕ) (d : X) (e : Z) → k < length xs
    → slice_index_or (map g (map f xs)) k e ≡ g (f (slice_index_or xs k d))
read-twice f g [] k d e low = absurd (omega (arith, low))
read-twice f g (x ∷ xs) zero d e low = refl
read-twice f g (x ∷ xs) (suc k) d e low = read-twice f g xs k d e (omega (arith, low))

pub read-once : {X Y : Type 0} (f : X → Y) (xs : List X) (k : ℕ) (d : X) (e : Y) → k < length xs
    → slice_index_or (map f xs) k e ≡ f (slice_index_or xs k d)
read-once f [] k d e low = absurd (omega (arith, low))
read-once f (x ∷ xs) zero d e low = refl
read-once f (x ∷ xs) (suc k) d e low = read-once f xs k d e (omega (arith, low))

-- the same is read of two lists where it is at each place
pub same-read : {X Y : Type 0} (f : X → Y) (xs now : List X) → length now ≡ length xs
    → ((k : ℕ) (d : X) → k < length xs → f (slice_index_or now k d) ≡ f (slice_index_or xs k d)) → map f now ≡ map f xs
same-read f [] [] same each = refl
same-read f [] (y ∷ now) same each = absurd (omega (arith, same))
same-read f (x ∷ xs) [] same each = absurd (omega (arith, same))
same-read f (x ∷ xs) (y ∷ now) same each =
    ap₂ (λ (z : _) (l : List _). z ∷ l) (each 0 x (omega arith))
    (same-read f xs now (omega (arith, same)) (λ k d low. each (suc k) d (omega (arith, low))))

-- what holds of what is read at each place
pub each-read : {X Y : Type 0} (f : X → Y) (P : ℕ → Y → Type 0) (xs : List X) → ((k : ℕ) (d : X) → k < length xs → P k (f (slice_index_or xs k d)))
    → (k : ℕ) (e : Y) → k < length (map f xs) → P k (slice_index_or (map f xs) k e)
each-read f P [] each k e low = absurd (omega (arith, low))
each-read f P (x ∷ xs) each zero e low = each 0 x (omega arith)
each-read f P (x ∷ xs) each (suc k) e low =
    each-read f (λ j. P (suc j)) xs (λ j d inside. each (suc j) d (omega (arith, inside))) k e (omega (arith, low))

-- values that there are at each place of two lists, as one list
pub record Chosen {X Y : Type 0} (R : ℕ → X → X → Y → Type 0) (xs now : List X) : Type 0 where
  pub values : List Y
  pub count : length values ≡ length xs
  pub each : (k : ℕ) (d : X) (e : Y) → k < length xs → R k (slice_index_or xs k d) (slice_index_or now k d) (slice_index_or values k e)

-- where there is one of two elements
pub record One {X Y : Type 0} (R : ℕ → X → X → Y → Type 0) (k : ℕ) (x now : X) : Type 0 where
  pub value : Y
  pub is : R k x now value

-- one place more at the start
chosen-first : {X Y : Type 0} (R : ℕ → X → X → Y → Type 0) (x y : X) (xs now : List X) → One R 0 x y → Chosen (λ k. R (suc k)) xs now
    → Chosen R (x ∷ xs) (y ∷ now)
chosen-first {X} {Y} R x y xs now one rest = record { values = one.value ∷ rest.values; count = ap suc rest.count; each = both }
  where
    both : (k : ℕ) (d : X) (e : Y) → k < length (x ∷ xs)
        → R k (slice_index_or (x ∷ xs) k d) (slice_index_or (y ∷ now) k d) (slice_index_or (one.value ∷ rest.values) k e)
    both zero d e low = one.is
    both (suc k) d e low = rest.each k d e (omega (arith, low))

-- what there is of the places behind the first
one-next : {X Y : Type 0} (R : ℕ → X → X → Y → Type 0) (k : ℕ) (x now : X) → One R (suc k) x now → One (λ j. R (suc j)) k x now
one-next R k x now one = record { value = one.value; is = one.is }

pub chosen : {X Y : Type 0} (R : ℕ → X → X → Y → Type 0) (xs now : List X) → length now ≡ length xs
    → ((k : ℕ) (d : X) → k < length xs → One R k (slice_index_or xs k d) (slice_index_or now k d)) → Chosen R xs now
chosen R [] now same each = record { values = []; count = refl; each = λ k d e low. absurd (omega (arith, low)) }
chosen R (x ∷ xs) [] same each = absurd (omega (arith, same))
chosen R (x ∷ xs) (y ∷ now) same each =
    chosen-first R x y xs now (each 0 x (omega arith))
    (chosen (λ k. R (suc k)) xs now (omega (arith, same))
    (λ k d low. one-next R k (slice_index_or xs k d) (slice_index_or now k d) (each (suc k) d (omega (arith, low)))))

-- ---- what was lent of a vector comes back

pub whole-again : {X : Type 0} (n : ℕ) (now old : List X) → length now ≡ n → length old ≡ n → take n (now ++ drop (length now) old) ≡ now
whole-again zero [] old same count = refl
whole-again zero (x ∷ now) old same count = absurd (omega (arith, same))
whole-again (suc n) [] old same count = absurd (omega (arith, same))
whole-again (suc n) (x ∷ now) [] same count = absurd (omega (arith, count))
whole-again (suc n) (x ∷ now) (y ∷ old) same count =
    ap (λ (l : List _). x ∷ l) (whole-again n now old (omega (arith, same)) (omega (arith, count)))
