-- Tests over the numbers below a bound: what is the least that passes, and tests that agree.
use Rattle.std.proofs.Common.{◌≡◌, ℕ, zero, suc, ◌+◌, ◌<◌, ◌≤◌, Bool, true, false, ◌&&◌, if◌then◌else◌, [], ◌∷◌, length, get_or, Option, Some, None, refl, ap, sym, ◌∙◌, subst, arith, length-append, nat_lt, ltb-true}
use Rattle.std.proofs.lemmas.Bool.{ltb-false}
use Rattle.vfm_base.specs.Least.{all_below, count_below, least_below, least_from}
use Rattle.vfm_base.specs.PageSet.{numbers_where}
use Rattle.vfm_base.proofs.NumbersWhere.{numbers_where-add}
use Rattle.vfm_laws.proofs.Walks.{some_none}
use Rattle.vfm_laws.proofs.Rising.{by_bool}
use Rattle.vfm_order.specs.LookAfter.{eight}

-- each of the eight places
pub eight_at : {X : Type 0} (f : ℕ → X) (d : ℕ) (x : X) → d < 8 → get_or (eight f) d x ≡ f d
eight_at f zero x below = refl
eight_at f (suc zero) x below = refl
eight_at f (suc (suc zero)) x below = refl
eight_at f (suc (suc (suc zero))) x below = refl
eight_at f (suc (suc (suc (suc zero)))) x below = refl
eight_at f (suc (suc (suc (suc (suc zero))))) x below = refl
eight_at f (suc (suc (suc (suc (suc (suc zero)))))) x below = refl
eight_at f (suc (suc (suc (suc (suc (suc (suc zero))))))) x below = refl
eight_at f (suc (suc (suc (suc (suc (suc (suc (suc d)))))))) x below = absurd (omega arith)

pub some_is : {X : Type 0} (a b : X) → Some a ≡ Some b → a ≡ b
some_is a b same = cc

-- what the least number is that passes
pub record IsLeast (n : ℕ) (test : ℕ → Bool) (d : ℕ) : Type 0 where
  pub inside : d < n
  pub passes : test d ≡ true

least_from_is : (i n d : ℕ) (test : ℕ → Bool) → least_from i n test ≡ Some d → (d < i + n) × (test d ≡ true)
least_from_is i zero d test found = absurd (some_none d (sym found))
least_from_is i (suc n) d test found =
    by_bool (test i) (λ b. test i ≡ b → (if b then Some i else least_from (i + 1) n test) ≡ Some d → (d < i + suc n) × (test d ≡ true))
    (λ passes e h. let same : i ≡ d = some_is i d h in (omega arith, subst (λ (k : ℕ). test k ≡ true) same e))
    (λ fails e h. let rest = least_from_is (i + 1) n d test h in let low : d < i + 1 + n = rest.0 in (omega arith, rest.1))
    refl found

pub least_is : (n : ℕ) (test : ℕ → Bool) (d : ℕ) → least_below n test ≡ Some d → IsLeast n test d
least_is n test d found =
    let parts = least_from_is 0 n d test found in
    let low : d < 0 + n = parts.0 in record { inside = omega arith; passes = parts.1 }

least_from_fails : (i n k : ℕ) (test : ℕ → Bool) → least_from i n test ≡ None → i ≤ k → k < i + n → test k ≡ false
least_from_fails i zero k test none low high = absurd (omega arith)
least_from_fails i (suc n) k test none low high =
    by_bool (test i) (λ b. test i ≡ b → (if b then Some i else least_from (i + 1) n test) ≡ None → test k ≡ false)
    (λ passes e h. absurd (some_none i h))
    (λ fails e h.
    by_bool (nat_lt i k) (λ b. nat_lt i k ≡ b → test k ≡ false)
    (λ later f. let after : i < k = ltb-true i k f in least_from_fails (i + 1) n k test h (omega arith) (omega arith))
    (λ here f. let before : k ≤ i = ltb-false i k f in let same : i ≡ k = omega arith in subst (λ (j : ℕ). test j ≡ false) same e)
    refl)
    refl none

-- where none passes, each fails
pub least_fails : (n : ℕ) (test : ℕ → Bool) (k : ℕ) → least_below n test ≡ None → k < n → test k ≡ false
least_fails n test k none below = least_from_fails 0 n k test none (omega arith) (omega arith)

-- tests that agree below a bound
pub all_below_same : (n : ℕ) (f g : ℕ → Bool) → ((k : ℕ) → k < n → f k ≡ g k) → all_below n f ≡ all_below n g
all_below_same zero f g same = refl
all_below_same (suc n) f g same =
    ap (λ (b : Bool). b && f n) (all_below_same n f g (λ k below. same k (omega arith))) ∙ ap (λ (b : Bool). all_below n g && b) (same n (omega arith))

pub least_from_same : (i n : ℕ) (f g : ℕ → Bool) → ((k : ℕ) → k < i + n → f k ≡ g k) → least_from i n f ≡ least_from i n g
least_from_same i zero f g same = refl
least_from_same i (suc n) f g same =
    ap (λ (b : Bool). if b then Some i else least_from (i + 1) n f) (same i (omega arith))
    ∙ ap (λ (o : Option ℕ). if g i then Some i else o) (least_from_same (i + 1) n f g (λ k below. same k (omega arith)))

pub least_below_same : (n : ℕ) (f g : ℕ → Bool) → ((k : ℕ) → k < n → f k ≡ g k) → least_below n f ≡ least_below n g
least_below_same n f g same = least_from_same 0 n f g (λ k below. same k (omega arith))

-- the list of the numbers that pass is as long as they are many
pub length_where : (n : ℕ) (test : ℕ → Bool) → length (numbers_where test 0 n) ≡ count_below n test
length_where zero test = refl
length_where (suc n) test =
    let more : suc n ≡ n + 1 = omega arith in
    let zero_first : 0 + n ≡ n = omega arith in
    ap (λ (k : ℕ). length (numbers_where test 0 k)) more
    ∙ ap (length {A = ℕ}) (numbers_where-add test 0 n 1)
    ∙ length-append (numbers_where test 0 n) (numbers_where test (0 + n) 1)
    ∙ ap (λ (k : ℕ). length (numbers_where test 0 n) + length (numbers_where test k 1)) zero_first
    ∙ by_bool (test n) (λ b. length (numbers_where test 0 n) + length (if b then n ∷ [] else []) ≡ count_below n test + (if b then 1 else 0))
    (λ passes. ap (λ (k : ℕ). k + 1) (length_where n test)) (λ fails. ap (λ (k : ℕ). k + 0) (length_where n test))
