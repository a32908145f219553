-- Tests over the numbers below a bound: the least that passes, and how many do.
use Rattle.std.proofs.Common.{◌≡◌, ℕ, zero, suc, ◌+◌, ◌<◌, ◌≤◌, Bool, true, false, if◌then◌else◌, Option, Some, None, is_none, refl, sym, ap, subst, arith, ⊎_elim}
use Rattle.std.proofs.lemmas.Bool.{or_parts, cases_lt, cases_eq, false≢true}
use Rattle.vfm_base.specs.Least.{any_below, count_below, least_from, least_below}
use Rattle.vfm_plain.specs.Condition.{is_exactly}
use Rattle.vfm_laws.proofs.Rising.{by_bool}
use Rattle.std.proofs.Common.{eqb-true}

-- where none of the numbers below n passes, each fails
pub any_below_none : (n : ℕ) (test : ℕ → Bool) (k : ℕ) → any_below n test ≡ false → k < n → test k ≡ false
any_below_none zero test k none below = absurd (omega arith)
any_below_none (suc n) test k none below =
    let parts = or_parts (any_below n test) (test n) none in
    ⊎_elim (λ (h : k < n). any_below_none n test k parts.0 h)
    (λ (h : n ≤ k). let same : n ≡ k = omega arith in subst (λ (j : ℕ). test j ≡ false) same parts.1) (cases_lt k n)

-- and the other way round
pub none_below : (n : ℕ) (test : ℕ → Bool) → ((k : ℕ) → k < n → test k ≡ false) → any_below n test ≡ false
none_below zero test none = refl
none_below (suc n) test none = rw (none_below n test (λ k h. none k (omega arith))) (none n (omega arith))

some_none : (k : ℕ) → Some k ≡ None → ⊥
some_none k e = cc

none_from : (n i : ℕ) (test : ℕ → Bool) (k : ℕ) → least_from i n test ≡ None → i ≤ k → k < i + n → test k ≡ false
none_from zero i test k none above below = absurd (omega arith)
none_from (suc n) i test k none above below =
    by_bool (test i) (λ b. test i ≡ b → (if b then Some i else least_from (i + 1) n test) ≡ None → test k ≡ false)
    (λ yes_ e h. absurd (some_none i h))
    (λ no_ e h. ⊎_elim (λ (same : k ≡ i). subst (λ (j : ℕ). test j ≡ false) (sym same) e)
    (λ (other : k ≡ i → ⊥). none_from n (i + 1) test k h (grind (arith, other)) (omega arith)) (cases_eq k i)) refl none

-- where no number below n is the least that passes, each fails
pub least_none : (n : ℕ) (test : ℕ → Bool) (k : ℕ) → least_below n test ≡ None → k < n → test k ≡ false
least_none n test k none below = none_from n 0 test k none (omega arith) (omega arith)

passes_from : (n i : ℕ) (test : ℕ → Bool) (k : ℕ) → least_from i n test ≡ Some k → (test k ≡ true) × (k < i + n)
passes_from zero i test k least = absurd (some_none k (sym least))
passes_from (suc n) i test k least =
    by_bool (test i) (λ b. test i ≡ b → (if b then Some i else least_from (i + 1) n test) ≡ Some k → (test k ≡ true) × (k < i + suc n))
    (λ yes_ e h. let same : i ≡ k = cc in (subst (λ (j : ℕ). test j ≡ true) same e, omega arith))
    (λ no_ e h. let rest = passes_from n (i + 1) test k h in let bound : k < i + 1 + n = rest.1 in (rest.0, omega arith)) refl least

-- the least number that passes does pass, and lies below n
pub least_passes : (n : ℕ) (test : ℕ → Bool) (k : ℕ) → least_below n test ≡ Some k → (test k ≡ true) × (k < n)
least_passes n test k least =
    let found = passes_from n 0 test k least in let bound : k < 0 + n = found.1 in (found.0, omega arith)

-- an option that has nothing
pub none_is : (o : Option ℕ) → is_none o ≡ true → o ≡ None
none_is None is = refl
none_is (Some k) is = absurd (false≢true is)

-- an option that is exactly a number
pub exactly : (n : ℕ) (o : Option ℕ) → is_exactly n o ≡ true → o ≡ Some n
exactly n None is = absurd (false≢true is)
exactly n (Some k) is = ap Some (eqb-true k n is)

-- ---- how many pass

pub count_within : (n : ℕ) (test : ℕ → Bool) → count_below n test ≤ n
count_within zero test = omega arith
count_within (suc n) test =
    let rest : count_below n test ≤ n = count_within n test in
    by_bool (test n) (λ b. count_below n test + (if b then 1 else 0) ≤ suc n) (λ yes_. omega arith) (λ no_. omega arith)

pub count_none : (n : ℕ) (test : ℕ → Bool) (k : ℕ) → count_below n test ≤ 0 → k < n → test k ≡ false
count_none zero test k none below = absurd (omega arith)
count_none (suc n) test k none below =
    by_bool (test n) (λ b. test n ≡ b → count_below n test + (if b then 1 else 0) ≤ 0 → test k ≡ false)
    (λ yes_ e h. absurd (omega arith))
    (λ no_ e h. ⊎_elim (λ (low : k < n). count_none n test k (omega arith) low)
    (λ (high : n ≤ k). let same : n ≡ k = omega arith in subst (λ (j : ℕ). test j ≡ false) same e) (cases_lt k n)) refl none

pub count_same : (n : ℕ) (f g : ℕ → Bool) → ((k : ℕ) → k < n → f k ≡ g k) → count_below n f ≡ count_below n g
count_same zero f g same = refl
count_same (suc n) f g same =
    rw (count_same n f g (λ k h. same k (omega arith)), same n (omega arith)) refl

pub count_zero : (n : ℕ) (test : ℕ → Bool) → ((k : ℕ) → k < n → test k ≡ false) → count_below n test ≡ 0
count_zero zero test none = refl
count_zero (suc n) test none = rw (count_zero n test (λ k h. none k (omega arith)), none n (omega arith)) refl

-- of two tests that differ at one number alone, which the first passes and the second fails
pub count_cleared : (n : ℕ) (f g : ℕ → Bool) (p : ℕ) → p < n → f p ≡ true → g p ≡ false → ((k : ℕ) → (k ≡ p → ⊥) → f k ≡ g k)
    → count_below n f ≡ count_below n g + 1
count_cleared zero f g p inside yes_ no_ same = absurd (omega arith)
count_cleared (suc n) f g p inside yes_ no_ same =
    ⊎_elim
    (λ (low : p < n).
    let rest : count_below n f ≡ count_below n g + 1 = count_cleared n f g p low yes_ no_ same in
    let last : f n ≡ g n = same n (λ e. omega (arith, e)) in
    rw last (omega arith))
    (λ (high : n ≤ p).
    let here : p ≡ n = omega arith in
    let f_yes : f n ≡ true = subst (λ (j : ℕ). f j ≡ true) here yes_ in
    let g_no : g n ≡ false = subst (λ (j : ℕ). g j ≡ false) here no_ in
    let rest : count_below n f ≡ count_below n g = count_same n f g (λ k h. same k (λ e. omega (arith, e))) in
    rw (f_yes, g_no) (omega arith)) (cases_lt p n)
