-- The least number that passes a test and how many do, as a set of pages says it.
use Rattle.std.proofs.Common.{◌≡◌, ℕ, ◌+◌, ◌-◌, ◌<◌, ◌≤◌, Bool, true, false, cond, List, [], ◌++◌, length, Option, Some, None, IfSome, IfNone, IsTrue, ◌⊎◌, inl, inr, suc, zero, refl, sym, ap, ◌∙◌, arith}
use Rattle.std.proofs.lemmas.Bool.{cond-true, cond-false, cases_lt, false≢true}
use Rattle.std.proofs.lemmas.List.{append-nil, length-append}
use Rattle.vfm_base.specs.Least.{count_below, least_from, least_below}
use Rattle.vfm_base.specs.PageSet.{numbers_where, contains_page, IsPageList}
use Rattle.vfm_base.proofs.NumbersWhere.{length-cond, numbers_where-add, numbers_where_none, numbers_where_same, pages_where_is}

-- the least of a stretch is the first that passes ..
pub least_from_found : (test : ℕ → Bool) (i n q : ℕ) → i ≤ q → q < i + n → test q ≡ true → ((r : ℕ) → i ≤ r → r < q → test r ≡ false) → least_from i n test ≡ Some q
least_from_found test i zero q low high hit before = absurd (omega arith)
least_from_found test i (suc n) q low high hit before =
    at (λ h. least_from_found test (i + 1) n q (omega arith) (omega arith) hit (λ r from below. before r (omega arith) below)) (cases_lt i q)
  where
    at : (i < q → least_from (i + 1) n test ≡ Some q) → (i < q) ⊎ (q ≤ i) → cond (test i) (Some i) (least_from (i + 1) n test) ≡ Some q
    at rest (inl h) = cond-false _ _ _ (before i (omega arith) h) ∙ rest h
    at rest (inr h) =
        let same : i ≡ q = omega arith in
        cond-true _ _ _ (ap test same ∙ hit) ∙ ap Some same

-- .. and there is none where none passes
pub least_from_none : (test : ℕ → Bool) (i n : ℕ) → ((r : ℕ) → i ≤ r → r < i + n → test r ≡ false) → least_from i n test ≡ None
least_from_none test i zero none = refl
least_from_none test i (suc n) none =
    cond-false _ _ _ (none i (omega arith) (omega arith))
    ∙ least_from_none test (i + 1) n (λ r low high. none r (omega arith) (omega arith))

pub least_below_found : (test : ℕ → Bool) (n q : ℕ) → q < n → test q ≡ true → ((r : ℕ) → r < q → test r ≡ false) → least_below n test ≡ Some q
least_below_found test n q below hit before =
    least_from_found test 0 n q (omega arith) (omega arith) hit (λ r low high. before r high)

pub least_below_none : (test : ℕ → Bool) (n : ℕ) → ((r : ℕ) → r < n → test r ≡ false) → least_below n test ≡ None
least_below_none test n none = least_from_none test 0 n (λ r low high. none r (omega arith))

-- A search of a set from p on gives the least number below n that passes, where from p on the members are those that
-- pass, and below p none does.
pub least_below-pages : (pages : List ℕ) (test : ℕ → Bool) (n p : ℕ) (r : Option ℕ) → ((q : ℕ) → p ≤ q → q < n → contains_page pages q ≡ test q) → ((q : ℕ) → n ≤ q → contains_page pages q ≡ false) → ((q : ℕ) → q < p → q < n → test q ≡ false) → IfSome r (λ q. (p ≤ q) × (q < 1024) × IsTrue (contains_page pages q)) → IfSome r (λ q. (s : ℕ) → p ≤ s → s < q → contains_page pages s ≡ false) → IfNone r ((s : ℕ) → p ≤ s → contains_page pages s ≡ false) → r ≡ least_below n test
least_below-pages pages test n p None same above before found least none =
    sym (least_below_none test n (λ q h. at q h (cases_lt q p)))
  where
    at : (q : ℕ) → q < n → (q < p) ⊎ (p ≤ q) → test q ≡ false
    at q h (inl k) = before q k h
    at q h (inr k) = sym (same q k h) ∙ none q k
least_below-pages pages test n p (Some q) same above before found least none =
    sym (least_below_found test n q inside (sym (same q found.0 inside) ∙ found.2) (λ s h. at s h (cases_lt s p)))
  where
    inside : q < n
    inside = by (cases_lt q n)
      where
        by : (q < n) ⊎ (n ≤ q) → q < n
        by (inl h) = h
        by (inr h) = absurd (false≢true (sym (above q h) ∙ found.2))

    at : (s : ℕ) → s < q → (s < p) ⊎ (p ≤ s) → test s ≡ false
    at s h (inl k) = before s k (omega (arith, inside))
    at s h (inr k) = sym (same s k (omega (arith, inside))) ∙ least s k h

-- ---- how many pass

count_below-numbers_where : (test : ℕ → Bool) (n : ℕ) → length (numbers_where test 0 n) ≡ count_below n test
count_below-numbers_where test zero = refl
count_below-numbers_where test (suc n) =
    let e : suc n ≡ n + 1 = omega arith in
    ap (λ (x : ℕ). length (numbers_where test 0 x)) e
    ∙ ap length (numbers_where-add test 0 n 1)
    ∙ length-append (numbers_where test 0 n) (numbers_where test (0 + n) 1)
    ∙ ap (λ (x : ℕ). x + length (numbers_where test (0 + n) 1)) (count_below-numbers_where test n)
    ∙ ap (λ (x : ℕ). count_below n test + x) (length-cond (test (0 + n)) (0 + n) [] ∙ last)
  where
    last : cond (test (0 + n)) 1 0 + length {A = ℕ} [] ≡ cond (test n) 1 0
    last =
        let here : 0 + n ≡ n = omega arith in
        let alone : cond (test (0 + n)) 1 0 + 0 ≡ cond (test (0 + n)) 1 0 = omega arith in
        alone ∙ ap (λ (x : ℕ). cond (test x) 1 0) here

count-at : (m : ℕ) → m ≡ 1024 → (pages : List ℕ) (test : ℕ → Bool) (n : ℕ) → IsPageList pages → n ≤ m → ((q : ℕ) → q < n → contains_page pages q ≡ test q) → ((q : ℕ) → n ≤ q → contains_page pages q ≡ false) → length pages ≡ count_below n test
count-at m e pages test n is few same above =
    let rest : n + (m - n) ≡ m = omega arith in
    ap length (is ∙ pages_where_is (contains_page pages) m e ∙ ap (λ (x : ℕ). numbers_where (contains_page pages) 0 x) (sym rest) ∙ numbers_where-add (contains_page pages) 0 n (m - n) ∙ ap (λ (r : List ℕ). numbers_where (contains_page pages) 0 n ++ r) (numbers_where_none (contains_page pages) (0 + n) (m - n) (λ q low high. above q (omega arith))) ∙ append-nil (numbers_where (contains_page pages) 0 n) ∙ numbers_where_same (contains_page pages) test 0 n (λ q low high. same q (omega arith)))
    ∙ count_below-numbers_where test n

-- a set has as many pages as numbers below n pass, where its members are those
pub count_below-pages : (pages : List ℕ) (test : ℕ → Bool) (n : ℕ) → IsPageList pages → n ≤ 1024 → ((q : ℕ) → q < n → contains_page pages q ≡ test q) → ((q : ℕ) → n ≤ q → contains_page pages q ≡ false) → length pages ≡ count_below n test
count_below-pages = count-at 1024 refl
