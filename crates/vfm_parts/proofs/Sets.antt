-- Sets of the numbers below a bound that pass a test.
use Rattle.std.proofs.Common.{List, sym, ◌≡◌, ℕ, zero, suc, ◌+◌, ◌<◌, Bool, true, false, cond, [], ◌∷◌, length, Some, refl, ap, ◌∙◌, arith, ◌-◌, ◌≤◌, ◌++◌}
use Rattle.vfm_base.specs.Least.{count_below, least_from, least_below}
use Rattle.vfm_base.specs.PageSet.{pages_where, numbers_where, contains_page, least_page_from}
use Rattle.vfm_base.proofs.NumbersWhere.{contains-numbers_where, numbers_where_same, numbers_where_none, numbers_where-add, length-cond, pages_where_is}
use Rattle.std.proofs.lemmas.Bool.{le-leb, cond-true}
use Rattle.std.proofs.lemmas.List.{length-append, append-nil}
use Rattle.vfm_parts.specs.Parts.{numbers_below}

-- a set has the numbers that pass
pub has_below : (n : ℕ) (test : ℕ → Bool) (q : ℕ) → q < n → contains_page (numbers_below n test) q ≡ test q
has_below n test q h = contains-numbers_where test 0 n q (omega arith) (omega arith)

pub below_same : (n : ℕ) (f g : ℕ → Bool) → ((q : ℕ) → q < n → f q ≡ g q) → numbers_below n f ≡ numbers_below n g
below_same n f g h = numbers_where_same f g 0 n (λ q low high. h q (omega arith))

pub below_none : (n : ℕ) → numbers_below n (λ q. false) ≡ []
below_none n = numbers_where_none (λ q. false) 0 n (λ q low high. refl)

-- a set with more or fewer numbers: the test of a member is the test that made it
pub below_remade : (n : ℕ) (made : ℕ → Bool) (remade : Bool → ℕ → Bool)
    → numbers_below n (λ q. remade (contains_page (numbers_below n made) q) q) ≡ numbers_below n (λ q. remade (made q) q)
below_remade n made remade = below_same n _ _ (λ q h. ap (λ (b : Bool). remade b q) (has_below n made q h))

-- the least member is the least number that passes
least_first : (test : ℕ → Bool) (p n : ℕ) → least_page_from (numbers_where test p n) 0 ≡ least_from p n test
least_first test p zero = refl
least_first test p (suc n) = step (test p) (least_first test (p + 1) n)
  where
    step : (b : Bool) → least_page_from (numbers_where test (p + 1) n) 0 ≡ least_from (p + 1) n test
        → least_page_from (cond b (p ∷ numbers_where test (p + 1) n) (numbers_where test (p + 1) n)) 0 ≡ cond b (Some p) (least_from (p + 1) n test)
    step true rest = cond-true _ _ _ (le-leb 0 p (omega arith))
    step false rest = rest

pub least_is : (n : ℕ) (test : ℕ → Bool) → least_page_from (numbers_below n test) 0 ≡ least_below n test
least_is n test = least_first test 0 n

-- as many members as numbers that pass
pub size_is : (n : ℕ) (test : ℕ → Bool) → length (numbers_below n test) ≡ count_below n test
size_is zero test = refl
size_is (suc n) test =
    let e : suc n ≡ n + 1 = omega arith in
    ap (λ (x : ℕ). length (numbers_where test 0 x)) e
    ∙ ap length (numbers_where-add test 0 n 1)
    ∙ length-append (numbers_where test 0 n) (numbers_where test (0 + n) 1)
    ∙ ap (λ (x : ℕ). x + length (numbers_where test (0 + n) 1)) (size_is n test)
    ∙ ap (λ (x : ℕ). count_below n test + x) (length-cond (test (0 + n)) (0 + n) [] ∙ last)
  where
    last : cond (test (0 + n)) 1 0 + length {A = ℕ} [] ≡ cond (test n) 1 0
    last =
        let here : 0 + n ≡ n = omega arith in
        let alone : cond (test (0 + n)) 1 0 + 0 ≡ cond (test (0 + n)) 1 0 = omega arith in
        alone ∙ ap (λ (x : ℕ). cond (test x) 1 0) here

-- a set of pages below n is what passes below 1,024, where nothing from n on does
cut_at : (m : ℕ) → m ≡ 1024 → (n : ℕ) (test : ℕ → Bool) → n ≤ m → ((q : ℕ) → n ≤ q → test q ≡ false) → pages_where test ≡ numbers_below n test
cut_at m e n test few above =
    let rest : n + (m - n) ≡ m = omega arith in
    pages_where_is test m e
    ∙ ap (λ (x : ℕ). numbers_where test 0 x) (sym rest)
    ∙ numbers_where-add test 0 n (m - n)
    ∙ ap (λ (r : List ℕ). numbers_where test 0 n ++ r) (numbers_where_none test (0 + n) (m - n) (λ q low high. above q (omega arith)))
    ∙ append-nil (numbers_where test 0 n)

pub pages_below : (n : ℕ) (test : ℕ → Bool) → n ≤ 1024 → ((q : ℕ) → n ≤ q → test q ≡ false) → pages_where test ≡ numbers_below n test
pages_below = cut_at 1024 refl
