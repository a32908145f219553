-- Lists of the numbers that pass a test, and sets of pages as such lists.
use Rattle.std.proofs.Common.{◌≡◌, ℕ, ◌+◌, ◌-◌, ◌<◌, ◌≤◌, Bool, true, false, cond, ◌||◌, ◌&&◌, eqb, leb, List, [], ◌∷◌, ◌++◌, length, Some, None, ◌⊎◌, inl, inr, suc, zero, refl, sym, ap, ◌∙◌, arith}
use Rattle.std.proofs.lemmas.Bool.{or_from, and_left, and_right, and_from, ne_eqb, eq-eqb, le-leb, lt-leb, cond-true, cond-false, cases_lt}
use Rattle.std.proofs.lemmas.List.{append-nil}
use Rattle.vfm_base.specs.PageSet.{numbers_where, pages_where, contains_page, IsPageList, least_page_from}

-- what one step of a list of passing numbers adds
contains-cond : (b : Bool) (p q : ℕ) (rest : List ℕ) → contains_page (cond b (p ∷ rest) rest) q ≡ ((b && eqb p q) || contains_page rest q)
contains-cond true p q rest = refl
contains-cond false p q rest = refl

least-cond : (b : Bool) (s p : ℕ) (rest : List ℕ) → least_page_from (cond b (s ∷ rest) rest) p ≡ cond (b && leb p s) (Some s) (least_page_from rest p)
least-cond true s p rest = refl
least-cond false s p rest = refl

append-cond : (b : Bool) (s : ℕ) (rest more : List ℕ) → cond b (s ∷ (rest ++ more)) (rest ++ more) ≡ cond b (s ∷ rest) rest ++ more
append-cond true s rest more = refl
append-cond false s rest more = refl

pub length-cond : (b : Bool) (s : ℕ) (rest : List ℕ) → length (cond b (s ∷ rest) rest) ≡ cond b 1 0 + length rest
length-cond true s rest = omega arith
length-cond false s rest = omega arith

either : (p s : ℕ) → (p ≤ s) ⊎ (s < p)
either p s = swapped (cases_lt s p)
  where
    swapped : (s < p) ⊎ (p ≤ s) → (p ≤ s) ⊎ (s < p)
    swapped (inl h) = inr h
    swapped (inr h) = inl h

cond-at_most : (b : Bool) → cond b 1 0 ≤ 1
cond-at_most true = omega arith
cond-at_most false = omega arith

or-drop : (x y : Bool) → x ≡ false → (x || y) ≡ y
or-drop x y e = ap (λ v. v || y) e

and-true : (b : Bool) → ((b && true) || false) ≡ b
and-true true = refl
and-true false = refl

only-left : (b e r t : Bool) → e ≡ true → r ≡ false → b ≡ t → ((b && e) || r) ≡ t
only-left b e r t he hr hb = ap (λ v. (b && v) || r) he ∙ ap (λ v. (b && true) || v) hr ∙ and-true b ∙ hb

-- a list of passing numbers has none below its first ..
pub contains-numbers_where_below : (test : ℕ → Bool) (p n q : ℕ) → q < p → contains_page (numbers_where test p n) q ≡ false
contains-numbers_where_below test p zero q h = refl
contains-numbers_where_below test p (suc n) q h =
    contains-cond (test p) p q (numbers_where test (p + 1) n)
    ∙ or_from _ _ (and_right _ _ (ne_eqb p q (λ e. omega arith))) (contains-numbers_where_below test (p + 1) n q (omega arith))

-- .. none above its last ..
pub contains-numbers_where_above : (test : ℕ → Bool) (p n q : ℕ) → p + n ≤ q → contains_page (numbers_where test p n) q ≡ false
contains-numbers_where_above test p zero q h = refl
contains-numbers_where_above test p (suc n) q h =
    contains-cond (test p) p q (numbers_where test (p + 1) n)
    ∙ or_from _ _ (and_right _ _ (ne_eqb p q (λ e. omega arith))) (contains-numbers_where_above test (p + 1) n q (omega arith))

-- .. and between them those that pass
pub contains-numbers_where : (test : ℕ → Bool) (p n q : ℕ) → p ≤ q → q < p + n → contains_page (numbers_where test p n) q ≡ test q
contains-numbers_where test p zero q low high = absurd (omega arith)
contains-numbers_where test p (suc n) q low high =
    contains-cond (test p) p q (numbers_where test (p + 1) n)
    ∙ at (λ h. contains-numbers_where test (p + 1) n q (omega arith) (omega arith)) (cases_lt p q)
  where
    at : (p < q → contains_page (numbers_where test (p + 1) n) q ≡ test q) → (p < q) ⊎ (q ≤ p) → ((test p && eqb p q) || contains_page (numbers_where test (p + 1) n) q) ≡ test q
    at rest (inl h) = or-drop _ _ (and_right _ _ (ne_eqb p q (λ e. omega arith))) ∙ rest h
    at rest (inr h) =
        let same : p ≡ q = omega arith in
        only-left _ _ _ _ (eq-eqb p q same) (contains-numbers_where_below test (p + 1) n q (omega arith)) (ap test same)

-- two tests that agree from p up to p + n pass the same numbers
pub numbers_where_same : (f g : ℕ → Bool) (p n : ℕ) → ((q : ℕ) → p ≤ q → q < p + n → f q ≡ g q) → numbers_where f p n ≡ numbers_where g p n
numbers_where_same f g p zero h = refl
numbers_where_same f g p (suc n) h =
    ap (λ (t : Bool). cond t (p ∷ numbers_where f (p + 1) n) (numbers_where f (p + 1) n)) (h p (omega arith) (omega arith))
    ∙ ap (λ (r : List ℕ). cond (g p) (p ∷ r) r) (numbers_where_same f g (p + 1) n (λ q low high. h q (omega arith) (omega arith)))

-- where none passes, the list is empty
pub numbers_where_none : (test : ℕ → Bool) (p n : ℕ) → ((q : ℕ) → p ≤ q → q < p + n → test q ≡ false) → numbers_where test p n ≡ []
numbers_where_none test p zero h = refl
numbers_where_none test p (suc n) h =
    ap (λ (t : Bool). cond t (p ∷ numbers_where test (p + 1) n) (numbers_where test (p + 1) n)) (h p (omega arith) (omega arith))
    ∙ numbers_where_none test (p + 1) n (λ q low high. h q (omega arith) (omega arith))

-- a stretch in two parts
pub numbers_where-add : (test : ℕ → Bool) (p a b : ℕ) → numbers_where test p (a + b) ≡ numbers_where test p a ++ numbers_where test (p + a) b
numbers_where-add test p zero b =
    let e : zero + b ≡ b = omega arith in
    let f : p ≡ p + zero = omega arith in
    ap (λ (x : ℕ). numbers_where test p x) e ∙ ap (λ (x : ℕ). numbers_where test x b) f
numbers_where-add test p (suc a) b =
    let e : suc a + b ≡ suc (a + b) = omega arith in
    let f : p + 1 + a ≡ p + suc a = omega arith in
    ap (λ (x : ℕ). numbers_where test p x) e
    ∙ ap (λ (r : List ℕ). cond (test p) (p ∷ r) r) (numbers_where-add test (p + 1) a b)
    ∙ append-cond (test p) p (numbers_where test (p + 1) a) (numbers_where test (p + 1 + a) b)
    ∙ ap (λ (x : ℕ). numbers_where test p (suc a) ++ numbers_where test x b) f

-- of n numbers at most n pass
pub length-numbers_where_le : (test : ℕ → Bool) (p n : ℕ) → length (numbers_where test p n) ≤ n
length-numbers_where_le test p zero = omega arith
length-numbers_where_le test p (suc n) =
    omega (arith, length-cond (test p) p (numbers_where test (p + 1) n), cond-at_most (test p), length-numbers_where_le test (p + 1) n)

-- the least page from p on is the first that passes ..
pub least-numbers_where_found : (test : ℕ → Bool) (s n p q : ℕ) → s ≤ q → q < s + n → p ≤ q → test q ≡ true → ((r : ℕ) → p ≤ r → r < q → test r ≡ false) → least_page_from (numbers_where test s n) p ≡ Some q
least-numbers_where_found test s zero p q low high from hit before = absurd (omega arith)
least-numbers_where_found test s (suc n) p q low high from hit before =
    least-cond (test s) s p (numbers_where test (s + 1) n)
    ∙ at (λ h. least-numbers_where_found test (s + 1) n p q (omega arith) (omega arith) from hit before) (cases_lt s q)
  where
    skipped : s < q → (p ≤ s) ⊎ (s < p) → (test s && leb p s) ≡ false
    skipped h (inl k) = and_left _ _ (before s k h)
    skipped h (inr k) = and_right _ _ (lt-leb p s k)

    at : (s < q → least_page_from (numbers_where test (s + 1) n) p ≡ Some q) → (s < q) ⊎ (q ≤ s) → cond (test s && leb p s) (Some s) (least_page_from (numbers_where test (s + 1) n) p) ≡ Some q
    at rest (inl h) = cond-false _ _ _ (skipped h (either p s)) ∙ rest h
    at rest (inr h) =
        let same : s ≡ q = omega arith in
        cond-true _ _ _ (and_from _ _ (ap test same ∙ hit) (le-leb p s (omega arith))) ∙ ap Some same

-- .. and there is none where none passes
pub least-numbers_where_none : (test : ℕ → Bool) (s n p : ℕ) → ((r : ℕ) → p ≤ r → r < s + n → test r ≡ false) → least_page_from (numbers_where test s n) p ≡ None
least-numbers_where_none test s zero p none = refl
least-numbers_where_none test s (suc n) p none =
    least-cond (test s) s p (numbers_where test (s + 1) n)
    ∙ cond-false _ _ _ (skipped (either p s))
    ∙ least-numbers_where_none test (s + 1) n p (λ r low high. none r low (omega arith))
  where
    skipped : (p ≤ s) ⊎ (s < p) → (test s && leb p s) ≡ false
    skipped (inl k) = and_left _ _ (none s k (omega arith))
    skipped (inr k) = and_right _ _ (lt-leb p s k)

-- ---- sets of pages

-- the pages that pass a test, as a list of passing numbers; the size is a variable, so that nothing unfolds 1,024 times
pub pages_where_is : (test : ℕ → Bool) (n : ℕ) → n ≡ 1024 → pages_where test ≡ numbers_where test 0 n
unfolding pages_where
pages_where_is test n e = ap (λ (x : ℕ). numbers_where test 0 x) (sym e)

contains-at : (n : ℕ) → n ≡ 1024 → (test : ℕ → Bool) (q : ℕ) → q < n → contains_page (pages_where test) q ≡ test q
contains-at n e test q h =
    ap (λ (xs : List ℕ). contains_page xs q) (pages_where_is test n e) ∙ contains-numbers_where test 0 n q (omega arith) (omega arith)

-- below 1,024 the set has the pages that pass ..
pub contains-pages_where : (test : ℕ → Bool) (q : ℕ) → q < 1024 → contains_page (pages_where test) q ≡ test q
contains-pages_where = contains-at 1024 refl

above-at : (n : ℕ) → n ≡ 1024 → (test : ℕ → Bool) (q : ℕ) → n ≤ q → contains_page (pages_where test) q ≡ false
above-at n e test q h =
    ap (λ (xs : List ℕ). contains_page xs q) (pages_where_is test n e) ∙ contains-numbers_where_above test 0 n q (omega arith)

-- .. and none above
pub contains-pages_where_above : (test : ℕ → Bool) (q : ℕ) → 1024 ≤ q → contains_page (pages_where test) q ≡ false
contains-pages_where_above = above-at 1024 refl

same-at : (n : ℕ) → n ≡ 1024 → (f g : ℕ → Bool) → ((q : ℕ) → q < n → f q ≡ g q) → pages_where f ≡ pages_where g
same-at n e f g h =
    pages_where_is f n e ∙ numbers_where_same f g 0 n (λ q low high. h q (omega arith)) ∙ sym (pages_where_is g n e)

-- tests that agree below 1,024 give one set
pub pages_where_same : (f g : ℕ → Bool) → ((q : ℕ) → q < 1024 → f q ≡ g q) → pages_where f ≡ pages_where g
pages_where_same = same-at 1024 refl

-- it is known by its members
pub IsPageList-pages_where : (test : ℕ → Bool) → IsPageList (pages_where test)
IsPageList-pages_where test =
    pages_where_same test (contains_page (pages_where test)) (λ q h. sym (contains-pages_where test q h))

-- sets with the same members are equal
pub same_pages : (xs ys : List ℕ) → IsPageList xs → IsPageList ys → ((q : ℕ) → q < 1024 → contains_page xs q ≡ contains_page ys q) → xs ≡ ys
same_pages xs ys hx hy h = hx ∙ pages_where_same _ _ h ∙ sym hy

-- a set with the members that a test says is the set of that test
pub pages_from_members : (xs : List ℕ) (test : ℕ → Bool) → IsPageList xs → ((q : ℕ) → q < 1024 → contains_page xs q ≡ test q) → xs ≡ pages_where test
pages_from_members xs test hx h = hx ∙ pages_where_same _ test h

-- a set has no member from 1,024 on
pub no_page_above : (xs : List ℕ) → IsPageList xs → (q : ℕ) → 1024 ≤ q → contains_page xs q ≡ false
no_page_above xs hx q h =
    ap (λ (ys : List ℕ). contains_page ys q) hx ∙ contains-pages_where_above (contains_page xs) q h

none-at : (n : ℕ) → n ≡ 1024 → (test : ℕ → Bool) → ((q : ℕ) → q < n → test q ≡ false) → pages_where test ≡ []
none-at n e test h = pages_where_is test n e ∙ numbers_where_none test 0 n (λ q low high. h q (omega arith))

-- no member, no list
pub pages_where_none : (test : ℕ → Bool) → ((q : ℕ) → q < 1024 → test q ≡ false) → pages_where test ≡ []
pages_where_none = none-at 1024 refl

pub IsPageList-none : IsPageList []
IsPageList-none = sym (pages_where_none (contains_page []) (λ q h. refl))

first-at : (n : ℕ) → n ≡ 1024 → (test : ℕ → Bool) (m : ℕ) → m ≤ n → ((q : ℕ) → q < m → test q ≡ true) → ((q : ℕ) → m ≤ q → q < n → test q ≡ false) → pages_where test ≡ numbers_where (λ _. true) 0 m
first-at n e test m h all none =
    let rest : m + (n - m) ≡ n = omega arith in
    pages_where_is test n e
    ∙ ap (λ (x : ℕ). numbers_where test 0 x) (sym rest)
    ∙ numbers_where-add test 0 m (n - m)
    ∙ ap (λ (r : List ℕ). numbers_where test 0 m ++ r) (numbers_where_none test (0 + m) (n - m) (λ q low high. none q (omega arith) (omega arith)))
    ∙ append-nil (numbers_where test 0 m)
    ∙ numbers_where_same test (λ _. true) 0 m (λ q low high. all q (omega arith))

-- the set of the first m pages is the list of the numbers below m
pub pages_where_first : (test : ℕ → Bool) (m : ℕ) → m ≤ 1024 → ((q : ℕ) → q < m → test q ≡ true) → ((q : ℕ) → m ≤ q → q < 1024 → test q ≡ false) → pages_where test ≡ numbers_where (λ _. true) 0 m
pages_where_first = first-at 1024 refl

found-at : (n : ℕ) → n ≡ 1024 → (test : ℕ → Bool) (p q : ℕ) → q < n → p ≤ q → test q ≡ true → ((r : ℕ) → p ≤ r → r < q → test r ≡ false) → least_page_from (pages_where test) p ≡ Some q
found-at n e test p q below from hit before =
    ap (λ (xs : List ℕ). least_page_from xs p) (pages_where_is test n e)
    ∙ least-numbers_where_found test 0 n p q (omega arith) (omega arith) from hit before

-- the least member from p on ..
pub least-pages_where_found : (test : ℕ → Bool) (p q : ℕ) → q < 1024 → p ≤ q → test q ≡ true → ((r : ℕ) → p ≤ r → r < q → test r ≡ false) → least_page_from (pages_where test) p ≡ Some q
least-pages_where_found = found-at 1024 refl

missing-at : (n : ℕ) → n ≡ 1024 → (test : ℕ → Bool) (p : ℕ) → ((r : ℕ) → p ≤ r → r < n → test r ≡ false) → least_page_from (pages_where test) p ≡ None
missing-at n e test p none =
    ap (λ (xs : List ℕ). least_page_from xs p) (pages_where_is test n e)
    ∙ least-numbers_where_none test 0 n p (λ r low high. none r low (omega arith))

-- .. where there is one
pub least-pages_where_none : (test : ℕ → Bool) (p : ℕ) → ((r : ℕ) → p ≤ r → r < 1024 → test r ≡ false) → least_page_from (pages_where test) p ≡ None
least-pages_where_none = missing-at 1024 refl
