-- Words of bits as sets of pages.
use Rattle.std.proofs.Common.{w64, ◌≡◌, ℕ, ◌+◌, ◌-◌, ◌*◌, ◌/◌, ◌%◌, ◌^◌, ◌<◌, ◌≤◌, min, max, Bool, true, false, cond, ◌||◌, ◌&&◌, not, eqb, ltb, List, [], length, get_or, set, Option, Some, None, IfSome, IfNone, IsTrue, ◌⊎◌, inl, inr, suc, zero, refl, sym, ap, ap₂, replicate, ◌∙◌, subst, arith}
use Rattle.std.specs.Int.{bit_at, bit_not, trailing_zeros}
use Rattle.std.specs.Int.RustNames.{count_ones, bit_or, bit_and}
use Rattle.std.specs.Int.Count.{ones_step}
use Rattle.std.proofs.lemmas.Nat.{ones-le, pow-add}
use Rattle.std.proofs.lemmas.Nat.Bits.{bit_at_lowest, bit_at-suc, bit_at_or, bit_at-lt, bit_at_set_same, bit_at_set_other, bit_at_clear_same, bit_at_clear_other, bit_at_ones, bit_at_ones_above, bit_at-zero, bit_at_above, bit_at-trailing_zeros, shr_and_one}
use Rattle.std.proofs.Math.Nat.{pow-suc, div-div-eq-div-mul, div-le_self}
use Rattle.std.proofs.lemmas.List.{get_or-set_same, get_or-set_other, get_or_past, length-append}
use Rattle.std.proofs.lemmas.Bool.{cases_eq, cases_lt, or_right, or_from, ne_eqb, eq-eqb, lt-ltb, le-ltb}
use Rattle.vfm_base.specs.PageSet.{numbers_where, pages_where, contains_page, page_bit, pages_of_words, IsPageList, least_page_from}
use Rattle.vfm_base.proofs.NumbersWhere.{length-cond, numbers_where-add, pages_where_is, no_page_above, pages_where_first, least-pages_where_found, least-pages_where_none, pages_where_none, pages_where_same, contains-pages_where, contains-pages_where_above, IsPageList-pages_where}

or-false : (x y : Bool) → y ≡ false → (x || y) ≡ x
or-false true y e = refl
or-false false y e = e

-- a bit that is not 1 is 0, and the other way round
bit_is : (x : ℕ) → x < 2 → cond (eqb x 1) 1 0 ≡ x
bit_is zero h = refl
bit_is (suc zero) h = refl
bit_is (suc (suc x)) h = absurd (omega arith)

or_of_bits : (x y : ℕ) → x < 2 → y < 2 → eqb (max x y) 1 ≡ (eqb x 1 || eqb y 1)
or_of_bits zero zero hx hy = refl
or_of_bits zero (suc zero) hx hy = refl
or_of_bits (suc zero) zero hx hy = refl
or_of_bits (suc zero) (suc zero) hx hy = refl
or_of_bits (suc (suc x)) y hx hy = absurd (omega arith)
or_of_bits x (suc (suc y)) hx hy = absurd (omega arith)

-- one bit set adds its page and no other
pub page_bit_add : (words : List ℕ) (p : ℕ) → p / 64 < length words → (q : ℕ) → page_bit (set words (p / 64) (bit_or (get_or words (p / 64) 0) (1 * 2 ^ (p % 64) % 2 ^ 64))) q ≡ (page_bit words q || eqb q p)
page_bit_add words p within q = at (cases_eq (q / 64) (p / 64)) (cases_eq (q % 64) (p % 64))
  where
    at : (q / 64 ≡ p / 64) ⊎ (q / 64 ≡ p / 64 → ⊥) → (q % 64 ≡ p % 64) ⊎ (q % 64 ≡ p % 64 → ⊥) → page_bit (set words (p / 64) (bit_or (get_or words (p / 64) 0) (1 * 2 ^ (p % 64) % 2 ^ 64))) q ≡ (page_bit words q || eqb q p)
    at (inr other) _ =
        ap (λ (w : ℕ). eqb (bit_at w (q % 64)) 1) (get_or-set_other words (p / 64) (q / 64) (bit_or (get_or words (p / 64) 0) (1 * 2 ^ (p % 64) % 2 ^ 64)) 0 other)
        ∙ sym (or-false _ _ (ne_eqb q p (λ e. other (ap (λ (x : ℕ). x / 64) e))))
    at (inl word) (inr other) =
        ap (λ (j : ℕ). eqb (bit_at (get_or (set words (p / 64) (bit_or (get_or words (p / 64) 0) (1 * 2 ^ (p % 64) % 2 ^ 64))) j 0) (q % 64)) 1) word
        ∙ ap (λ (w : ℕ). eqb (bit_at w (q % 64)) 1) (get_or-set_same words (p / 64) (bit_or (get_or words (p / 64) 0) (1 * 2 ^ (p % 64) % 2 ^ 64)) 0 within)
        ∙ ap (λ (x : ℕ). eqb x 1) (bit_at_set_other w64 (get_or words (p / 64) 0) (p % 64) (omega arith) (q % 64) other)
        ∙ ap (λ (j : ℕ). eqb (bit_at (get_or words j 0) (q % 64)) 1) (sym word)
        ∙ sym (or-false _ _ (ne_eqb q p (λ e. other (ap (λ (x : ℕ). x % 64) e))))
    at (inl word) (inl bit) =
        ap (λ (j : ℕ). eqb (bit_at (get_or (set words (p / 64) (bit_or (get_or words (p / 64) 0) (1 * 2 ^ (p % 64) % 2 ^ 64))) j 0) (q % 64)) 1) word
        ∙ ap (λ (w : ℕ). eqb (bit_at w (q % 64)) 1) (get_or-set_same words (p / 64) (bit_or (get_or words (p / 64) 0) (1 * 2 ^ (p % 64) % 2 ^ 64)) 0 within)
        ∙ ap (λ (i : ℕ). eqb (bit_at (bit_or (get_or words (p / 64) 0) (1 * 2 ^ (p % 64) % 2 ^ 64)) i) 1) bit
        ∙ ap (λ (x : ℕ). eqb x 1) (bit_at_set_same w64 (get_or words (p / 64) 0) (p % 64) (omega arith))
        ∙ sym (or_right _ _ (eq-eqb q p (omega arith)))

and-true : (x y : Bool) → y ≡ true → (x && y) ≡ x
and-true true y e = e
and-true false y e = refl

not-false : (y : Bool) → y ≡ false → not y ≡ true
not-false y e = ap not e

and-not_true : (x y : Bool) → y ≡ true → (x && not y) ≡ false
and-not_true true y e = ap not e
and-not_true false y e = refl

-- the word with one bit cleared
abbrev pub cleared_word : List ℕ → ℕ → ℕ
cleared_word words p = bit_and (get_or words (p / 64) 0) (bit_not w64 (1 * 2 ^ (p % 64) % 2 ^ 64))

-- one bit cleared removes its page and no other
pub page_bit_remove : (words : List ℕ) (p : ℕ) → p / 64 < length words → (q : ℕ) → page_bit (set words (p / 64) (cleared_word words p)) q ≡ (page_bit words q && not (eqb q p))
page_bit_remove words p within q = at (cases_eq (q / 64) (p / 64)) (cases_eq (q % 64) (p % 64))
  where
    at : (q / 64 ≡ p / 64) ⊎ (q / 64 ≡ p / 64 → ⊥) → (q % 64 ≡ p % 64) ⊎ (q % 64 ≡ p % 64 → ⊥) → page_bit (set words (p / 64) (cleared_word words p)) q ≡ (page_bit words q && not (eqb q p))
    at (inr other) _ =
        ap (λ (w : ℕ). eqb (bit_at w (q % 64)) 1) (get_or-set_other words (p / 64) (q / 64) (cleared_word words p) 0 other)
        ∙ sym (and-true _ _ (not-false _ (ne_eqb q p (λ e. other (ap (λ (x : ℕ). x / 64) e)))))
    at (inl word) (inr other) =
        ap (λ (j : ℕ). eqb (bit_at (get_or (set words (p / 64) (cleared_word words p)) j 0) (q % 64)) 1) word
        ∙ ap (λ (w : ℕ). eqb (bit_at w (q % 64)) 1) (get_or-set_same words (p / 64) (cleared_word words p) 0 within)
        ∙ ap (λ (x : ℕ). eqb x 1) (bit_at_clear_other w64 (get_or words (p / 64) 0) (p % 64) (omega arith) (q % 64) (omega arith) other)
        ∙ ap (λ (j : ℕ). eqb (bit_at (get_or words j 0) (q % 64)) 1) (sym word)
        ∙ sym (and-true _ _ (not-false _ (ne_eqb q p (λ e. other (ap (λ (x : ℕ). x % 64) e)))))
    at (inl word) (inl bit) =
        ap (λ (j : ℕ). eqb (bit_at (get_or (set words (p / 64) (cleared_word words p)) j 0) (q % 64)) 1) word
        ∙ ap (λ (w : ℕ). eqb (bit_at w (q % 64)) 1) (get_or-set_same words (p / 64) (cleared_word words p) 0 within)
        ∙ ap (λ (i : ℕ). eqb (bit_at (cleared_word words p) i) 1) bit
        ∙ ap (λ (x : ℕ). eqb x 1) (bit_at_clear_same w64 (get_or words (p / 64) 0) (p % 64) (omega arith))
        ∙ sym (and-not_true _ _ (eq-eqb q p (omega arith)))

-- words joined bit by bit hold both sets
pub page_bit_join : (a b c : List ℕ) → ((j : ℕ) → get_or c j 0 ≡ bit_or (get_or a j 0) (get_or b j 0)) → (q : ℕ) → page_bit c q ≡ (page_bit a q || page_bit b q)
page_bit_join a b c each q =
    ap (λ (w : ℕ). eqb (bit_at w (q % 64)) 1) (each (q / 64))
    ∙ ap (λ (x : ℕ). eqb x 1) (bit_at_or (get_or a (q / 64) 0) (get_or b (q / 64) 0) (q % 64))
    ∙ or_of_bits _ _ (bit_at-lt (get_or a (q / 64) 0) (q % 64)) (bit_at-lt (get_or b (q / 64) 0) (q % 64))

-- words joined one by one, up to their end
pub page_bit_join_all : (a b c : List ℕ) (k : ℕ) → length a ≤ k → length b ≤ k → ((j : ℕ) → j < k → get_or c j 0 ≡ bit_or (get_or a j 0) (get_or b j 0)) → ((j : ℕ) → k ≤ j → get_or c j 0 ≡ get_or a j 0) → (q : ℕ) → page_bit c q ≡ (page_bit a q || page_bit b q)
page_bit_join_all a b c k short_a short_b before after = page_bit_join a b c (λ j. at j (cases_lt j k))
  where
    at : (j : ℕ) → (j < k) ⊎ (k ≤ j) → get_or c j 0 ≡ bit_or (get_or a j 0) (get_or b j 0)
    at j (inl h) = before j h
    at j (inr h) =
        let no_a : get_or a j 0 ≡ 0 = get_or_past a j 0 (omega arith) in
        let no_b : get_or b j 0 ≡ 0 = get_or_past b j 0 (omega arith) in
        after j h ∙ no_a ∙ sym (ap₂ (λ (x y : ℕ). bit_or x y) no_a no_b)

-- a word of m ones has the pages of its first m places
pub page_bit_ones : (words : List ℕ) (pages q : ℕ) → get_or words (q / 64) 0 ≡ 2 ^ (min (pages - 64 * (q / 64)) 64) - 1 → page_bit words q ≡ ltb q pages
page_bit_ones words pages q e = ap (λ (w : ℕ). eqb (bit_at w (q % 64)) 1) e ∙ at (cases_lt q pages)
  where
    at : (q < pages) ⊎ (pages ≤ q) → eqb (bit_at (2 ^ (min (pages - 64 * (q / 64)) 64) - 1) (q % 64)) 1 ≡ ltb q pages
    at (inl h) = eq-eqb _ 1 (bit_at_ones (min (pages - 64 * (q / 64)) 64) (q % 64) (omega arith)) ∙ sym (lt-ltb q pages h)
    at (inr h) =
        ap (λ (x : ℕ). eqb x 1) (bit_at_ones_above (min (pages - 64 * (q / 64)) 64) (q % 64) (omega arith))
        ∙ sym (le-ltb q pages h)

-- a word's ones are as many as the pages that they stand for
pub length-of_word : (test : ℕ → Bool) (s n w : ℕ) → w < 2 ^ n → ((i : ℕ) → i < n → test (s + i) ≡ eqb (bit_at w i) 1) → length (numbers_where test s n) ≡ count_ones w
length-of_word test s zero w below each = omega (arith, ones-le 0 w below)
length-of_word test s (suc n) w below each =
    length-cond (test s) s (numbers_where test (s + 1) n)
    ∙ ap (λ (x : ℕ). x + length (numbers_where test (s + 1) n)) first
    ∙ ap (λ (x : ℕ). w % 2 + x) (length-of_word test (s + 1) n (w / 2) (omega (arith, pow-suc 2 n)) (λ i h. later i h))
    ∙ sym (ones_step w)
  where
    first : cond (test s) 1 0 ≡ w % 2
    first =
        let here : s ≡ s + 0 = omega arith in
        ap (λ (x : ℕ). cond (test x) 1 0) here
        ∙ ap (λ (b : Bool). cond b 1 0) (each 0 (omega arith))
        ∙ ap (λ (x : ℕ). cond (eqb x 1) 1 0) (bit_at_lowest w)
        ∙ bit_is (w % 2) (omega arith)

    later : (i : ℕ) → i < n → test (s + 1 + i) ≡ eqb (bit_at (w / 2) i) 1
    later i h =
        let there : s + 1 + i ≡ s + suc i = omega arith in
        ap test there ∙ each (suc i) (omega arith) ∙ ap (λ (x : ℕ). eqb x 1) (bit_at-suc w i)

-- the pages of one word more
pub length_more : (words : List ℕ) (k n : ℕ) → n ≡ 64 → get_or words k 0 < 2 ^ 64 → length (numbers_where (page_bit words) 0 (n * k + n)) ≡ length (numbers_where (page_bit words) 0 (n * k)) + count_ones (get_or words k 0)
length_more words k n e below =
    ap length (numbers_where-add (page_bit words) 0 (n * k) n)
    ∙ length-append (numbers_where (page_bit words) 0 (n * k)) (numbers_where (page_bit words) (0 + n * k) n)
    ∙ ap (λ (x : ℕ). length (numbers_where (page_bit words) 0 (n * k)) + x) (length-of_word (page_bit words) (0 + n * k) n (get_or words k 0) (subst (λ (x : ℕ). get_or words k 0 < 2 ^ x) (sym e) below) each)
  where
    each : (i : ℕ) → i < n → page_bit words (0 + n * k + i) ≡ eqb (bit_at (get_or words k 0) i) 1
    each i h =
        let word : (0 + n * k + i) / 64 ≡ k = rw e (omega arith) in
        let bit : (0 + n * k + i) % 64 ≡ i = rw e (omega arith) in
        ap (λ (j : ℕ). eqb (bit_at (get_or words j 0) ((0 + n * k + i) % 64)) 1) word
        ∙ ap (λ (j : ℕ). eqb (bit_at (get_or words k 0) j) 1) bit

-- ---- words that are a set's

zeros : (n j z : ℕ) → get_or (replicate n z) j z ≡ z
zeros zero j z = refl
zeros (suc n) zero z = refl
zeros (suc n) (suc j) z = zeros n j z

page_bit_zeros : (n q : ℕ) → page_bit (replicate n 0) q ≡ false
page_bit_zeros n q =
    ap (λ (w : ℕ). eqb (bit_at w (q % 64)) 1) (zeros n (q / 64) 0) ∙ ap (λ (x : ℕ). eqb x 1) (bit_at-zero (q % 64))

-- words of zeros hold no page
pub no_pages : pages_of_words (replicate 16 0) ≡ []
no_pages = pages_where_none (page_bit (replicate 16 0)) (λ q h. page_bit_zeros 16 q)

-- the set that words hold is known by its members
pub set_of_words : (words xs : List ℕ) → pages_of_words words ≡ xs → IsPageList xs
set_of_words words xs e = subst IsPageList e (IsPageList-pages_where (page_bit words))

-- its members are the bits
pub member_of_words : (words xs : List ℕ) → pages_of_words words ≡ xs → (q : ℕ) → q < 1024 → page_bit words q ≡ contains_page xs q
member_of_words words xs e q h =
    sym (contains-pages_where (page_bit words) q h) ∙ ap (λ (ys : List ℕ). contains_page ys q) e

-- the test of one page
pub bit_of_page : (words xs : List ℕ) (p : ℕ) → pages_of_words words ≡ xs → p < 1024 → eqb (bit_and (get_or words (p / 64) 0 / 2 ^ (p % 64)) 1) 1 ≡ contains_page xs p
bit_of_page words xs p e h =
    ap (λ (x : ℕ). eqb x 1) (shr_and_one (get_or words (p / 64) 0) (p % 64)) ∙ member_of_words words xs e p h

-- the set with one page more
pub added : (words xs : List ℕ) (p : ℕ) → pages_of_words words ≡ xs → p / 64 < length words → pages_of_words (set words (p / 64) (bit_or (get_or words (p / 64) 0) (1 * 2 ^ (p % 64) % 2 ^ 64))) ≡ pages_where (λ q. contains_page xs q || eqb q p)
added words xs p e within =
    pages_where_same _ _ (λ q h. page_bit_add words p within q ∙ ap (λ (b : Bool). b || eqb q p) (member_of_words words xs e q h))

-- the set with one page less
pub removed : (words xs : List ℕ) (p : ℕ) → pages_of_words words ≡ xs → p / 64 < length words → pages_of_words (set words (p / 64) (cleared_word words p)) ≡ pages_where (λ q. contains_page xs q && not (eqb q p))
removed words xs p e within =
    pages_where_same _ _ (λ q h. page_bit_remove words p within q ∙ ap (λ (b : Bool). b && not (eqb q p)) (member_of_words words xs e q h))

-- two sets in one
pub joined : (a b c xs ys : List ℕ) → pages_of_words a ≡ xs → pages_of_words b ≡ ys → ((q : ℕ) → page_bit c q ≡ (page_bit a q || page_bit b q)) → pages_of_words c ≡ pages_where (λ q. contains_page xs q || contains_page ys q)
joined a b c xs ys e f each =
    pages_where_same _ _ (λ q h. each q ∙ ap₂ (λ (x y : Bool). x || y) (member_of_words a xs e q h) (member_of_words b ys f q h))

-- the members of a set of a test that nothing from 1,024 on passes
pub members_of : (xs : List ℕ) (test : ℕ → Bool) → xs ≡ pages_where test → ((q : ℕ) → 1024 ≤ q → test q ≡ false) → (q : ℕ) → contains_page xs q ≡ test q
members_of xs test e none q = ap (λ (ys : List ℕ). contains_page ys q) e ∙ at (cases_lt q 1024)
  where
    at : (q < 1024) ⊎ (1024 ≤ q) → contains_page (pages_where test) q ≡ test q
    at (inl h) = contains-pages_where test q h
    at (inr h) = contains-pages_where_above test q h ∙ sym (none q h)

-- a bit of what is left of a word after a shift
pub bit_at_rest : (w k i : ℕ) → bit_at (w / 2 ^ k) i ≡ bit_at w (k + i)
bit_at_rest w k i =
    ap (λ (x : ℕ). x % 2) (div-div-eq-div-mul w (2 ^ k) (2 ^ i) ∙ ap (λ (y : ℕ). w / y) (sym (pow-add 2 k i)))

-- the members of a set with one page more
pub added_members : (words xs : List ℕ) (p : ℕ) → pages_of_words words ≡ xs → p < 1024 → p / 64 < length words → (q : ℕ) → contains_page (pages_of_words (set words (p / 64) (bit_or (get_or words (p / 64) 0) (1 * 2 ^ (p % 64) % 2 ^ 64)))) q ≡ (contains_page xs q || eqb q p)
added_members words xs p e low within =
    members_of _ (λ q. contains_page xs q || eqb q p) (added words xs p e within) (λ q h. or_from _ _ (no_page_above xs (set_of_words words xs e) q h) (ne_eqb q p (λ s. omega arith)))

-- the members of a set with one page less
pub removed_members : (words xs : List ℕ) (p : ℕ) → pages_of_words words ≡ xs → p / 64 < length words → (q : ℕ) → contains_page (pages_of_words (set words (p / 64) (cleared_word words p))) q ≡ (contains_page xs q && not (eqb q p))
removed_members words xs p e within =
    members_of _ (λ q. contains_page xs q && not (eqb q p)) (removed words xs p e within) (λ q h. ap (λ (b : Bool). b && not (eqb q p)) (no_page_above xs (set_of_words words xs e) q h))

-- the members of two sets in one
pub joined_members : (a b c xs ys : List ℕ) → pages_of_words a ≡ xs → pages_of_words b ≡ ys → ((q : ℕ) → page_bit c q ≡ (page_bit a q || page_bit b q)) → (q : ℕ) → contains_page (pages_of_words c) q ≡ (contains_page xs q || contains_page ys q)
joined_members a b c xs ys e f each =
    members_of _ (λ q. contains_page xs q || contains_page ys q) (joined a b c xs ys e f each) (λ q h. or_from _ _ (no_page_above xs (set_of_words a xs e) q h) (no_page_above ys (set_of_words b ys f) q h))

-- the first `pages` pages
pub full_members : (words : List ℕ) (pages : ℕ) → pages ≤ 1024 → ((q : ℕ) → q < 1024 → page_bit words q ≡ ltb q pages) → (q : ℕ) → contains_page (pages_of_words words) q ≡ ltb q pages
full_members words pages few each =
    members_of _ (λ q. ltb q pages) (pages_where_same _ _ each) (λ q h. le-ltb q pages (omega arith))

pub full_list : (words : List ℕ) (pages : ℕ) → pages ≤ 1024 → ((q : ℕ) → q < 1024 → page_bit words q ≡ ltb q pages) → pages_of_words words ≡ numbers_where (λ _. true) 0 pages
full_list words pages few each =
    pages_where_first (page_bit words) pages few (λ q h. each q (omega arith) ∙ lt-ltb q pages h) (λ q h k. each q k ∙ le-ltb q pages h)

zero≢one : zero ≡ 1 → ⊥
zero≢one e = omega arith

-- the first bit from a place on, of a word that is not 0 above it
pub first_bit_found : (word from : ℕ) → word < 2 ^ 64 → (word / 2 ^ from ≡ 0 → ⊥) → (from ≤ from + trailing_zeros w64 (word / 2 ^ from)) × (from + trailing_zeros w64 (word / 2 ^ from) < 64) × (bit_at word (from + trailing_zeros w64 (word / 2 ^ from)) ≡ 1)
first_bit_found word from below rest = (omega arith, within, is_set)
  where
    lowest : (trailing_zeros w64 (word / 2 ^ from) < 64) × (bit_at (word / 2 ^ from) (trailing_zeros w64 (word / 2 ^ from)) ≡ 1) × ((i : ℕ) → i < trailing_zeros w64 (word / 2 ^ from) → bit_at (word / 2 ^ from) i ≡ 0)
    lowest = bit_at-trailing_zeros w64 (word / 2 ^ from) (omega arith) (omega (arith, div-le_self word (2 ^ from)))

    is_set : bit_at word (from + trailing_zeros w64 (word / 2 ^ from)) ≡ 1
    is_set = sym (bit_at_rest word from (trailing_zeros w64 (word / 2 ^ from))) ∙ lowest.1

    within : from + trailing_zeros w64 (word / 2 ^ from) < 64
    within = at (cases_lt (from + trailing_zeros w64 (word / 2 ^ from)) 64)
      where
        at : (from + trailing_zeros w64 (word / 2 ^ from) < 64) ⊎ (64 ≤ from + trailing_zeros w64 (word / 2 ^ from)) → from + trailing_zeros w64 (word / 2 ^ from) < 64
        at (inl h) = h
        at (inr h) = absurd (zero≢one (sym (bit_at_above word 64 _ below h) ∙ is_set))

pub first_bit_least : (word from : ℕ) → word < 2 ^ 64 → (word / 2 ^ from ≡ 0 → ⊥) → (j : ℕ) → from ≤ j → j < from + trailing_zeros w64 (word / 2 ^ from) → bit_at word j ≡ 0
first_bit_least word from below rest j low high =
    let there : from + (j - from) ≡ j = omega arith in
    ap (bit_at word) (sym there)
    ∙ sym (bit_at_rest word from (j - from))
    ∙ (bit_at-trailing_zeros w64 (word / 2 ^ from) (omega arith) (omega (arith, div-le_self word (2 ^ from)))).2 (j - from) (omega arith)

pub no_bit : (word from : ℕ) → word / 2 ^ from ≡ 0 → (j : ℕ) → from ≤ j → bit_at word j ≡ 0
no_bit word from rest j low =
    let there : from + (j - from) ≡ j = omega arith in
    ap (bit_at word) (sym there)
    ∙ sym (bit_at_rest word from (j - from))
    ∙ ap (λ (w : ℕ). bit_at w (j - from)) rest
    ∙ bit_at-zero (j - from)

-- what a search of the words found is the least page of the set
pub least_value : (words xs : List ℕ) (p : ℕ) (r : Option ℕ) → pages_of_words words ≡ xs → IfSome r (λ q. (p ≤ q) × (q < 1024) × (page_bit words q ≡ true)) → IfSome r (λ q. (s : ℕ) → p ≤ s → s < q → page_bit words s ≡ false) → IfNone r ((s : ℕ) → p ≤ s → s < 1024 → page_bit words s ≡ false) → r ≡ least_page_from xs p
least_value words xs p None e found least none =
    sym (least-pages_where_none (page_bit words) p none) ∙ ap (λ (ys : List ℕ). least_page_from ys p) e
least_value words xs p (Some q) e found least none =
    sym (least-pages_where_found (page_bit words) p q found.1 found.0 found.2 least) ∙ ap (λ (ys : List ℕ). least_page_from ys p) e

pub least_found : (words xs : List ℕ) (p : ℕ) (r : Option ℕ) → pages_of_words words ≡ xs → IfSome r (λ q. (p ≤ q) × (q < 1024) × (page_bit words q ≡ true)) → IfSome r (λ q. (p ≤ q) × (q < 1024) × IsTrue (contains_page xs q))
least_found words xs p None e found = found
least_found words xs p (Some q) e found = (found.0, found.1, sym (member_of_words words xs e q found.1) ∙ found.2)

pub least_least : (words xs : List ℕ) (p : ℕ) (r : Option ℕ) → pages_of_words words ≡ xs → IfSome r (λ q. (p ≤ q) × (q < 1024) × (page_bit words q ≡ true)) → IfSome r (λ q. (s : ℕ) → p ≤ s → s < q → page_bit words s ≡ false) → IfSome r (λ q. (s : ℕ) → p ≤ s → s < q → contains_page xs s ≡ false)
least_least words xs p None e found least = least
least_least words xs p (Some q) e found least =
    λ s low high. sym (member_of_words words xs e s (omega (arith, found.1))) ∙ least s low high

pub least_none : (words xs : List ℕ) (p : ℕ) (r : Option ℕ) → pages_of_words words ≡ xs → IfNone r ((s : ℕ) → p ≤ s → s < 1024 → page_bit words s ≡ false) → IfNone r ((s : ℕ) → p ≤ s → contains_page xs s ≡ false)
least_none words xs p None e none = λ s low. at s low (cases_lt s 1024)
  where
    at : (s : ℕ) → p ≤ s → (s < 1024) ⊎ (1024 ≤ s) → contains_page xs s ≡ false
    at s low (inl h) = sym (member_of_words words xs e s h) ∙ none s low h
    at s low (inr h) = no_page_above xs (set_of_words words xs e) s h
least_none words xs p (Some q) e none = none

-- the pages of all words
pub length_all : (words : List ℕ) (n total : ℕ) → n ≡ 1024 → total ≡ length (numbers_where (page_bit words) 0 n) → total ≡ length (pages_of_words words)
length_all words n total e h = h ∙ ap length (sym (pages_where_is (page_bit words) n e))
