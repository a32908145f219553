-- Sets of pages as the parts of a move see them: cut at the number of pages.
use Rattle.std.proofs.Common.{◌≡◌, ℕ, ◌≤◌, ◌==◌, ◌&&◌, ◌||◌, not, Bool, true, false, nat_lt, List, ap, ap₂, sym, ◌∙◌, arith, ⊎_elim, lt-ltb}
use Rattle.std.proofs.lemmas.Bool.{cases_eq, eq-eqb, ne_eqb}
use Rattle.std.proofs.Math.Bool.{or_comm}
use Rattle.vfm_base.specs.PageSet.{contains_page, pages_where, numbers_where}
use Rattle.vfm_base.proofs.NumbersWhere.{contains-numbers_where_above}
use Rattle.vfm_types.specs.declared.desc.Desc.{Desc}
use Rattle.vfm_types.specs.Valid.{IsValid}
use Rattle.vfm_parts.specs.Parts.{numbers_below}
use Rattle.vfm_parts.specs.Fits.{IsSetBelow}
use Rattle.vfm_parts.proofs.Sets.{below_same, pages_below}

-- a set below n has nothing from n on
pub beyond : (n : ℕ) (set : List ℕ) → IsSetBelow n set → (q : ℕ) → n ≤ q → contains_page set q ≡ false
beyond n set is q above =
    ap (λ (s : List ℕ). contains_page s q) is ∙ contains-numbers_where_above (contains_page set) 0 n q (omega arith)

-- a test in another form, and cut at n
pub cut : (n : ℕ) (f g : ℕ → Bool) → n ≤ 1024 → ((q : ℕ) → n ≤ q → f q ≡ false) → ((q : ℕ) → f q ≡ g q) → pages_where f ≡ numbers_below n g
cut n f g few none same = pages_below n f few none ∙ below_same n f g (λ q h. same q)

pub turned : (a b : ℕ) → (a == b) ≡ (b == a)
turned a b =
    ⊎_elim (λ (same : a ≡ b). eq-eqb a b same ∙ sym (eq-eqb b a (sym same)))
    (λ (other : a ≡ b → ⊥). ne_eqb a b other ∙ sym (ne_eqb b a (λ e. other (sym e)))) (cases_eq a b)

-- a set without one of its pages
pub without_one : (n : ℕ) (set : List ℕ) (p : ℕ) → n ≤ 1024 → IsSetBelow n set
    → pages_where (λ q. contains_page set q && not (q == p)) ≡ numbers_below n (λ q. contains_page set q && not (p == q))
without_one n set p few is =
    cut n _ _ few (λ q above. ap (λ (b : Bool). b && not (q == p)) (beyond n set is q above))
    (λ q. ap (λ (b : Bool). contains_page set q && not b) (turned q p))

-- two sets together
pub both : (n : ℕ) (set more : List ℕ) → n ≤ 1024 → IsSetBelow n set → IsSetBelow n more
    → pages_where (λ q. contains_page set q || contains_page more q) ≡ numbers_below n (λ q. contains_page more q || contains_page set q)
both n set more few is are =
    cut n _ _ few
    (λ q above. ap₂ (λ (a b : Bool). a || b) (beyond n set is q above) (beyond n more are q above))
    (λ q. or_comm (contains_page set q) (contains_page more q))

-- all pages
pub all_pages : (n : ℕ) → numbers_where (λ q. true) 0 n ≡ numbers_below n (λ q. nat_lt q n)
all_pages n = below_same n (λ q. true) (λ q. nat_lt q n) (λ q h. sym (lt-ltb q n h))

-- a valid description has at most 1,024 pages
pub few_pages : (D : Desc) → IsValid D → D.pages ≤ 1024
few_pages D valid = valid.in_range.pages_high
