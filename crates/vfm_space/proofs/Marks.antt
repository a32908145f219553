-- A loop over the blocks that some bytes touch marks them one after another.
use Rattle.std.proofs.Common.{◌≡◌, ℕ, ◌+◌, ◌≤◌, ◌==◌, ◌&&◌, ◌||◌, not, nat_lt, Bool, true, false, List, length, refl, ap, ◌∙◌, arith}
use Rattle.std.specs.Prelude.{nat_le}
use Rattle.vfm_base.specs.PageSet.{IsPageList, contains_page, numbers_where, pages_where}
use Rattle.vfm_base.proofs.NumbersWhere.{contains-pages_where, length-numbers_where_le, pages_where_is, pages_where_same}

-- the blocks that the loop has come to before block b, as far as they were read before
abbrev pub marked_before : (ℕ → Bool) → (ℕ → Bool) → ℕ → ℕ → ℕ → Bool
marked_before old unread first b q = old q || (nat_le first q && nat_lt q b && not (unread q))

one_more : (x u : Bool) (first q b : ℕ) → first ≤ b → (q ≡ b → u ≡ false) → ((x || (nat_le first q && nat_lt q b && not u)) || q == b) ≡ (x || (nat_le first q && nat_lt q (b + 1) && not u))
one_more x u first q b low free = grind arith

none_more : (x u : Bool) (first q b : ℕ) → (q ≡ b → u ≡ true) → (x || (nat_le first q && nat_lt q b && not u)) ≡ (x || (nat_le first q && nat_lt q (b + 1) && not u))
none_more x u first q b held = grind arith

-- block b is marked: it was read before
pub marked_with : (dirty old unread : List ℕ) (first b : ℕ) → first ≤ b → contains_page unread b ≡ false
    → dirty ≡ pages_where (marked_before (contains_page old) (contains_page unread) first b)
    → pages_where (λ q. contains_page dirty q || q == b) ≡ pages_where (marked_before (contains_page old) (contains_page unread) first (b + 1))
marked_with dirty old unread first b low free is =
    pages_where_same _ _ (λ q below.
    ap (λ (x : Bool). x || q == b) (ap (λ (pages : List ℕ). contains_page pages q) is ∙ contains-pages_where _ q below)
    ∙ one_more (contains_page old q) (contains_page unread q) first q b low (λ same. ap (contains_page unread) same ∙ free))

-- block b isn't marked: it is yet to be read
pub marked_without : (dirty old unread : List ℕ) (first b : ℕ) → contains_page unread b ≡ true
    → dirty ≡ pages_where (marked_before (contains_page old) (contains_page unread) first b)
    → dirty ≡ pages_where (marked_before (contains_page old) (contains_page unread) first (b + 1))
marked_without dirty old unread first b held is =
    is ∙ pages_where_same _ _ (λ q below.
    none_more (contains_page old q) (contains_page unread q) first q b (λ same. ap (contains_page unread) same ∙ held))

few : (pages : List ℕ) (n : ℕ) → n ≡ 1024 → IsPageList pages → length pages ≤ n
few pages n is set =
    let same : length pages ≡ length (numbers_where (contains_page pages) 0 n) = ap length (set ∙ pages_where_is (contains_page pages) n is) in
    omega (arith, same, length-numbers_where_le (contains_page pages) 0 n)

-- a set has no more than 1,024 members
pub few_pages : (pages : List ℕ) → IsPageList pages → length pages ≤ 1024
few_pages pages set = few pages 1024 refl set
