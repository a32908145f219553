-- Sets of pages below 1,024: rising lists of numbers, kept as sixteen words of sixty-four bits.
use Rattle.std.specs.Prelude.{◌≡◌, ℕ, ◌+◌, ◌/◌, ◌%◌, ◌==◌, ◌||◌, Bool, false, List, [], ◌∷◌, Option, Some, None, slice_index, nat_le, suc, zero, if◌then◌else◌}
use Rattle.std.specs.Int.{bit_at}

-- of n numbers from p on, those that pass the test, in rising order
abbrev pub numbers_where : (ℕ → Bool) → ℕ → ℕ → List ℕ
numbers_where test p zero = []
numbers_where test p (suc n) = if test p then p ∷ numbers_where test (p + 1) n else numbers_where test (p + 1) n

-- the pages below 1,024 that pass the test, in rising order
unfoldable pub pages_where : (ℕ → Bool) → List ℕ
pages_where test = numbers_where test 0 1024

-- the list has the page
abbrev pub contains_page : List ℕ → ℕ → Bool
contains_page [] p = false
contains_page (q ∷ qs) p = q == p || contains_page qs p

-- the list is a set of pages: in rising order, none twice, all below 1,024, so that its members alone say which it is
abbrev pub IsPageList : List ℕ → Type 0
IsPageList pages = pages ≡ pages_where (contains_page pages)

-- of a rising list, the least page from p on
abbrev pub least_page_from : List ℕ → ℕ → Option ℕ
least_page_from [] p = None
least_page_from (q ∷ qs) p = if nat_le p q then Some q else least_page_from qs p

-- the bit of a page: bit p mod 64 of word p div 64
abbrev pub page_bit : List ℕ → ℕ → Bool
page_bit words p = bit_at (slice_index words (p / 64)) (p % 64) == 1

-- the pages whose bits are set
abbrev pub pages_of_words : List ℕ → List ℕ
pages_of_words words = pages_where (page_bit words)
