-- Which numbers stand in the lists of touched cells.
use Rattle.std.proofs.Math.Bool.{or-false}
use Rattle.std.proofs.Common.{◌≡◌, ℕ, zero, suc, ◌+◌, ◌<◌, ◌≤◌, ◌==◌, ◌||◌, Bool, true, false, nat_lt, if◌then◌else◌, [], ◌∷◌, refl, ap, ap₂, ◌∙◌, arith, eqb-true}
use Rattle.std.proofs.lemmas.Bool.{eq-eqb, ne_eqb, eqb-false}
use Rattle.vfm_types.specs.declared.desc.Desc.{Desc}
use Rattle.vfm_types.specs.Desc.{device_count}
use Rattle.vfm_turn.specs.Order.{has}
use Rattle.vfm_laws.proofs.Rising.{by_bool}
use Rattle.vfm_cells.specs.Cells.{dev_number, page_number}
use Rattle.vfm_cells.specs.Touched.{up_from, in_order}

-- equal numbers moved by the same
pub moved_same : (a b n : ℕ) → (a + n == b + n) ≡ (a == b)
moved_same a b n =
    by_bool (a == b) (λ t. (a == b) ≡ t → (a + n == b + n) ≡ t)
    (λ here e. let same : a ≡ b = eqb-true a b e in eq-eqb (a + n) (b + n) (ap (λ (k : ℕ). k + n) same))
    (λ away e. ne_eqb (a + n) (b + n) (λ same. eqb-false a b e (omega arith))) refl

-- ---- a device's cell alone

pub own_dev : (d k : ℕ) → has (dev_number k) (dev_number d ∷ []) ≡ (d == k)
own_dev d k = or-false (dev_number d == dev_number k) ∙ moved_same d k 1

pub own_lead : (d : ℕ) → has 0 (dev_number d ∷ []) ≡ false
own_lead d = or-false (dev_number d == 0) ∙ ne_eqb (d + 1) 0 (λ same. omega arith)

pub own_page : (D : Desc) (d i : ℕ) → d < device_count D → has (page_number D i) (dev_number d ∷ []) ≡ false
own_page D d i inside = or-false (dev_number d == page_number D i) ∙ ne_eqb (d + 1) (i + (device_count D + 1)) (λ same. omega arith)

-- ---- the coordinator's and a device's

pub two_dev : (d k : ℕ) → has (dev_number k) (0 ∷ dev_number d ∷ []) ≡ (d == k)
two_dev d k = ap₂ (λ (a b : Bool). a || b) (ne_eqb 0 (k + 1) (λ same. omega arith)) (own_dev d k)

pub two_page : (D : Desc) (d i : ℕ) → d < device_count D → has (page_number D i) (0 ∷ dev_number d ∷ []) ≡ false
two_page D d i inside = ap₂ (λ (a b : Bool). a || b) (ne_eqb 0 (i + (device_count D + 1)) (λ same. omega arith)) (own_page D d i inside)

-- ---- the coordinator's and a page's

pub copy_dev : (D : Desc) (p k : ℕ) → k < device_count D → has (dev_number k) (0 ∷ page_number D p ∷ []) ≡ false
copy_dev D p k inside =
    ap₂ (λ (a b : Bool). a || b) (ne_eqb 0 (k + 1) (λ same. omega arith))
    (or-false (page_number D p == dev_number k) ∙ ne_eqb (p + (device_count D + 1)) (k + 1) (λ same. omega arith))

pub copy_page : (D : Desc) (p i : ℕ) → has (page_number D i) (0 ∷ page_number D p ∷ []) ≡ (p == i)
copy_page D p i =
    ap₂ (λ (a b : Bool). a || b) (ne_eqb 0 (i + (device_count D + 1)) (λ same. omega arith))
    (or-false (page_number D p == page_number D i) ∙ moved_same p i (device_count D + 1))

-- ---- the coordinator's and every device's

pub up_has : (c a n : ℕ) → a ≤ c → c < a + n → has c (up_from a n) ≡ true
up_has c a zero low high = absurd (omega arith)
up_has c a (suc n) low high =
    by_bool (a == c) (λ b. (a == c) ≡ b → (b || has c (up_from (a + 1) n)) ≡ true) (λ here e. refl)
    (λ away e. up_has c (a + 1) n (above (eqb-false a c e)) (omega arith)) refl
  where
    above : (a ≡ c → ⊥) → a + 1 ≤ c
    above other = omega (arith, other)

pub up_past : (c a n : ℕ) → a + n ≤ c → has c (up_from a n) ≡ false
up_past c a zero high = refl
up_past c a (suc n) high =
    ap₂ (λ (x y : Bool). x || y) (ne_eqb a c (λ same. omega arith)) (up_past c (a + 1) n (omega arith))

-- ---- two cells in order

pub order_has : (a b c : ℕ) → has c (in_order a b) ≡ (a == c || b == c)
order_has a b c =
    by_bool (a == b)
    (λ t. (a == b) ≡ t → has c (if t then a ∷ [] else (if nat_lt a b then a ∷ b ∷ [] else b ∷ a ∷ [])) ≡ (a == c || b == c))
    (λ same e. twice (a == c) ∙ ap (λ (k : ℕ). a == c || k == c) (eqb-true a b e))
    (λ apart e. by_bool (nat_lt a b)
    (λ t. has c (if t then a ∷ b ∷ [] else b ∷ a ∷ []) ≡ (a == c || b == c))
    (λ low. ap (λ (t : Bool). a == c || t) (or-false (b == c)))
    (λ high. swapped (a == c) (b == c))) refl
  where
    twice : (t : Bool) → (t || false) ≡ (t || t)
    twice true = refl
    twice false = refl

    swapped : (x y : Bool) → (y || (x || false)) ≡ (x || y)
    swapped true true = refl
    swapped true false = refl
    swapped false true = refl
    swapped false false = refl
