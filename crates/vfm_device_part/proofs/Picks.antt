-- The allowed steps of a device, one after another.
use Rattle.std.proofs.Common.{◌≡◌, ℕ, zero, suc, ◌+◌, ◌-◌, ◌<◌, ◌≤◌, ◌==◌, ◌%◌, Bool, true, false, if◌then◌else◌, List, [], ◌∷◌, ◌++◌, length, Option, None, Some, is_none, is_some, unwrap_or, refl, sym, ap, ◌∙◌, arith}
use Rattle.std.proofs.Math.Nat.{mod-eq_of_lt}
use Rattle.std.proofs.lemmas.Bool.{false≢true}
use Rattle.std.proofs.lemmas.List.{append_assoc, length-append}
use Rattle.vfm_types.specs.declared.entry.Entry.{Entry}
use Rattle.vfm_types.specs.declared.entry.Entry.TheVariants.{Issue, Deliver, Complete}
use Rattle.vfm_types.specs.Outstanding.{Outstanding, delivered_count, undelivered_count}
use Rattle.vfm_types.specs.declared.desc.Desc.{Desc}
use Rattle.vfm_types.specs.declared.entry.Rule.{Rule}
use Rattle.vfm_plain.specs.IssueRules.{first_number}
use Rattle.vfm_parts.specs.Parts.{Dev}
use Rattle.vfm_parts_laws.specs.LooksIn.{issue_barred_in, unissued_in}
use Rattle.vfm_device.specs.Bus.{is_same_flag, number_at}
use Rattle.vfm_device_part.specs.Pick.{completions, deliveries, entry_at, issue_if_allowed, picked}

-- an entry of a number, if there is one
abbrev pub entry_of : (ℕ → Entry) → Option ℕ → Option Entry
entry_of make None = None
entry_of make (Some n) = Some (make n)

-- ---- places

pub at_front : (xs ys : List Entry) (k : ℕ) → k < length xs → entry_at (xs ++ ys) k ≡ entry_at xs k
at_front [] ys k within = absurd (omega arith)
at_front (x ∷ xs) ys zero within = refl
at_front (x ∷ xs) ys (suc k) within = at_front xs ys k (omega arith)

pub at_back : (xs ys : List Entry) (k : ℕ) → length xs ≤ k → entry_at (xs ++ ys) k ≡ entry_at ys (k - length xs)
at_back [] ys k past = let same : k ≡ k - 0 = omega arith in ap (entry_at ys) same
at_back (x ∷ xs) ys zero past = absurd (omega arith)
at_back (x ∷ xs) ys (suc k) past = let same : k - length xs ≡ suc k - length (x ∷ xs) = omega arith in at_back xs ys k (omega arith) ∙ ap (entry_at ys) same

size : (xs ys zs : List Entry) → length (xs ++ (ys ++ zs)) ≡ length xs + length ys + length zs
size xs ys zs =
    let one = length-append xs (ys ++ zs) in
    let two = length-append ys zs in
    omega (arith, one, two)

-- of three lists one after another: none, or one of the first, the second or the third
pub picked_none : (xs ys zs : List Entry) (pick : ℕ) → length xs + length ys + length zs ≡ 0 → picked (xs ++ (ys ++ zs)) pick ≡ None
picked_none [] [] [] pick none = refl
picked_none [] [] (z ∷ zs) pick none = absurd (omega (arith, none))
picked_none [] (y ∷ ys) zs pick none = absurd (omega (arith, none))
picked_none (x ∷ xs) ys zs pick none = absurd (omega (arith, none))

pub picked_front : (xs ys zs : List Entry) (pick k n : ℕ) → n ≡ length xs + length ys + length zs → k ≡ pick % n → k < length xs + length ys
    → picked (xs ++ (ys ++ zs)) pick ≡ entry_at (xs ++ ys) k
picked_front xs ys zs pick k n count is within =
    let both = length-append xs ys in
    ap (λ (m : ℕ). entry_at (xs ++ (ys ++ zs)) (pick % m)) (size xs ys zs ∙ sym count) ∙ ap (entry_at (xs ++ (ys ++ zs))) (sym is)
    ∙ ap (λ (list : List Entry). entry_at list k) (sym (append_assoc xs ys zs)) ∙ at_front (xs ++ ys) zs k (omega (arith, both, within))

-- a number below how many there are in front is its own remainder
pub picked_early : (xs ys zs : List Entry) (pick : ℕ) → pick < length xs + length ys → picked (xs ++ (ys ++ zs)) pick ≡ entry_at (xs ++ ys) pick
picked_early xs ys zs pick within =
    let low : pick < length xs + length ys + length zs = omega (arith, within) in
    picked_front xs ys zs pick pick (length xs + length ys + length zs) refl (sym (mod-eq_of_lt low)) within

pub picked_third : (xs ys zs : List Entry) (pick k n : ℕ) → n ≡ length xs + length ys + length zs → k ≡ pick % n → length xs + length ys ≤ k
    → k < n → length zs ≤ 1 → picked (xs ++ (ys ++ zs)) pick ≡ entry_at zs 0
picked_third xs ys zs pick k n count is past low few =
    let first : k - length xs - length ys ≡ 0 = omega (arith, past, low, few, count) in
    ap (λ (m : ℕ). entry_at (xs ++ (ys ++ zs)) (pick % m)) (size xs ys zs ∙ sym count) ∙ ap (entry_at (xs ++ (ys ++ zs))) (sym is)
    ∙ at_back xs (ys ++ zs) k (omega (arith, past)) ∙ at_back ys zs (k - length xs) (omega (arith, past)) ∙ ap (entry_at zs) first

-- ---- requests

pub completion_count : (d : ℕ) (requests : List Outstanding) → length (completions d requests) ≡ delivered_count requests
completion_count d [] = refl
completion_count d (r ∷ requests) = go r.is_delivered (completion_count d requests)
  where
    go : (b : Bool) → length (completions d requests) ≡ delivered_count requests
        → length (if b then Complete d r.number ∷ completions d requests else completions d requests) ≡ delivered_count requests + (if b then 1 else 0)
    go true rest = omega (arith, rest)
    go false rest = omega (arith, rest)

pub delivery_count : (d : ℕ) (requests : List Outstanding) → length (deliveries d requests) ≡ undelivered_count requests
delivery_count d [] = refl
delivery_count d (r ∷ requests) = go r.is_delivered (delivery_count d requests)
  where
    go : (b : Bool) → length (deliveries d requests) ≡ undelivered_count requests
        → length (if b then deliveries d requests else Deliver d r.number ∷ deliveries d requests) ≡ undelivered_count requests + (if b then 0 else 1)
    go true rest = omega (arith, rest)
    go false rest = omega (arith, rest)

pub completion_is : (d : ℕ) (requests : List Outstanding) (k : ℕ) → entry_at (completions d requests) k ≡ entry_of (Complete d) (number_at true requests k)
completion_is d [] k = refl
completion_is d (r ∷ requests) k = go r.is_delivered k (completion_is d requests)
  where
    go : (b : Bool) (k : ℕ) → ((k : ℕ) → entry_at (completions d requests) k ≡ entry_of (Complete d) (number_at true requests k))
        → entry_at (if b then Complete d r.number ∷ completions d requests else completions d requests) k
        ≡ entry_of (Complete d) (if is_same_flag b true then (if k == 0 then Some r.number else number_at true requests (k - 1)) else number_at true requests k)
    go true zero rest = refl
    go true (suc k) rest =
        let same : k ≡ suc k - 1 = omega arith in
        let later : (suc k == 0) ≡ false = grind arith in
        rest k ∙ ap (λ (i : ℕ). entry_of (Complete d) (number_at true requests i)) same
        ∙ ap (λ (b : Bool). entry_of (Complete d) (if b then Some r.number else number_at true requests (suc k - 1))) (sym later)
    go false k rest = rest k

pub delivery_is : (d : ℕ) (requests : List Outstanding) (k : ℕ) → entry_at (deliveries d requests) k ≡ entry_of (Deliver d) (number_at false requests k)
delivery_is d [] k = refl
delivery_is d (r ∷ requests) k = go r.is_delivered k (delivery_is d requests)
  where
    go : (b : Bool) (k : ℕ) → ((k : ℕ) → entry_at (deliveries d requests) k ≡ entry_of (Deliver d) (number_at false requests k))
        → entry_at (if b then deliveries d requests else Deliver d r.number ∷ deliveries d requests) k
        ≡ entry_of (Deliver d) (if is_same_flag b false then (if k == 0 then Some r.number else number_at false requests (k - 1)) else number_at false requests k)
    go true k rest = rest k
    go false zero rest = refl
    go false (suc k) rest =
        let same : k ≡ suc k - 1 = omega arith in
        let later : (suc k == 0) ≡ false = grind arith in
        rest k ∙ ap (λ (i : ℕ). entry_of (Deliver d) (number_at false requests i)) same
        ∙ ap (λ (b : Bool). entry_of (Deliver d) (if b then Some r.number else number_at false requests (suc k - 1))) (sym later)

-- ---- the next issue

pub issue_none : (D : Desc) (d : ℕ) (dev : Dev) → is_some (issue_barred_in D d dev) ≡ true → issue_if_allowed D d dev ≡ []
issue_none D d dev barred = go (issue_barred_in D d dev) barred
  where
    go : (o : Option Rule) → is_some o ≡ true → (if is_none o then Issue d (unwrap_or (first_number (unissued_in dev)) 0) ∷ [] else []) ≡ []
    go None h = absurd (false≢true h)
    go (Some rule) h = refl

pub issue_some : (D : Desc) (d n : ℕ) (dev : Dev) → issue_barred_in D d dev ≡ None → first_number (unissued_in dev) ≡ Some n → issue_if_allowed D d dev ≡ Issue d n ∷ []
issue_some D d n dev allowed number = rw (allowed, number) refl
