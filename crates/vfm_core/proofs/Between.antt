-- Two devices of a list at once, out of its two halves.
use Rattle.std.proofs.Common.{◌≡◌, ℕ, ◌+◌, ◌<◌, ◌≤◌, List, ◌++◌, length, take, drop, slice_index_or, slice_set, ap, ap₂, sym, ◌∙◌, arith}
use Rattle.std.proofs.lemmas.List.{get_or-take, get_or-drop, get_or_default, take-set-le, drop-set-lt, drop-set-add, take-append-drop, set_comm}
use Rattle.std.proofs.Math.Seq.{take-set-lt}
use Rattle.vfm_parts.specs.Parts.{Dev, no_dev}
use Rattle.vfm_lead.specs.LeadSteps.{dev_of_list}

-- a device of the first half, and the first of the second
pub low_item : (devs low : List Dev) (i j k : ℕ) (x : Dev) → low ≡ take j devs → k ≡ i → i < j → j ≤ length devs → slice_index_or low k x ≡ dev_of_list devs i
low_item devs low i j k x half place before inside =
    ap₂ (λ (xs : List Dev) (n : ℕ). slice_index_or xs n x) half place ∙ get_or-take j devs i x before ∙ get_or_default devs i x no_dev (omega arith)

pub high_item : (devs high : List Dev) (j : ℕ) (x : Dev) → high ≡ drop j devs → j < length devs → slice_index_or high 0 x ≡ dev_of_list devs j
high_item devs high j x half inside =
    let here : j + 0 ≡ j = omega arith in
    ap (λ (xs : List Dev). slice_index_or xs 0 x) half ∙ get_or-drop j devs 0 x ∙ ap (λ (n : ℕ). slice_index_or devs n x) here
    ∙ get_or_default devs j x no_dev inside

-- both are set
pub both_set : (devs low high : List Dev) (i j k : ℕ) (a b : Dev) → low ≡ take j devs → high ≡ drop j devs → k ≡ i → i < j
    → slice_set low k a ++ slice_set high 0 b ≡ slice_set (slice_set devs i a) j b
both_set devs low high i j k a b front back place before =
    let here : j + 0 ≡ j = omega arith in
    let set_once = slice_set devs i a in
    ap₂ (λ (xs : List Dev) (n : ℕ). slice_set xs n a ++ slice_set high 0 b) front place
    ∙ ap (λ (ys : List Dev). slice_set (take j devs) i a ++ slice_set ys 0 b) back
    ∙ ap₂ (λ (xs ys : List Dev). xs ++ ys)
    (sym (take-set-le j set_once j b (omega arith) ∙ take-set-lt j devs i a before))
    (sym (ap (λ (n : ℕ). drop j (slice_set set_once n b)) (sym here) ∙ drop-set-add j set_once 0 b
    ∙ ap (λ (ys : List Dev). slice_set ys 0 b) (drop-set-lt j devs i a before)))
    ∙ take-append-drop j (slice_set set_once j b)

-- the other way round
pub both_set_turned : (devs low high : List Dev) (i j k : ℕ) (a b : Dev) → low ≡ take j devs → high ≡ drop j devs → k ≡ i → i < j
    → slice_set low k a ++ slice_set high 0 b ≡ slice_set (slice_set devs j b) i a
both_set_turned devs low high i j k a b front back place before =
    both_set devs low high i j k a b front back place before ∙ set_comm devs i j a b (λ e. omega arith)
