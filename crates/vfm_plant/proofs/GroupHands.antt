-- The hands on the cells of the coordinator and the devices.
use Rattle.std.proofs.Common.{◌≡◌, ℕ, zero, suc, ◌+◌, ◌<◌, ◌≤◌, ◌||◌, ◌&&◌, not, Bool, true, false, List, [], ◌∷◌, ◌++◌, map, length, take, refl, ap, ap₂, sym, subst, ◌∙◌, arith, lt-ltb, ⊎_elim, slice_index_or}
use Rattle.std.proofs.lemmas.Bool.{ne_eqb, cases_eq, false≢true}
use Rattle.vfm_types.specs.declared.desc.Desc.{Desc}
use Rattle.vfm_types.specs.declared.entry.Entry.{Entry}
use Rattle.vfm_types.specs.declared.entry.Entry.TheVariants.{Issue, Deliver, Complete, Hold, Arc, Fail, Report, Pass, Copy, Block, Dry, Begin, Joint, Abort, Resume}
use Rattle.vfm_types.specs.Desc.{device_count}
use Rattle.vfm_order.specs.Coordinator.{is_coordinators}
use Rattle.vfm_parts.specs.Parts.{Dev, Lead, Parts, World, parts_in, no_dev}
use Rattle.vfm_parts.specs.Fits.{DevFits, LeadFits}
use Rattle.vfm_turn.specs.Log.{Each}
use Rattle.vfm_turn.specs.Order.{has, are_once}
use Rattle.vfm_turn.specs.Seen.{Hold as Holding, hold, are_rising}
use Rattle.vfm_turn.proofs.Lists.{each_all}
use Rattle.vfm_cells.specs.Cells.{Cell, lead_cell, device_cell, cell_at}
use Rattle.vfm_cells.specs.CellFits.{CellFits}
use Rattle.vfm_cells.specs.Touched.{touched, up_from}
use Rattle.vfm_cells.proofs.Fitting.{dev_cell_fits}
use Rattle.vfm_lead.specs.LeadSteps.{dev_of_list}
use Rattle.vfm_plant.specs.declared.hand.Hand.{Hand}
use Rattle.vfm_plant.specs.Group.{hand_of, dev_hands, group_hands, group_holds, IsGroupTurn}
use Rattle.vfm_plant.specs.Hands.{cells_held, AreFitting, IsHolding, IsMaking, rest_of}
use Rattle.vfm_plant.proofs.Holds.{map_end}

pub dev_hands_end : (k : ℕ) (devs : List Dev) (dev : Dev) → dev_hands k (devs ++ dev ∷ []) ≡ dev_hands k devs ++ hand_of (k + length devs) (device_cell dev) ∷ []
dev_hands_end k [] dev = let same : k ≡ k + 0 = omega arith in ap (λ (c : ℕ). hand_of c (device_cell dev) ∷ []) same
dev_hands_end k (x ∷ devs) dev =
    ap (λ (hs : List Hand). hand_of k (device_cell x) ∷ hs)
    (dev_hands_end (k + 1) devs dev
    ∙ (let same : k + 1 + length devs ≡ k + suc (length devs) = omega arith in
    ap (λ (c : ℕ). dev_hands (k + 1) devs ++ hand_of c (device_cell dev) ∷ []) same))

-- one more device is held
pub holds_end : (lead : Lead) (devs : List Dev) (dev : Dev) (cell : ℕ) → cell ≡ length devs + 1
    → group_holds lead (devs ++ dev ∷ []) ≡ group_holds lead devs ++ hold cell (device_cell dev) (device_cell dev) ∷ []
holds_end lead devs dev cell is =
    let same : 1 + length devs ≡ cell = omega arith in
    ap (λ (hs : List Hand). map rest_of (hand_of 0 (lead_cell lead) ∷ hs)) (dev_hands_end 1 devs dev)
    ∙ (map_end rest_of (group_hands lead devs) (hand_of (1 + length devs) (device_cell dev))
    ∙ ap (λ (c : ℕ). group_holds lead devs ++ hold c (device_cell dev) (device_cell dev) ∷ []) same)

-- which cells they are
has_past : (k c : ℕ) (devs : List Dev) → k + length devs ≤ c → has c (cells_held (dev_hands k devs)) ≡ false
has_past k c [] high = refl
has_past k c (dev ∷ devs) high = ap₂ (λ (a b : Bool). a || b) (ne_eqb k c (λ same. omega arith)) (has_past (k + 1) c devs (omega arith))

has_low : (k c : ℕ) (devs : List Dev) → c < k → has c (cells_held (dev_hands k devs)) ≡ false
has_low k c [] low = refl
has_low k c (dev ∷ devs) low = ap₂ (λ (a b : Bool). a || b) (ne_eqb k c (λ same. omega arith)) (has_low (k + 1) c devs (omega arith))

pub group_past : (lead : Lead) (devs : List Dev) (c : ℕ) → length devs < c → has c (cells_held (group_hands lead devs)) ≡ false
group_past lead devs c high = ap₂ (λ (a b : Bool). a || b) (ne_eqb 0 c (λ same. omega arith)) (has_past 1 c devs (omega arith))

once_devs : (k : ℕ) (devs : List Dev) → are_once (cells_held (dev_hands k devs)) ≡ true
once_devs k [] = refl
once_devs k (dev ∷ devs) = ap₂ (λ (a b : Bool). not a && b) (has_low (k + 1) k devs (omega arith)) (once_devs (k + 1) devs)

pub group_once : (lead : Lead) (devs : List Dev) → are_once (cells_held (group_hands lead devs)) ≡ true
group_once lead devs = ap₂ (λ (a b : Bool). not a && b) (has_low 1 0 devs (omega arith)) (once_devs 1 devs)

cells_devs : (k : ℕ) (devs : List Dev) → cells_held (dev_hands k devs) ≡ up_from k (length devs)
cells_devs k [] = refl
cells_devs k (dev ∷ devs) = ap (λ (cs : List ℕ). k ∷ cs) (cells_devs (k + 1) devs)

pub group_cells : (lead : Lead) (devs : List Dev) → cells_held (group_hands lead devs) ≡ up_from 0 (suc (length devs))
group_cells lead devs = ap (λ (cs : List ℕ). 0 ∷ cs) (cells_devs 1 devs)

-- and that each fits its cell
fits_devs : (D : Desc) (d : ℕ) (devs : List Dev) → d + length devs ≤ device_count D
    → ((i : ℕ) → i < length devs → DevFits D (d + i) (dev_of_list devs i)) → Each (λ h. CellFits D h.cell h.part) (dev_hands (d + 1) devs)
fits_devs D d [] few fits = tt
fits_devs D d (dev ∷ devs) few fits = (
  dev_cell_fits D d dev (omega arith) (let same : d + 0 ≡ d = omega arith in subst (λ (k : ℕ). DevFits D k dev) same (fits 0 (omega arith))),
  fits_devs D (d + 1) devs (omega arith)
      (λ i h. let same : d + suc i ≡ d + 1 + i = omega arith in subst (λ (k : ℕ). DevFits D k (dev_of_list devs i)) same (fits (suc i) (omega arith))),
)

pub group_fits : (D : Desc) (lead : Lead) (devs : List Dev) → LeadFits D lead → length devs ≤ device_count D
    → ((i : ℕ) → i < length devs → DevFits D i (dev_of_list devs i)) → AreFitting D (group_hands lead devs)
group_fits D lead devs first few fits =
    each_all (λ h. CellFits D h.cell h.part) (group_hands lead devs)
    ((refl, first), fits_devs D 0 devs (omega arith) (λ i h. let same : i ≡ 0 + i = omega arith in subst (λ (k : ℕ). DevFits D k (dev_of_list devs i)) same (fits i h)))

pub group_holding : (D : Desc) (lead : Lead) (devs : List Dev) (holds : List (Holding Cell)) (hands : List Hand) → holds ≡ group_holds lead devs → hands ≡ group_hands lead devs
    → LeadFits D lead → length devs ≤ device_count D → ((i : ℕ) → i < length devs → DevFits D i (dev_of_list devs i)) → IsHolding D holds hands
group_holding D lead devs holds hands stands are first few fits =
    subst (IsHolding D holds) (sym are) record { holds_are = stands; once = group_once lead devs; fits = group_fits D lead devs first few fits }

-- ---- turns

-- the step on the held cells
pub group_making : (D : Desc) (entry : Entry) (holds : List (Holding Cell)) (hands : List Hand) (w v : World) (cells : List ℕ) → IsGroupTurn D entry holds hands w v
    → touched D (parts_in w) entry ≡ cells → IsMaking holds hands cells (cell_at D w) (cell_at D v)
group_making D entry holds hands w v cells turn is =
    record { holds_are = turn.holds_are; parts = turn.parts; kept = λ c there apart. turn.step.kept c (turn.below c there) (ap (has c) is ∙ apart) }

pub two_rising : (cell : ℕ) → 0 < cell → are_rising (0 ∷ cell ∷ []) ≡ true
two_rising cell some = ap (λ (b : Bool). b && (true && true)) (lt-ltb 0 cell some)

up_rising : (k n : ℕ) → are_rising (up_from k n) ≡ true
up_rising k zero = refl
up_rising k (suc zero) = refl
up_rising k (suc (suc n)) = ap₂ (λ (a b : Bool). a && b) (lt-ltb k (k + 1) (omega arith)) (up_rising (k + 1) (suc n))

pub all_rising : (n : ℕ) → are_rising (up_from 0 n) ≡ true
all_rising n = up_rising 0 n

-- the first so many of nine numbers
pub first_cells : (n : ℕ) → n ≤ 9 → take n (0 ∷ 1 ∷ 2 ∷ 3 ∷ 4 ∷ 5 ∷ 6 ∷ 7 ∷ 8 ∷ []) ≡ up_from 0 n
first_cells zero few = refl
first_cells (suc zero) few = refl
first_cells (suc (suc zero)) few = refl
first_cells (suc (suc (suc zero))) few = refl
first_cells (suc (suc (suc (suc zero)))) few = refl
first_cells (suc (suc (suc (suc (suc zero))))) few = refl
first_cells (suc (suc (suc (suc (suc (suc zero)))))) few = refl
first_cells (suc (suc (suc (suc (suc (suc (suc zero))))))) few = refl
first_cells (suc (suc (suc (suc (suc (suc (suc (suc zero)))))))) few = refl
first_cells (suc (suc (suc (suc (suc (suc (suc (suc (suc zero))))))))) few = refl
first_cells (suc (suc (suc (suc (suc (suc (suc (suc (suc (suc n)))))))))) few = absurd (omega arith)

-- ---- one more device

before_end : (devs : List Dev) (dev x : Dev) (i : ℕ) → i < length devs → slice_index_or (devs ++ dev ∷ []) i x ≡ slice_index_or devs i x
before_end [] dev x i inside = absurd (omega arith)
before_end (y ∷ devs) dev x zero inside = refl
before_end (y ∷ devs) dev x (suc i) inside = before_end devs dev x i (omega arith)

at_end : (devs : List Dev) (dev x : Dev) → slice_index_or (devs ++ dev ∷ []) (length devs) x ≡ dev
at_end [] dev x = refl
at_end (y ∷ devs) dev x = at_end devs dev x

pub each_end : (D : Desc) (devs : List Dev) (dev : Dev) (n : ℕ) → length devs ≡ n → ((i : ℕ) → i < n → DevFits D i (dev_of_list devs i)) → DevFits D n dev
    → (i : ℕ) → i < n + 1 → DevFits D i (dev_of_list (devs ++ dev ∷ []) i)
each_end D devs dev n count before last i inside =
    ⊎_elim (λ (same : i ≡ n). subst (λ (k : ℕ). DevFits D k (dev_of_list (devs ++ dev ∷ []) k)) (sym same)
    (subst (λ (k : ℕ). DevFits D n (dev_of_list (devs ++ dev ∷ []) k)) count (subst (DevFits D n) (sym (at_end devs dev no_dev)) last)))
    (λ (other : i ≡ n → ⊥). let below : i < n = omega (arith, other) in
    subst (DevFits D i) (sym (before_end devs dev no_dev i (omega arith))) (before i below)) (cases_eq i n)

-- ---- what the coordinator's entries touch

pub lead_touched : (D : Desc) (parts : Parts) (entry : Entry) → is_coordinators entry ≡ true → ((d : ℕ) → entry ≡ Report d → ⊥) → ((d b : ℕ) → entry ≡ Block d b → ⊥)
    → ((d : ℕ) → entry ≡ Dry d → ⊥) → ((p : ℕ) → entry ≡ Copy p → ⊥) → touched D parts entry ≡ up_from 0 (device_count D + 1)
lead_touched D parts (Issue d n) kind report block dry copy = absurd (false≢true kind)
lead_touched D parts (Deliver d n) kind report block dry copy = absurd (false≢true kind)
lead_touched D parts (Complete d n) kind report block dry copy = absurd (false≢true kind)
lead_touched D parts (Hold d to) kind report block dry copy = refl
lead_touched D parts (Arc d to) kind report block dry copy = refl
lead_touched D parts (Fail d to) kind report block dry copy = refl
lead_touched D parts (Report d) kind report block dry copy = absurd (report d refl)
lead_touched D parts (Pass k) kind report block dry copy = refl
lead_touched D parts (Copy p) kind report block dry copy = absurd (copy p refl)
lead_touched D parts (Block d b) kind report block dry copy = absurd (block d b refl)
lead_touched D parts (Dry d) kind report block dry copy = absurd (dry d refl)
lead_touched D parts Begin kind report block dry copy = refl
lead_touched D parts Joint kind report block dry copy = refl
lead_touched D parts Abort kind report block dry copy = refl
lead_touched D parts Resume kind report block dry copy = refl
