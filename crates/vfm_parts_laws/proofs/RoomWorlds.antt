-- How many entries are left to a world: at first, staged, and after each step.
use Rattle.std.proofs.lemmas.Option.{none-some}
use Rattle.std.proofs.Common.{◌≡◌, ℕ, ◌+◌, ◌*◌, ◌<◌, ◌≤◌, Bool, true, false, List, [], ◌∷◌, length, None, IsTrue, refl, ap, sym, ◌∙◌, subst, arith, zero-mul}
use Rattle.vfm_types.specs.declared.desc.Desc.{Desc}
use Rattle.vfm_types.specs.declared.entry.Entry.{Entry}
use Rattle.vfm_types.specs.Desc.{device_count, shape_at, no_shape, all_budgets}
use Rattle.vfm_types.specs.Machine.{Machine, device_of}
use Rattle.vfm_types.specs.Valid.{IsValid}
use Rattle.vfm_plain.specs.Legal.{IsLegal, is_entry_of}
use Rattle.vfm_plain.specs.Shape.{HasCounts}
use Rattle.vfm_laws.specs.Queues.{waiting}
use Rattle.vfm_parts.specs.Parts.{Dev, World, Parts, parts_in, no_dev}
use Rattle.vfm_parts.specs.PartsOf.{dev_of, lead_of, world_of, blocks_left}
use Rattle.vfm_parts.specs.PartWords.{blocks_left_in, has_reported_in}
use Rattle.vfm_parts.specs.Fits.{PartsFit}
use Rattle.vfm_parts.specs.Steps.{fault_in, parts_after, dev_after, after_on}
use Rattle.vfm_parts.proofs.Listed.{listed_at}
use Rattle.vfm_parts.proofs.Sets.{below_none}
use Rattle.vfm_parts.proofs.Faults.{fault_told}
use Rattle.vfm_parts.proofs.Worlds.{world_tells, world_after}
use Rattle.vfm_parts_laws.specs.StagedParts.{staged_dev, staged_lead, staged_world}
use Rattle.vfm_parts_laws.specs.EntriesLeft.{sum_below, moves_left, requests_left, reads_left, report_left, device_left, pass_size, passes_left, phases_left, entries_left, room_of_run, DevStands, PartsStand}
use Rattle.vfm_parts_laws.proofs.FittingWorlds.{list_fits}
use Rattle.vfm_parts_laws.proofs.Standing.{step_stands}
use Rattle.vfm_parts_laws.proofs.Sums.{sum_same, sum_bound, sum_listed}
use Rattle.vfm_parts_laws.proofs.EntriesFall.{left_falls}

-- ---- a step of a world

left_same : (D : Desc) (w : World) (entry : Entry) → entries_left D (parts_in (after_on D w entry)) ≡ entries_left D (parts_after D (parts_in w) entry)
left_same D w entry =
    ap (λ (n : ℕ). passes_left D (after_on D w entry).lead * pass_size D + length (after_on D w entry).lead.left + phases_left (after_on D w entry).lead + n)
    (sum_same (device_count D) _ _ (λ k h. ap (λ (dev : Dev). requests_left D k dev + moves_left (after_on D w entry).lead dev
    + reads_left (blocks_left_in (after_on D w entry).lead k) + report_left (has_reported_in (after_on D w entry).lead k))
    (listed_at (device_count D) (dev_after D (parts_in w) entry) k no_dev h)))

pub world_falls : (D : Desc) (w : World) (entry : Entry) → IsValid D → PartsFit D (parts_in w) → PartsStand D (parts_in w) → IsTrue (is_entry_of D entry)
    → fault_in D (parts_in w) entry ≡ None → entries_left D (parts_in (after_on D w entry)) + 1 ≤ entries_left D (parts_in w)
world_falls D w entry valid fits stands named fine =
    subst (λ (n : ℕ). n + 1 ≤ entries_left D (parts_in w)) (sym (left_same D w entry)) (left_falls D (parts_in w) entry valid fits stands named fine)

pub world_stands : (D : Desc) (w : World) (entry : Entry) → PartsStand D (parts_in w) → IsTrue (is_entry_of D entry) → fault_in D (parts_in w) entry ≡ None
    → PartsStand D (parts_in (after_on D w entry))
world_stands D w entry stands named fine k h =
    subst (DevStands (after_on D w entry).lead) (sym (listed_at (device_count D) (dev_after D (parts_in w) entry) k no_dev h))
    (step_stands D (parts_in w) entry stands named fine k h)

-- ---- at first

pub list_stands : (D : Desc) (past : List Entry) → IsValid D → IsLegal D past → PartsStand D (parts_in (world_of D past))
list_stands D [] valid legal =
    λ k h. subst (DevStands (lead_of D [])) (sym ((world_tells D []).dev k h)) (record { known = refl; held = λ moving to is. absurd (none-some to is) })
list_stands D (entry ∷ past) valid legal =
    subst (λ (w : World). PartsStand D (parts_in w)) (world_after D past entry valid legal)
    (world_stands D (world_of D past) entry (list_stands D past valid legal.2) legal.0
    (fault_told D past (parts_in (world_of D past)) (world_tells D past) entry legal.0 ∙ legal.1))

report_few : (b : Bool) → report_left b ≤ 1
report_few true = omega arith
report_few false = omega arith

-- the sum of three for each request and ten for each device
sum_room : (D : Desc) (parts : Parts) → ((d : ℕ) → d < device_count D → device_left D parts d ≤ 3 * (shape_at D d).budget + 10)
    → sum_below (device_count D) (device_left D parts) ≤ 3 * all_budgets D + 10 * device_count D
sum_room D parts each =
    let bound = sum_bound (device_count D) (device_left D parts) (λ d. (shape_at D d).budget) each in
    let all = sum_listed (λ shape. shape.budget) D.devices no_shape in
    omega arith

first_device : (D : Desc) → IsValid D → (d : ℕ) → d < device_count D → device_left D (parts_in (world_of D [])) d ≤ 3 * (shape_at D d).budget + 10
first_device D valid d h =
    let fits = (list_fits D [] valid tt).dev d h in
    let same = (world_tells D []).dev d h in
    let moves : moves_left (lead_of D []) ((parts_in (world_of D [])).dev d) ≡ 9 = ap (moves_left (lead_of D [])) same in
    let requests = first_requests fits.queue.count fits.queue.budget same in
    let reads : reads_left (blocks_left_in (lead_of D []) d) ≡ 0 = ap reads_left (listed_at (device_count D) (λ k. blocks_left D k []) d 0 h) in
    let report = report_few (has_reported_in (lead_of D []) d) in
    omega arith
  where
    first_requests : ((parts_in (world_of D [])).dev d).plain.accepted ≡ ((parts_in (world_of D [])).dev d).plain.done + length ((parts_in (world_of D [])).dev d).plain.pending
        → ((parts_in (world_of D [])).dev d).plain.accepted ≤ (shape_at D d).budget → (parts_in (world_of D [])).dev d ≡ dev_of D d []
        → requests_left D d ((parts_in (world_of D [])).dev d) ≤ 3 * (shape_at D d).budget
    first_requests count budget same =
        let none : length ((parts_in (world_of D [])).dev d).requests ≡ 0 = ap (λ (dev : Dev). length dev.requests) same in
        let waits : length (waiting ((parts_in (world_of D [])).dev d).requests) ≡ 0 = ap (λ (dev : Dev). length (waiting dev.requests)) same in
        omega arith

pub first_room : (D : Desc) → IsValid D → entries_left D (parts_in (world_of D [])) ≤ room_of_run D
first_room D valid =
    let devices = sum_room D (parts_in (world_of D [])) (first_device D valid) in
    let left : length (lead_of D []).left ≡ 0 = ap (length {A = ℕ}) (below_none D.pages) in
    let passes : passes_left D (lead_of D []) * pass_size D ≡ (D.rounds + 1) * pass_size D = ap (λ (n : ℕ). n * pass_size D) (omega arith) in
    omega arith

-- ---- after every legal list

pub list_short : (D : Desc) (past : List Entry) → IsValid D → IsLegal D past → length past + entries_left D (parts_in (world_of D past)) ≤ room_of_run D
list_short D [] valid legal = let first = first_room D valid in omega arith
list_short D (entry ∷ past) valid legal =
    let before = list_short D past valid legal.2 in
    let fine = fault_told D past (parts_in (world_of D past)) (world_tells D past) entry legal.0 ∙ legal.1 in
    let less = world_falls D (world_of D past) entry valid (list_fits D past valid legal.2) (list_stands D past valid legal.2) legal.0 fine in
    let same : entries_left D (parts_in (after_on D (world_of D past) entry)) ≡ entries_left D (parts_in (world_of D (entry ∷ past))) =
    ap (λ (w : World). entries_left D (parts_in w)) (world_after D past entry valid legal) in
    omega arith

-- ---- staged

pub staged_stands : (D : Desc) (m : Machine) → PartsStand D (parts_in (staged_world D m))
staged_stands D m k h =
    subst (DevStands (staged_lead D)) (sym (listed_at (device_count D) (λ d. staged_dev (shape_at D d) (device_of m d)) k no_dev h))
    (record { known = refl; held = λ moving to is. absurd (none-some to is) })

staged_device : (D : Desc) (m : Machine) → HasCounts D m → (d : ℕ) → d < device_count D
    → device_left D (parts_in (staged_world D m)) d ≤ 3 * (shape_at D d).budget + 10
staged_device D m counts d h =
    subst (λ (dev : Dev). requests_left D d dev + moves_left (staged_lead D) dev + reads_left (blocks_left_in (staged_lead D) d) + report_left (has_reported_in (staged_lead D) d)
    ≤ 3 * (shape_at D d).budget + 10) (sym (listed_at (device_count D) (λ k. staged_dev (shape_at D k) (device_of m k)) d no_dev h))
    (let count = (counts d h).accepted in
    let within = (counts d h).within in
    let reads : reads_left (blocks_left_in (staged_lead D) d) ≡ 0 = ap reads_left (listed_at (device_count D) (λ k. 0) d 0 h) in
    let report = report_few (has_reported_in (staged_lead D) d) in
    omega arith)

pub staged_room : (D : Desc) (m : Machine) → HasCounts D m → entries_left D (parts_in (staged_world D m)) ≤ room_of_run D
staged_room D m counts =
    let devices = sum_room D (parts_in (staged_world D m)) (staged_device D m counts) in
    let none : passes_left D (staged_lead D) * pass_size D ≡ 0 = zero-mul (pass_size D) in
    omega arith
