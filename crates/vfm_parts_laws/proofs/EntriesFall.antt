-- What is left to the parts falls with each allowed entry, kind by kind.
use Rattle.std.proofs.Math.Bool.{or-true}
use Rattle.std.proofs.Common.{◌≡◌, ℕ, ◌+◌, ◌-◌, ◌*◌, ◌<◌, ◌≤◌, ◌==◌, ◌&&◌, ◌||◌, not, Bool, true, false, is_none, nat_lt, if◌then◌else◌, List, [], ◌∷◌, length, slice_set, None, refl, ap, ap₂, sym, ◌∙◌, subst, arith, eqb-true, ltb-true, le_refl, le_of_eq}
use Rattle.std.proofs.lemmas.Bool.{and_parts, not-true, false≢true, true≢false, cond-true, cond-false, eq-eqb, eqb-false}
use Rattle.std.proofs.lemmas.List.{get_or-set_same, get_or-set_other}
use Rattle.vfm_types.specs.declared.desc.Desc.{Desc}
use Rattle.vfm_types.specs.declared.job.Region.{Region}
use Rattle.vfm_types.specs.declared.state.MigState.{MigState}
use Rattle.vfm_types.specs.declared.entry.Entry.{Entry}
use Rattle.vfm_types.specs.declared.entry.Entry.TheVariants.{Issue, Deliver, Complete, Hold, Arc, Fail, Report, Pass, Copy, Block, Dry, Begin, Joint, Abort, Resume}
use Rattle.vfm_types.specs.declared.entry.Rule.TheVariants.{Order, Path, Quiet, Pages, Blocks, Decide, Start, Joint as Standing}
use Rattle.vfm_base.specs.Tests.{first_failed}
use Rattle.vfm_base.specs.PageSet.{contains_page}
use Rattle.vfm_base.proofs.NumbersWhere.{length-numbers_where_le}
use Rattle.vfm_types.specs.Desc.{device_count, shape_at, no_shape, block_count}
use Rattle.vfm_types.specs.Job.{place_of, length_of, is_bar_of}
use Rattle.vfm_types.specs.Valid.{IsValid}
use Rattle.vfm_plain.specs.Condition.{is_exactly}
use Rattle.vfm_plain.specs.Legal.{is_entry_of}
use Rattle.vfm_laws.proofs.Rising.{by_bool}
use Rattle.vfm_laws.proofs.Conditions.{met}
use Rattle.vfm_parts.specs.Parts.{Dev, Lead, Parts, numbers_below}
use Rattle.vfm_parts.specs.PartWords.{is_on_in, is_no_pass_open_in, next_copy_in, next_part_in, blocks_left_in, has_reported_in, is_decided_in, is_way_open_in}
use Rattle.vfm_parts.specs.Fits.{PartsFit}
use Rattle.vfm_parts.specs.IssueStep.{issued_dev}
use Rattle.vfm_parts.specs.DeliverStep.{job_in, region_of_job, region_bytes_in, delivered_dev, struck_dev}
use Rattle.vfm_parts.specs.CompleteStep.{completed_dev}
use Rattle.vfm_parts.specs.BeginStep.{begun_dev, begun_lead, is_before_move_in, may_begin_move_in}
use Rattle.vfm_parts.specs.HoldStep.{held_dev, may_be_held_in, is_next_to_stop_copy_in, is_quiet_for_hold_in}
use Rattle.vfm_parts.specs.ArcStep.{moved_dev, may_take_arcs_in, is_quiet_for_arc_in}
use Rattle.vfm_parts.specs.FailStep.{failed_dev, failed_lead, is_right_fail_in}
use Rattle.vfm_parts.specs.ReportStep.{reported_dev, reported_lead, may_report_log_in}
use Rattle.vfm_parts.specs.PassStep.{is_next_pass_in, is_pass_wanted_in, passed_lead}
use Rattle.vfm_parts.specs.CopyStep.{is_copy_due_in}
use Rattle.vfm_parts.specs.BlockStep.{is_block_due_in, is_part_due_in, next_block_in, read_dev}
use Rattle.vfm_parts.specs.DryStep.{is_dry_due_in}
use Rattle.vfm_parts.specs.JointStep.{is_all_in_stop_copy_in, joint_lead}
use Rattle.vfm_parts.specs.AbortStep.{aborted_dev, aborted_lead}
use Rattle.vfm_parts.specs.ResumeStep.{resumed_dev, resumed_lead, is_state_copied_in}
use Rattle.vfm_parts.specs.Steps.{fault_in, with_dev, parts_after, dev_after, page_after}
use Rattle.vfm_parts_laws.specs.EntriesLeft.{sum_below, is_over, arcs_home, moves_left, requests_left, reads_left, report_left, device_left, pass_size, passes_left, phases_left, entries_left, PartsStand}
use Rattle.vfm_parts_laws.proofs.Fitting.{lies, bar_inside, pass_few, pass_fits}
use Rattle.vfm_parts_laws.proofs.Standing.{hold_allowed, arc_allowed}
use Rattle.vfm_parts_laws.proofs.Sums.{sum_le, sum_two, sum_listed}
use Rattle.vfm_parts_laws.proofs.Falls.{issue_falls, complete_falls, deliver_falls, target_same, few_home, out_is, home_is, hold_falls, arc_falls, exactly_is, part_some, copy_falls, reads_fall, reads_gone, reads_few, left_at, sum_one, product_more, product_le}

-- ---- totals

-- which of the four sums falls
data Fall (a b c d a' b' c' d' : ℕ) : Type 0 where
  by_devices : a' ≤ a → b' ≤ b → c' ≤ c → d' + 1 ≤ d → Fall a b c d a' b' c' d'
  by_phases : a' ≤ a → b' ≤ b → c' + 1 ≤ c → d' ≤ d → Fall a b c d a' b' c' d'
  by_pages : a' ≤ a → b' + 1 ≤ b → c' ≤ c → d' ≤ d → Fall a b c d a' b' c' d'
  by_pass : (w x : ℕ) → a' + w ≤ a → b' + x + 1 ≤ w → c' ≤ c → d' ≤ d + x → Fall a b c d a' b' c' d'

fall_all : (a b c d a' b' c' d' : ℕ) → Fall a b c d a' b' c' d' → a' + b' + c' + d' + 1 ≤ a + b + c + d
fall_all a b c d a' b' c' d' (by_devices first second third fourth) = omega arith
fall_all a b c d a' b' c' d' (by_phases first second third fourth) = omega arith
fall_all a b c d a' b' c' d' (by_pages first second third fourth) = omega arith
fall_all a b c d a' b' c' d' (by_pass w x first second third fourth) = omega arith

-- one machine has less left than another
Less : Desc → Parts → Parts → Type 0
Less D p q =
    Fall (passes_left D p.lead * pass_size D) (length p.lead.left) (phases_left p.lead) (sum_below (device_count D) (device_left D p))
    (passes_left D q.lead * pass_size D) (length q.lead.left) (phases_left q.lead) (sum_below (device_count D) (device_left D q))

less_is : (D : Desc) (p q : Parts) → Less D p q → entries_left D q + 1 ≤ entries_left D p
unfolding Less
less_is D p q fall =
    fall_all (passes_left D p.lead * pass_size D) (length p.lead.left) (phases_left p.lead) (sum_below (device_count D) (device_left D p))
    (passes_left D q.lead * pass_size D) (length q.lead.left) (phases_left q.lead) (sum_below (device_count D) (device_left D q)) fall

-- ---- one device

with_here : (d : ℕ) (dev : Dev) (devs : ℕ → Dev) → with_dev d dev devs d ≡ dev
with_here d dev devs = cond-true _ _ _ (eq-eqb d d refl)

with_away : (d k : ℕ) (dev : Dev) (devs : ℕ → Dev) → (d == k) ≡ false → with_dev d dev devs k ≡ devs k
with_away d k dev devs away = cond-false _ _ _ away

-- one device changed, and the coordinator in nothing that another device's entries hang on
one_device : (D : Desc) (parts : Parts) (lead : Lead) (d : ℕ) (dev : Dev) → d < device_count D → left_at D lead d dev + 1 ≤ device_left D parts d
    → ((k : ℕ) → k < device_count D → (d == k) ≡ false → left_at D lead k (parts.dev k) ≤ device_left D parts k)
    → sum_below (device_count D) (λ k. left_at D lead k (with_dev d dev parts.dev k)) + 1 ≤ sum_below (device_count D) (device_left D parts)
one_device D parts lead d dev inside less others =
    sum_one D parts lead (with_dev d dev parts.dev) d inside
    (subst (λ (x : Dev). left_at D lead d x + 1 ≤ device_left D parts d) (sym (with_here d dev parts.dev)) less)
    (λ k h away. subst (λ (x : Dev). left_at D lead k x ≤ device_left D parts k) (sym (with_away d k dev parts.dev away)) (others k h away))

own_less : (r r' m a b : ℕ) → r' + 1 ≤ r → r' + m + a + b + 1 ≤ r + m + a + b
own_less r r' m a b less = omega arith

move_less : (r m m' a b : ℕ) → m' + 1 ≤ m → r + m' + a + b + 1 ≤ r + m + a + b
move_less r m m' a b less = omega arith

read_less : (r m a a' b : ℕ) → a' + 1 ≤ a → r + m + a' + b + 1 ≤ r + m + a + b
read_less r m a a' b less = omega arith

report_less : (r m a b b' : ℕ) → b' + 1 ≤ b → r + m + a + b' + 1 ≤ r + m + a + b
report_less r m a b b' less = omega arith

-- ---- phases

abbrev phases : Bool → Bool → Bool → Bool → ℕ
phases begun joint over failed = (if begun then 0 else 1) + (if joint then 0 else 1) + (if over then 0 else (if failed then 1 else 2))

begin_phase : (begun joint over failed : Bool) → begun ≡ false → phases true joint over failed + 1 ≤ phases begun joint over failed
begin_phase true joint over failed is = absurd (true≢false is)
begin_phase false joint over failed is = omega arith

joint_phase : (begun joint over failed : Bool) → joint ≡ false → phases begun true over failed + 1 ≤ phases begun joint over failed
joint_phase begun true over failed is = absurd (true≢false is)
joint_phase begun false over failed is = omega arith

fail_phase : (begun joint over failed : Bool) → over ≡ false → failed ≡ false → phases begun joint over true + 1 ≤ phases begun joint over failed
fail_phase begun joint true failed moving well = absurd (true≢false moving)
fail_phase begun joint false true moving well = absurd (true≢false well)
fail_phase begun joint false false moving well = omega arith

over_phase : (begun joint over failed after : Bool) → over ≡ false → phases begun joint true after + 1 ≤ phases begun joint over failed
over_phase begun joint true failed after moving = absurd (true≢false moving)
over_phase begun joint false true after moving = omega arith
over_phase begun joint false false after moving = omega arith

-- ---- what the coordinator's conditions say

on_moving : (lead : Lead) → is_on_in lead ≡ true → (is_over lead ≡ false) × (lead.failed ≡ false)
on_moving lead on_ =
    let all = and_parts (lead.begun && not lead.aborted && not lead.resumed) (not lead.failed) on_ in
    let two = and_parts (lead.begun && not lead.aborted) (not lead.resumed) all.0 in
    let one = and_parts lead.begun (not lead.aborted) two.0 in
    (ap₂ (λ (a r : Bool). a || r) (not-true lead.aborted one.1) (not-true lead.resumed two.1), not-true lead.failed all.1)

held_moving : (parts : Parts) (d : ℕ) → may_be_held_in parts.lead (parts.dev d) ≡ true → is_over parts.lead ≡ false
held_moving parts d may =
    (on_moving parts.lead (and_parts (is_on_in parts.lead) (not parts.lead.joint) (and_parts (is_on_in parts.lead && not parts.lead.joint) (is_none (parts.dev d).hold) may).0).0).0

-- ---- the kinds

module _ (D : Desc) (parts : Parts) (valid : IsValid D) (fits : PartsFit D parts) (stands : PartsStand D parts) where
  abbrev sum_before : ℕ
  sum_before = sum_below (device_count D) (device_left D parts)

  -- where the coordinator is as it was
  devices_only : (devs : ℕ → Dev) (page : ℕ → List ℕ) → sum_below (device_count D) (λ k. left_at D parts.lead k (devs k)) + 1 ≤ sum_before
      → Less D parts (record { lead = parts.lead; dev = devs; page = page })
  unfolding Less
  devices_only devs page less =
      by_devices (le_refl (passes_left D parts.lead * pass_size D)) (le_refl (length parts.lead.left)) (le_refl (phases_left parts.lead)) less

  own_sum : (d : ℕ) (dev : Dev) → d < device_count D → requests_left D d dev + 1 ≤ requests_left D d (parts.dev d)
      → moves_left parts.lead dev ≡ moves_left parts.lead (parts.dev d)
      → sum_below (device_count D) (λ k. left_at D parts.lead k (with_dev d dev parts.dev k)) + 1 ≤ sum_before
  own_sum d dev inside less same =
      one_device D parts parts.lead d dev inside
      (subst (λ (m : ℕ). requests_left D d dev + m + reads_left (blocks_left_in parts.lead d) + report_left (has_reported_in parts.lead d) + 1 ≤ device_left D parts d) (sym same)
      (own_less (requests_left D d (parts.dev d)) (requests_left D d dev) (moves_left parts.lead (parts.dev d)) (reads_left (blocks_left_in parts.lead d))
      (report_left (has_reported_in parts.lead d)) less))
      (λ k h away. le_refl (left_at D parts.lead k (parts.dev k)))

  move_sum : (d : ℕ) (dev : Dev) → d < device_count D → requests_left D d dev ≡ requests_left D d (parts.dev d)
      → moves_left parts.lead dev + 1 ≤ moves_left parts.lead (parts.dev d)
      → sum_below (device_count D) (λ k. left_at D parts.lead k (with_dev d dev parts.dev k)) + 1 ≤ sum_before
  move_sum d dev inside same less =
      one_device D parts parts.lead d dev inside
      (subst (λ (r : ℕ). r + moves_left parts.lead dev + reads_left (blocks_left_in parts.lead d) + report_left (has_reported_in parts.lead d) + 1 ≤ device_left D parts d) (sym same)
      (move_less (requests_left D d (parts.dev d)) (moves_left parts.lead (parts.dev d)) (moves_left parts.lead dev) (reads_left (blocks_left_in parts.lead d))
      (report_left (has_reported_in parts.lead d)) less))
      (λ k h away. le_refl (left_at D parts.lead k (parts.dev k)))

  issue_less : (d n : ℕ) → d < device_count D → fault_in D parts (Issue d n) ≡ None → Less D parts (parts_after D parts (Issue d n))
  issue_less d n inside fine =
      devices_only (with_dev d (issued_dev n (parts.dev d)) parts.dev) parts.page
      (own_sum d (issued_dev n (parts.dev d)) inside (issue_falls D d n (parts.dev d) (fits.dev d inside) fine) refl)

  complete_less : (d n : ℕ) → d < device_count D → fault_in D parts (Complete d n) ≡ None → Less D parts (parts_after D parts (Complete d n))
  complete_less d n inside fine =
      devices_only (with_dev d (completed_dev D d n (parts.dev d)) parts.dev) parts.page
      (own_sum d (completed_dev D d n (parts.dev d)) inside (complete_falls D d n (parts.dev d) fine) refl)

  hold_less : (d : ℕ) (to : MigState) → d < device_count D → fault_in D parts (Hold d to) ≡ None → Less D parts (parts_after D parts (Hold d to))
  hold_less d to inside fine =
      let allowed = hold_allowed D parts d to fine in
      devices_only (with_dev d (held_dev to (parts.dev d)) parts.dev) parts.page
      (move_sum d (held_dev to (parts.dev d)) inside refl
      (hold_falls parts.lead (parts.dev d) to (stands d inside) (held_moving parts d (met (may_be_held_in parts.lead (parts.dev d)) Order
      ((is_decided_in D parts.lead, Decide) ∷ (is_next_to_stop_copy_in D d to (parts.dev d), Path) ∷ (is_quiet_for_hold_in D to parts.dev, Quiet) ∷ []) fine).0) allowed.0 allowed.1))

  arc_less : (d : ℕ) (to : MigState) → d < device_count D → fault_in D parts (Arc d to) ≡ None → Less D parts (parts_after D parts (Arc d to))
  arc_less d to inside fine =
      devices_only (with_dev d (moved_dev to (parts.dev d)) parts.dev) parts.page
      (move_sum d (moved_dev to (parts.dev d)) inside refl
      (arc_falls D parts.lead (parts.dev d) d to (moved_dev to (parts.dev d)).arcs (stands d inside) (arc_allowed D parts d to fine)))

  -- ---- a delivery

  abbrev job_region : ℕ → ℕ → Region
  job_region d n = region_of_job D (job_in D d n (parts.dev d))

  abbrev target_bytes : ℕ → ℕ → List ℕ
  target_bytes d n = region_bytes_in parts (job_region d n)

  abbrev struck_at : ℕ → ℕ → ℕ → Dev
  struck_at d n k = struck_dev D k (job_in D d n (parts.dev d)) (parts.dev d).plain.buf (parts.dev k)

  deliver_less : (d n : ℕ) → d < device_count D → fault_in D parts (Deliver d n) ≡ None → Less D parts (parts_after D parts (Deliver d n))
  deliver_less d n inside fine =
      devices_only (dev_after D parts (Deliver d n)) (page_after D parts (Deliver d n))
      (sum_one D parts parts.lead (dev_after D parts (Deliver d n)) d inside
      (subst (λ (x : Dev). left_at D parts.lead d x + 1 ≤ device_left D parts d) (sym (cond-true _ _ _ (eq-eqb d d refl)))
      (own_less (requests_left D d (parts.dev d)) (requests_left D d (delivered_dev D d n (target_bytes d n) (parts.dev d))) (moves_left parts.lead (parts.dev d))
      (reads_left (blocks_left_in parts.lead d)) (report_left (has_reported_in parts.lead d)) (deliver_falls D d n (parts.dev d) (target_bytes d n) (fits.dev d inside) fine)))
      (λ k h away. subst (λ (x : Dev). left_at D parts.lead k x ≤ device_left D parts k) (sym (cond-false _ _ _ away)) (other k h)))
    where
      target_less : (r r' m a b : ℕ) → r' ≤ r → r' + m + a + b ≤ r + m + a + b
      target_less r r' m a b less = omega arith

      other : (k : ℕ) → k < device_count D → left_at D parts.lead k (if is_bar_of k (job_region d n) then struck_at d n k else parts.dev k) ≤ device_left D parts k
      other k h =
          by_bool (is_bar_of k (job_region d n))
          (λ b. is_bar_of k (job_region d n) ≡ b → left_at D parts.lead k (if b then struck_at d n k else parts.dev k) ≤ device_left D parts k)
          (λ hit e. target_less (requests_left D k (parts.dev k)) (requests_left D k (struck_at d n k)) (moves_left parts.lead (parts.dev k))
          (reads_left (blocks_left_in parts.lead k)) (report_left (has_reported_in parts.lead k))
          (target_same D k (job_in D d n (parts.dev d)) (parts.dev d).plain.buf (parts.dev k)
          (bar_inside D k (place_of D (job_in D d n (parts.dev d))).offset (length_of (job_in D d n (parts.dev d))) (job_region d n)
          (lies D parts d n valid fits inside fine) e) (fits.dev k h)))
          (λ miss e. le_refl (left_at D parts.lead k (parts.dev k))) refl

  -- ---- the coordinator's phases

  -- where the coordinator's phases fall, and the devices' parts have no more left
  phases_only : (lead : Lead) (devs : ℕ → Dev) (page : ℕ → List ℕ) → passes_left D lead ≤ passes_left D parts.lead → lead.left ≡ parts.lead.left
      → phases_left lead + 1 ≤ phases_left parts.lead → ((k : ℕ) → k < device_count D → left_at D lead k (devs k) ≤ device_left D parts k)
      → Less D parts (record { lead = lead; dev = devs; page = page })
  unfolding Less
  phases_only lead devs page passes left phases devices =
      by_phases (product_le (passes_left D lead) (passes_left D parts.lead) (pass_size D) passes) (le_of_eq (ap (length {A = ℕ}) left)) phases
      (sum_le (device_count D) (device_left D parts) (λ k. left_at D lead k (devs k)) devices)

  fail_moving : (d : ℕ) (to : MigState) → fault_in D parts (Fail d to) ≡ None → (is_over parts.lead ≡ false) × (parts.lead.failed ≡ false)
  fail_moving d to fine =
      let order = met (may_take_arcs_in parts.lead) Order ((is_right_fail_in D d to parts.lead (parts.dev d), Path) ∷ (is_quiet_for_arc_in D d to parts.dev, Quiet) ∷ []) fine in
      let right = met (is_right_fail_in D d to parts.lead (parts.dev d)) Path ((is_quiet_for_arc_in D d to parts.dev, Quiet) ∷ []) order.1 in
      let four = (and_parts (not parts.lead.aborted && not parts.lead.resumed && is_way_open_in D d to parts.lead (parts.dev d) && nat_lt 0 (shape_at D d).fails)
      ((parts.dev d).arcs + 1 == (shape_at D d).fails) right.0).0 in
      let three = (and_parts (not parts.lead.aborted && not parts.lead.resumed && is_way_open_in D d to parts.lead (parts.dev d)) (nat_lt 0 (shape_at D d).fails) four).0 in
      let two = (and_parts (not parts.lead.aborted && not parts.lead.resumed) (is_way_open_in D d to parts.lead (parts.dev d)) three).0 in
      let one = and_parts (not parts.lead.aborted) (not parts.lead.resumed) two in
      let a : parts.lead.aborted ≡ false = not-true parts.lead.aborted one.0 in
      let r : parts.lead.resumed ≡ false = not-true parts.lead.resumed one.1 in
      let arcs : (is_on_in parts.lead && not parts.lead.joint) ≡ true = only (is_on_in parts.lead && not parts.lead.joint) parts.lead.aborted parts.lead.resumed a r order.0 in
      on_moving parts.lead (and_parts (is_on_in parts.lead) (not parts.lead.joint) arcs).0
    where
      only : (x b c : Bool) → b ≡ false → c ≡ false → (x || b || c) ≡ true → x ≡ true
      only true b c first second test = refl
      only false b c first second test = absurd (false≢true (sym (ap₂ (λ (y z : Bool). y || z) first second) ∙ test))

  fail_less : (d : ℕ) (to : MigState) → d < device_count D → fault_in D parts (Fail d to) ≡ None → Less D parts (parts_after D parts (Fail d to))
  fail_less d to inside fine =
      let moving = fail_moving d to fine in
      phases_only (failed_lead parts.lead) (with_dev d (failed_dev (parts.dev d)) parts.dev) parts.page (le_refl (passes_left D parts.lead)) refl
      (fail_phase parts.lead.begun parts.lead.joint (is_over parts.lead) parts.lead.failed moving.0 moving.1)
      (λ k h. by_bool (d == k)
      (λ b. (d == k) ≡ b → left_at D (failed_lead parts.lead) k (if b then failed_dev (parts.dev d) else parts.dev k) ≤ device_left D parts k)
      (λ here e. subst (λ (j : ℕ). left_at D (failed_lead parts.lead) j (failed_dev (parts.dev d)) ≤ device_left D parts j) (eqb-true d k e) (le_refl (device_left D parts d)))
      (λ away e. le_refl (device_left D parts k)) refl)

  begin_less : fault_in D parts Begin ≡ None → Less D parts (parts_after D parts Begin)
  begin_less fine =
      let order = (met (is_before_move_in parts.lead) Order ((may_begin_move_in D parts.dev, Start) ∷ []) fine).0 in
      let two = (and_parts (not parts.lead.begun && not parts.lead.aborted) (not parts.lead.resumed) order).0 in
      phases_only (begun_lead parts.lead) (λ k. begun_dev (parts.dev k)) parts.page (le_refl (passes_left D parts.lead)) refl
      (begin_phase parts.lead.begun parts.lead.joint (is_over parts.lead) parts.lead.failed
      (not-true parts.lead.begun (and_parts (not parts.lead.begun) (not parts.lead.aborted) two).0))
      (λ k h. le_refl (device_left D parts k))

  joint_less : fault_in D parts Joint ≡ None → Less D parts (parts_after D parts Joint)
  joint_less fine =
      let order = (met (is_on_in parts.lead && not parts.lead.joint) Order ((is_all_in_stop_copy_in D parts.dev, Standing) ∷ []) fine).0 in
      let runs = not-true parts.lead.joint (and_parts (is_on_in parts.lead) (not parts.lead.joint) order).1 in
      phases_only (joint_lead parts.lead) parts.dev parts.page (fewer parts.lead.joint parts.lead.last runs) refl
      (joint_phase parts.lead.begun parts.lead.joint (is_over parts.lead) parts.lead.failed runs)
      (λ k h. le_refl (device_left D parts k))
    where
      fewer : (joint last : Bool) → joint ≡ false → (if last then 0 else 1) ≤ (if joint then (if last then 0 else 1) else D.rounds - parts.lead.passes + 1)
      fewer true last runs = absurd (true≢false runs)
      fewer false true runs = omega arith
      fewer false false runs = omega arith

  move_le : (r m m' a b : ℕ) → m' ≤ m → r + m' + a + b ≤ r + m + a + b
  move_le r m m' a b less = omega arith

  three_kept : (dev : Dev) → is_over parts.lead ≡ false → 3 ≤ moves_left parts.lead dev
  three_kept dev moving = let out = out_is parts.lead dev moving in omega arith

  abort_less : fault_in D parts Abort ≡ None → Less D parts (parts_after D parts Abort)
  abort_less fine =
      let order = (met (not parts.lead.aborted && not parts.lead.resumed) Order [] fine).0 in
      let one = and_parts (not parts.lead.aborted) (not parts.lead.resumed) order in
      let moving : is_over parts.lead ≡ false = ap₂ (λ (a r : Bool). a || r) (not-true parts.lead.aborted one.0) (not-true parts.lead.resumed one.1) in
      phases_only (aborted_lead parts.lead) (λ k. aborted_dev (parts.dev k)) parts.page (le_refl (passes_left D parts.lead)) refl
      (over_phase parts.lead.begun parts.lead.joint (is_over parts.lead) parts.lead.failed false moving)
      (λ k h. let few = few_home (parts.dev k).state in let kept = three_kept (parts.dev k) moving in
      move_le (requests_left D k (parts.dev k)) (moves_left parts.lead (parts.dev k)) (arcs_home (parts.dev k).state) (reads_left (blocks_left_in parts.lead k))
      (report_left (has_reported_in parts.lead k)) (omega arith))

  resume_less : fault_in D parts Resume ≡ None → Less D parts (parts_after D parts Resume)
  resume_less fine =
      let order = (met (is_on_in parts.lead) Order ((is_state_copied_in D parts.lead, Standing) ∷ []) fine).0 in
      let moving = (on_moving parts.lead order).0 in
      phases_only (resumed_lead parts.lead) (λ k. resumed_dev (parts.dev k)) parts.page (le_refl (passes_left D parts.lead)) refl
      (subst (λ (over : Bool). phases parts.lead.begun parts.lead.joint over parts.lead.failed + 1 ≤ phases_left parts.lead) (sym (or-true parts.lead.aborted))
      (over_phase parts.lead.begun parts.lead.joint (is_over parts.lead) parts.lead.failed parts.lead.failed moving))
      (λ k h. let home = home_is (resumed_lead parts.lead) (resumed_dev (parts.dev k)) (or-true parts.lead.aborted) in let kept = three_kept (parts.dev k) moving in
      move_le (requests_left D k (parts.dev k)) (moves_left parts.lead (parts.dev k)) (moves_left (resumed_lead parts.lead) (resumed_dev (parts.dev k))) (reads_left (blocks_left_in parts.lead k))
      (report_left (has_reported_in parts.lead k)) (omega arith))

  -- ---- a pass

  copy_less : (p : ℕ) → p < D.pages → fault_in D parts (Copy p) ≡ None → Less D parts (parts_after D parts (Copy p))
  unfolding Less
  copy_less p inside fine =
      let order = met (is_on_in parts.lead) Order ((is_copy_due_in p parts.lead, Pages) ∷ []) fine in
      let due = (met (is_copy_due_in p parts.lead) Pages [] order.1).0 in
      by_pages (le_refl (passes_left D parts.lead * pass_size D)) (copy_falls D.pages parts.lead.left p fits.lead.left inside (exactly_is p (next_copy_in parts.lead) due))
      (le_refl (phases_left parts.lead)) (le_refl sum_before)

  -- the same coordinator but for one item of a list
  lead_devices : (lead : Lead) (devs : ℕ → Dev) → passes_left D lead ≡ passes_left D parts.lead → lead.left ≡ parts.lead.left → phases_left lead ≡ phases_left parts.lead
      → sum_below (device_count D) (λ k. left_at D lead k (devs k)) + 1 ≤ sum_before → Less D parts (record { lead = lead; dev = devs; page = parts.page })
  unfolding Less
  lead_devices lead devs passes left phase less =
      by_devices (le_of_eq (ap (λ (n : ℕ). n * pass_size D) passes)) (le_of_eq (ap (length {A = ℕ}) left)) (le_of_eq phase) less

  report_one : (d : ℕ) → d < device_count D → fault_in D parts (Report d) ≡ None → Less D parts (parts_after D parts (Report d))
  report_one d inside fine =
      let order = met (is_on_in parts.lead) Order ((may_report_log_in D d parts.lead, Pages) ∷ []) fine in
      let may = (met (may_report_log_in D d parts.lead) Pages [] order.1).0 in
      let three = (and_parts (nat_lt 0 parts.lead.passes && is_no_pass_open_in D parts.lead && not (has_reported_in parts.lead d))
      (if parts.lead.joint then not parts.lead.last else not (is_decided_in D parts.lead)) may).0 in
      let new : report_left (has_reported_in parts.lead d) ≡ 1 =
      ap report_left (not-true (has_reported_in parts.lead d) (and_parts (nat_lt 0 parts.lead.passes && is_no_pass_open_in D parts.lead) (not (has_reported_in parts.lead d)) three).1) in
      let done : report_left (has_reported_in after d) ≡ 0 =
      ap report_left (get_or-set_same parts.lead.reported d true false (subst (λ (n : ℕ). d < n) (sym fits.lead.reported) inside)) in
      lead_devices after (with_dev d (reported_dev (parts.dev d)) parts.dev) refl refl refl
      (one_device D parts after d (reported_dev (parts.dev d)) inside
      (report_less (requests_left D d (parts.dev d)) (moves_left parts.lead (parts.dev d)) (reads_left (blocks_left_in parts.lead d))
      (report_left (has_reported_in parts.lead d)) (report_left (has_reported_in after d)) (omega arith))
      (λ k h away. le_of_eq (ap (λ (b : Bool). requests_left D k (parts.dev k) + moves_left parts.lead (parts.dev k) + reads_left (blocks_left_in parts.lead k) + report_left b)
      (get_or-set_other parts.lead.reported d k true false (λ same. eqb-false d k away (sym same))))))
    where
      after : Lead
      after = reported_lead D d (parts.dev d).marks parts.lead

  part_sum : (d x : ℕ) (devs : ℕ → Dev) → d < device_count D → reads_left x + 1 ≤ reads_left (blocks_left_in parts.lead d)
      → requests_left D d (devs d) ≡ requests_left D d (parts.dev d) → moves_left parts.lead (devs d) ≡ moves_left parts.lead (parts.dev d)
      → ((k : ℕ) → (d == k) ≡ false → devs k ≡ parts.dev k)
      → Less D parts (record { lead = record parts.lead { parts = slice_set parts.lead.parts d x }; dev = devs; page = parts.page })
  part_sum d x devs inside less requests moves others =
      let here : blocks_left_in after d ≡ x = get_or-set_same parts.lead.parts d x 0 (subst (λ (n : ℕ). d < n) (sym fits.lead.parts) inside) in
      let reads : reads_left (blocks_left_in after d) ≡ reads_left x = ap reads_left here in
      lead_devices after devs refl refl refl
      (sum_one D parts after devs d inside
      (subst (λ (r : ℕ). r + moves_left parts.lead (devs d) + reads_left (blocks_left_in after d) + report_left (has_reported_in parts.lead d) + 1 ≤ device_left D parts d) (sym requests)
      (subst (λ (m : ℕ). requests_left D d (parts.dev d) + m + reads_left (blocks_left_in after d) + report_left (has_reported_in parts.lead d) + 1 ≤ device_left D parts d) (sym moves)
      (read_less (requests_left D d (parts.dev d)) (moves_left parts.lead (parts.dev d)) (reads_left (blocks_left_in parts.lead d)) (reads_left (blocks_left_in after d))
      (report_left (has_reported_in parts.lead d)) (omega arith))))
      (λ k h away. le_of_eq (ap₂ (λ (dev : Dev) (n : ℕ). requests_left D k dev + moves_left parts.lead dev + reads_left n + report_left (has_reported_in parts.lead k))
      (others k away) (get_or-set_other parts.lead.parts d k x 0 (λ same. eqb-false d k away (sym same))))))
    where
      after : Lead
      after = record parts.lead { parts = slice_set parts.lead.parts d x }

  due_some : (d : ℕ) → is_part_due_in D d parts.lead ≡ true → 0 < blocks_left_in parts.lead d
  due_some d due =
      part_some D parts.lead d (exactly_is d (next_part_in D parts.lead) (and_parts (is_none (next_copy_in parts.lead)) (is_exactly d (next_part_in D parts.lead)) due).1)

  block_less : (d b : ℕ) → d < device_count D → fault_in D parts (Block d b) ≡ None → Less D parts (parts_after D parts (Block d b))
  block_less d b inside fine =
      let order = met (is_on_in parts.lead) Order ((is_block_due_in D d b parts.lead (parts.dev d), Blocks) ∷ []) fine in
      let due = (met (is_block_due_in D d b parts.lead (parts.dev d)) Blocks [] order.1).0 in
      let some = due_some d (and_parts (is_part_due_in D d parts.lead) (is_exactly b (next_block_in (parts.dev d))) due).0 in
      part_sum d (blocks_left_in parts.lead d - 1) (with_dev d (read_dev D d b (parts.dev d)) parts.dev) inside (reads_fall (blocks_left_in parts.lead d) some)
      (ap (requests_left D d) (with_here d (read_dev D d b (parts.dev d)) parts.dev)) (ap (moves_left parts.lead) (with_here d (read_dev D d b (parts.dev d)) parts.dev))
      (λ k away. with_away d k (read_dev D d b (parts.dev d)) parts.dev away)

  dry_less : (d : ℕ) → d < device_count D → fault_in D parts (Dry d) ≡ None → Less D parts (parts_after D parts (Dry d))
  dry_less d inside fine =
      let order = met (is_on_in parts.lead) Order ((is_dry_due_in D d parts.lead (parts.dev d), Blocks) ∷ []) fine in
      let due = (met (is_dry_due_in D d parts.lead (parts.dev d)) Blocks [] order.1).0 in
      let some = due_some d (and_parts (is_part_due_in D d parts.lead) (is_none (next_block_in (parts.dev d))) due).0 in
      part_sum d 0 parts.dev inside (reads_gone (blocks_left_in parts.lead d) some) refl refl (λ k away. refl)

  pass_less : (k : ℕ) → fault_in D parts (Pass k) ≡ None → Less D parts (parts_after D parts (Pass k))
  unfolding Less
  pass_less k fine =
      by_pass (pass_size D) blocks (product_more (passes_left D after) (passes_left D parts.lead) (pass_size D) passes) pages (le_refl (phases_left parts.lead)) devices
    where
      after : Lead
      after = passed_lead D k parts.dev parts.lead

      blocks : ℕ
      blocks = sum_below (device_count D) (λ d. block_count (shape_at D d) + 2)

      order : (is_on_in parts.lead ≡ true) × (first_failed ((is_next_pass_in D k parts.lead, Pages) ∷ (is_pass_wanted_in D k parts.lead parts.dev, Decide) ∷ []) ≡ None)
      order = met (is_on_in parts.lead) Order ((is_next_pass_in D k parts.lead, Pages) ∷ (is_pass_wanted_in D k parts.lead parts.dev, Decide) ∷ []) fine

      next : (is_next_pass_in D k parts.lead ≡ true) × (first_failed ((is_pass_wanted_in D k parts.lead parts.dev, Decide) ∷ []) ≡ None)
      next = met (is_next_pass_in D k parts.lead) Pages ((is_pass_wanted_in D k parts.lead parts.dev, Decide) ∷ []) order.1

      wanted : is_pass_wanted_in D k parts.lead parts.dev ≡ true
      wanted = (met (is_pass_wanted_in D k parts.lead parts.dev) Decide [] next.1).0

      passes : passes_left D after + 1 ≤ passes_left D parts.lead
      passes =
          by_bool parts.lead.joint
          (λ b. parts.lead.joint ≡ b → (if b then (if b then 0 else 1) else D.rounds - (parts.lead.passes + 1) + 1) + 1
          ≤ (if b then (if parts.lead.last then 0 else 1) else D.rounds - parts.lead.passes + 1))
          (λ stands_still e. one_left parts.lead.last (not-true parts.lead.last (sym (cond-true _ _ _ e) ∙ wanted)))
          (λ runs e. let few = (pass_few D k parts.lead parts.dev fits.lead next.0 wanted).1 e in omega arith) refl
        where
          one_left : (last : Bool) → last ≡ false → 0 + 1 ≤ (if last then 0 else 1)
          one_left true open_ = absurd (true≢false open_)
          one_left false open_ = omega arith

      pages : length after.left + blocks + 1 ≤ pass_size D
      pages =
          let left = (pass_fits D k parts.lead parts.dev fits.lead next.0 wanted).left in
          let few = length-numbers_where_le (contains_page after.left) 0 D.pages in
          let same : length after.left ≡ length (numbers_below D.pages (contains_page after.left)) = ap (length {A = ℕ}) left in
          let all = sum_listed (λ shape. block_count shape + 2) D.devices no_shape in
          omega arith

      devices : sum_below (device_count D) (λ d. left_at D after d (parts.dev d)) ≤ sum_before + blocks
      devices =
          let each = sum_le (device_count D) (λ d. device_left D parts d + (block_count (shape_at D d) + 2)) (λ d. left_at D after d (parts.dev d)) one in
          let split = sum_two (device_count D) (device_left D parts) (λ d. block_count (shape_at D d) + 2) in
          omega arith
        where
          report_few : (b : Bool) → report_left b ≤ 1
          report_few true = omega arith
          report_few false = omega arith

          more : (r m a a' b b' n : ℕ) → a' ≤ n + 1 → b' ≤ 1 → r + m + a' + b' ≤ r + m + a + b + (n + 2)
          more r m a a' b b' n reads report = omega arith

          one : (d : ℕ) → d < device_count D → left_at D after d (parts.dev d) ≤ device_left D parts d + (block_count (shape_at D d) + 2)
          one d h =
              let sizes = (pass_fits D k parts.lead parts.dev fits.lead next.0 wanted).sizes d h in
              let reads = reads_few (blocks_left_in after d) in
              more (requests_left D d (parts.dev d)) (moves_left parts.lead (parts.dev d)) (reads_left (blocks_left_in parts.lead d)) (reads_left (blocks_left_in after d))
              (report_left (has_reported_in parts.lead d)) (report_left (has_reported_in after d)) (block_count (shape_at D d)) (omega arith) (report_few (has_reported_in after d))

pub left_falls : (D : Desc) (parts : Parts) (entry : Entry) → IsValid D → PartsFit D parts → PartsStand D parts → is_entry_of D entry ≡ true
    → fault_in D parts entry ≡ None → entries_left D (parts_after D parts entry) + 1 ≤ entries_left D parts
left_falls D parts entry valid fits stands named fine = less_is D parts (parts_after D parts entry) (less entry named fine)
  where
    less : (e : Entry) → is_entry_of D e ≡ true → fault_in D parts e ≡ None → Less D parts (parts_after D parts e)
    less (Issue d n) named fine = issue_less D parts valid fits stands d n (ltb-true d (device_count D) named) fine
    less (Deliver d n) named fine = deliver_less D parts valid fits stands d n (ltb-true d (device_count D) named) fine
    less (Complete d n) named fine = complete_less D parts valid fits stands d n (ltb-true d (device_count D) named) fine
    less (Hold d to) named fine = hold_less D parts valid fits stands d to (ltb-true d (device_count D) named) fine
    less (Arc d to) named fine = arc_less D parts valid fits stands d to (ltb-true d (device_count D) named) fine
    less (Fail d to) named fine = fail_less D parts valid fits stands d to (ltb-true d (device_count D) named) fine
    less (Report d) named fine = report_one D parts valid fits stands d (ltb-true d (device_count D) named) fine
    less (Pass k) named fine = pass_less D parts valid fits stands k fine
    less (Copy p) named fine = copy_less D parts valid fits stands p (ltb-true p D.pages named) fine
    less (Block d b) named fine =
        block_less D parts valid fits stands d b (ltb-true d (device_count D) (and_parts (nat_lt d (device_count D)) (nat_lt b (block_count (shape_at D d))) named).0) fine
    less (Dry d) named fine = dry_less D parts valid fits stands d (ltb-true d (device_count D) named) fine
    less Begin named fine = begin_less D parts valid fits stands fine
    less Joint named fine = joint_less D parts valid fits stands fine
    less Abort named fine = abort_less D parts valid fits stands fine
    less Resume named fine = resume_less D parts valid fits stands fine
