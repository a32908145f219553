-- Each allowed entry keeps how the devices stand: none in ERROR, and until the move is over held only for its next state.
use Rattle.vfm_parts.proofs.Allowed.{none_is}
use Rattle.std.proofs.lemmas.Option.{none-some}
use Rattle.std.proofs.Math.Bool.{or-true}
use Rattle.std.proofs.Common.{◌≡◌, ℕ, ◌+◌, ◌<◌, ◌==◌, ◌&&◌, ◌||◌, not, Bool, true, false, is_none, nat_lt, if◌then◌else◌, [], ◌∷◌, Option, Some, None, refl, ap, sym, ◌∙◌, ltb-true}
use Rattle.std.proofs.lemmas.Bool.{and_parts, not-true, false≢true, true≢false}
use Rattle.vfm_types.specs.declared.desc.Desc.{Desc}
use Rattle.vfm_types.specs.declared.state.MigState.{MigState}
use Rattle.vfm_types.specs.declared.state.MigState.TheVariants.{Error, Stop, Running, StopCopy, PreCopy}
use Rattle.vfm_types.specs.declared.entry.Entry.{Entry}
use Rattle.vfm_types.specs.declared.entry.Entry.TheVariants.{Issue, Deliver, Complete, Hold, Arc, Fail, Report, Pass, Copy, Block, Dry, Begin, Joint, Abort, Resume}
use Rattle.vfm_types.specs.declared.entry.Rule.TheVariants.{Order, Decide, Path, Quiet}
use Rattle.vfm_types.specs.State.{has_pre_copy}
use Rattle.vfm_types.specs.Paths.{same_state, next_towards}
use Rattle.vfm_types.specs.Desc.{device_count, shape_at, block_count}
use Rattle.vfm_types.specs.Job.{is_bar_of}
use Rattle.vfm_types.specs.Arcs.{is_stopped}
use Rattle.vfm_plain.specs.Legal.{is_entry_of}
use Rattle.vfm_laws.specs.Standing.{is_hold_step, is_arc_step}
use Rattle.vfm_laws.proofs.Rising.{by_bool}
use Rattle.vfm_laws.proofs.Conditions.{met}
use Rattle.vfm_laws.proofs.Steps.{same_is, hold_step, home_step, hold_arc, arc_known}
use Rattle.vfm_parts.specs.Parts.{Dev, Lead, Parts}
use Rattle.vfm_parts.specs.PartWords.{is_decided_in, is_next_towards_in, is_hold_for, is_way_open_in}
use Rattle.vfm_types.specs.declared.job.Region.{Region}
use Rattle.vfm_parts.specs.IssueStep.{issued_dev}
use Rattle.vfm_parts.specs.CompleteStep.{completed_dev}
use Rattle.vfm_parts.specs.FailStep.{failed_dev}
use Rattle.vfm_parts.specs.ReportStep.{reported_dev}
use Rattle.vfm_parts.specs.BlockStep.{read_dev}
use Rattle.vfm_parts.specs.DeliverStep.{job_in, region_of_job, region_bytes_in, delivered_dev, struck_dev}
use Rattle.vfm_parts.specs.HoldStep.{may_be_held_in, is_next_to_stop_copy_in, is_quiet_for_hold_in}
use Rattle.vfm_parts.specs.ArcStep.{may_take_arcs_in, is_arc_home_in, is_right_arc_in, is_quiet_for_arc_in}
use Rattle.vfm_parts.specs.Steps.{fault_in, with_dev, parts_after, dev_after, lead_after}
use Rattle.vfm_parts_laws.specs.EntriesLeft.{is_over, DevStands, PartsStand}

-- ---- what a hold and an arc are allowed for

pub hold_allowed : (D : Desc) (parts : Parts) (d : ℕ) (to : MigState) → fault_in D parts (Hold d to) ≡ None
    → ((parts.dev d).hold ≡ None) × (is_stopped (parts.dev d).state ≡ false) × (to ≡ next_towards (parts.dev d).state StopCopy (shape_at D d).flags)
hold_allowed D parts d to fine =
    let path = is_next_to_stop_copy_in D d to (parts.dev d) in
    let order = met (may_be_held_in parts.lead (parts.dev d)) Order ((is_decided_in D parts.lead, Decide) ∷ (path, Path) ∷ (is_quiet_for_hold_in D to parts.dev, Quiet) ∷ []) fine in
    let decided = met (is_decided_in D parts.lead) Decide ((path, Path) ∷ (is_quiet_for_hold_in D to parts.dev, Quiet) ∷ []) order.1 in
    let right = met path Path ((is_quiet_for_hold_in D to parts.dev, Quiet) ∷ []) decided.1 in
    let parts_of = and_parts (not (is_stopped (parts.dev d).state)) (is_next_towards_in D d StopCopy to (parts.dev d)) right.0 in (
      none_is (parts.dev d).hold (and_parts _ (is_none (parts.dev d).hold) order.0).1,
      not-true (is_stopped (parts.dev d).state) parts_of.0,
      same_is to (next_towards (parts.dev d).state StopCopy (shape_at D d).flags) parts_of.1,
    )

-- The arcs of a device: home once the move is over; before that to PRE_COPY, into the state that it is held for, or from
-- STOP to STOP_COPY.
pub data Way (D : Desc) (lead : Lead) (dev : Dev) (d : ℕ) (to : MigState) : Type 0 where
  home : is_over lead ≡ true → same_state dev.state Running ≡ false → to ≡ next_towards dev.state Running (shape_at D d).flags → Way D lead dev d to
  early : is_over lead ≡ false → dev.state ≡ Running → to ≡ PreCopy → Way D lead dev d to
  held : is_over lead ≡ false → dev.hold ≡ Some to → Way D lead dev d to
  final : is_over lead ≡ false → dev.state ≡ Stop → to ≡ StopCopy → Way D lead dev d to

one_of : {X : Type 0} (a b c : Bool) → (a || b || c) ≡ true → (a ≡ true → X) → (b ≡ true → X) → (c ≡ true → X) → X
one_of true b c test first second third = first refl
one_of false true c test first second third = second refl
one_of false false c test first second third = third test

open_way : (D : Desc) (lead : Lead) (dev : Dev) (d : ℕ) (to : MigState) → is_over lead ≡ false → is_way_open_in D d to lead dev ≡ true → Way D lead dev d to
open_way D lead dev d to moving open_ =
    one_of (same_state dev.state Running && same_state to PreCopy && has_pre_copy (shape_at D d).flags && nat_lt 0 D.rounds && lead.passes == 0)
    (is_hold_for to dev.hold) (same_state dev.state Stop && same_state to StopCopy && is_decided_in D lead) open_
    (λ h.
    let two = (and_parts (same_state dev.state Running && same_state to PreCopy) (has_pre_copy (shape_at D d).flags)
    (and_parts (same_state dev.state Running && same_state to PreCopy && has_pre_copy (shape_at D d).flags) (nat_lt 0 D.rounds)
    (and_parts (same_state dev.state Running && same_state to PreCopy && has_pre_copy (shape_at D d).flags && nat_lt 0 D.rounds) (lead.passes == 0) h).0).0).0 in
    let one = and_parts (same_state dev.state Running) (same_state to PreCopy) two in
    early moving (same_is dev.state Running one.0) (same_is to PreCopy one.1))
    (λ h. held moving (hold_is dev.hold h))
    (λ h.
    let one = and_parts (same_state dev.state Stop) (same_state to StopCopy) (and_parts (same_state dev.state Stop && same_state to StopCopy) (is_decided_in D lead) h).0 in
    final moving (same_is dev.state Stop one.0) (same_is to StopCopy one.1))
  where
    hold_is : (hold : Option MigState) → is_hold_for to hold ≡ true → hold ≡ Some to
    hold_is None e = absurd (false≢true e)
    hold_is (Some state) e = ap Some (same_is state to e)

pub arc_allowed : (D : Desc) (parts : Parts) (d : ℕ) (to : MigState) → fault_in D parts (Arc d to) ≡ None → Way D parts.lead (parts.dev d) d to
arc_allowed D parts d to fine =
    let order = met (may_take_arcs_in parts.lead) Order ((is_right_arc_in D d to parts.lead (parts.dev d), Path) ∷ (is_quiet_for_arc_in D d to parts.dev, Quiet) ∷ []) fine in
    let right = met (is_right_arc_in D d to parts.lead (parts.dev d)) Path ((is_quiet_for_arc_in D d to parts.dev, Quiet) ∷ []) order.1 in
    by_bool (is_over parts.lead)
    (λ b. is_over parts.lead ≡ b → (if b then is_arc_home_in D d to (parts.dev d) else is_way_open_in D d to parts.lead (parts.dev d) && not ((parts.dev d).arcs + 1 == (shape_at D d).fails)) ≡ true
    → Way D parts.lead (parts.dev d) d to)
    (λ over e h.
    let two = and_parts (not (same_state (parts.dev d).state Running)) (is_next_towards_in D d Running to (parts.dev d)) h in
    home e (not-true (same_state (parts.dev d).state Running) two.0) (same_is to (next_towards (parts.dev d).state Running (shape_at D d).flags) two.1))
    (λ moving e h. open_way D parts.lead (parts.dev d) d to e (and_parts (is_way_open_in D d to parts.lead (parts.dev d)) _ h).0)
    refl right.0

-- ---- devices keep standing so

way_known : (D : Desc) (lead : Lead) (dev : Dev) (d : ℕ) (to : MigState) → DevStands lead dev → Way D lead dev d to → same_state to Error ≡ false
way_known D lead dev d to stands (home over away is) =
    arc_known dev.state to (ap (is_arc_step dev.state) is ∙ home_step dev.state (shape_at D d).flags away stands.known)
way_known D lead dev d to stands (early moving from is) = ap (λ (s : MigState). same_state s Error) is
way_known D lead dev d to stands (held moving is) = arc_known dev.state to (hold_arc dev.state to (stands.held moving to is))
way_known D lead dev d to stands (final moving from is) = ap (λ (s : MigState). same_state s Error) is

-- a device of which the state and the hold are as they were, under a coordinator that is over where it was
as_before : (lead other : Lead) (dev after : Dev) → DevStands lead dev → (is_over other ≡ false → is_over lead ≡ false) → after.state ≡ dev.state
    → ((to : MigState) → after.hold ≡ Some to → dev.hold ≡ Some to) → DevStands other after
as_before lead other dev after stands over state hold =
    record {
      known = ap (λ (s : MigState). same_state s Error) state ∙ stands.known;
      held = λ moving to is. ap (λ (s : MigState). is_hold_step s to) state ∙ stands.held (over moving) to (hold to is);
    }

one_stands : (D : Desc) (parts : Parts) (lead : Lead) (d : ℕ) (after : Dev) → DevStands lead after
    → ((k : ℕ) → k < device_count D → DevStands lead (parts.dev k)) → (k : ℕ) → k < device_count D → DevStands lead (with_dev d after parts.dev k)
one_stands D parts lead d after own others k h =
    by_bool (d == k) (λ b. DevStands lead (if b then after else parts.dev k)) (λ here. own) (λ away. others k h)

-- one device changed in other things than its state and its hold
one_as : (D : Desc) (parts : Parts) (other : Lead) (d : ℕ) (change : Dev → Dev) → PartsStand D parts → d < device_count D
    → (is_over other ≡ false → is_over parts.lead ≡ false) → ((x : Dev) → (change x).state ≡ x.state) → ((x : Dev) → (change x).hold ≡ x.hold)
    → (k : ℕ) → k < device_count D → DevStands other (with_dev d (change (parts.dev d)) parts.dev k)
one_as D parts other d change stands inside over state hold k h =
    by_bool (d == k) (λ b. DevStands other (if b then change (parts.dev d) else parts.dev k))
    (λ here. as_before parts.lead other (parts.dev d) (change (parts.dev d)) (stands d inside) over (state (parts.dev d)) (λ to is. sym (hold (parts.dev d)) ∙ is))
    (λ away. as_before parts.lead other (parts.dev k) (parts.dev k) (stands k h) over refl (λ to is. is))

all_as : (D : Desc) (parts : Parts) (other : Lead) → PartsStand D parts → (is_over other ≡ false → is_over parts.lead ≡ false)
    → (k : ℕ) → k < device_count D → DevStands other (parts.dev k)
all_as D parts other stands over k h = as_before parts.lead other (parts.dev k) (parts.dev k) (stands k h) over refl (λ to is. is)

deliver_stands : (D : Desc) (parts : Parts) (d n : ℕ) → PartsStand D parts → d < device_count D
    → (k : ℕ) → k < device_count D → DevStands parts.lead (dev_after D parts (Deliver d n) k)
deliver_stands D parts d n stands inside k h =
    by_bool (d == k)
    (λ b. DevStands parts.lead (if b then own else (if is_bar_of k region then target else parts.dev k)))
    (λ here. as_before parts.lead parts.lead (parts.dev d) own (stands d inside) (λ moving. moving) refl (λ to is. is))
    (λ away. by_bool (is_bar_of k region) (λ b. DevStands parts.lead (if b then target else parts.dev k))
    (λ hit. as_before parts.lead parts.lead (parts.dev k) target (stands k h) (λ moving. moving) refl (λ to is. is)) (λ miss. stands k h))
  where
    region : Region
    region = region_of_job D (job_in D d n (parts.dev d))

    own : Dev
    own = delivered_dev D d n (region_bytes_in parts region) (parts.dev d)

    target : Dev
    target = struck_dev D k (job_in D d n (parts.dev d)) (parts.dev d).plain.buf (parts.dev k)

pub step_stands : (D : Desc) (parts : Parts) (entry : Entry) → PartsStand D parts → is_entry_of D entry ≡ true → fault_in D parts entry ≡ None
    → PartsStand D (parts_after D parts entry)
step_stands D parts (Hold d to) stands named fine =
    let own = stands d (ltb-true d (device_count D) named) in
    let allowed = hold_allowed D parts d to fine in
    one_stands D parts parts.lead d (record (parts.dev d) { hold = Some to })
    (record {
      known = own.known;
      held = λ moving s is. ap (is_hold_step (parts.dev d).state) (some_same to s is) ∙ hold_next d to own allowed;
    }) stands
  where
    some_same : (a b : MigState) → Some a ≡ Some b → b ≡ a
    some_same a b e = cc

    hold_next : (d : ℕ) (to : MigState) → DevStands parts.lead (parts.dev d)
        → ((parts.dev d).hold ≡ None) × (is_stopped (parts.dev d).state ≡ false) × (to ≡ next_towards (parts.dev d).state StopCopy (shape_at D d).flags)
        → is_hold_step (parts.dev d).state to ≡ true
    hold_next d to own allowed =
        ap (is_hold_step (parts.dev d).state) allowed.2 ∙ hold_step (parts.dev d).state (shape_at D d).flags allowed.1 own.known
step_stands D parts (Arc d to) stands named fine =
    let own = stands d (ltb-true d (device_count D) named) in
    one_stands D parts parts.lead d _
    (record { known = way_known D parts.lead (parts.dev d) d to own (arc_allowed D parts d to fine); held = λ moving s is. absurd (none-some s is) }) stands
step_stands D parts (Issue d n) stands named fine =
    one_as D parts parts.lead d (issued_dev n) stands (ltb-true d (device_count D) named) (λ moving. moving) (λ x. refl) (λ x. refl)
step_stands D parts (Deliver d n) stands named fine = deliver_stands D parts d n stands (ltb-true d (device_count D) named)
step_stands D parts (Complete d n) stands named fine =
    one_as D parts parts.lead d (completed_dev D d n) stands (ltb-true d (device_count D) named) (λ moving. moving) (λ x. refl) (λ x. refl)
step_stands D parts (Fail d to) stands named fine =
    one_as D parts (lead_after D parts (Fail d to)) d failed_dev stands (ltb-true d (device_count D) named) (λ moving. moving) (λ x. refl) (λ x. refl)
step_stands D parts (Report d) stands named fine =
    one_as D parts (lead_after D parts (Report d)) d reported_dev stands (ltb-true d (device_count D) named) (λ moving. moving) (λ x. refl) (λ x. refl)
step_stands D parts (Block d b) stands named fine =
    one_as D parts (lead_after D parts (Block d b)) d (read_dev D d b) stands
    (ltb-true d (device_count D) (and_parts (nat_lt d (device_count D)) (nat_lt b (block_count (shape_at D d))) named).0) (λ moving. moving) (λ x. refl) (λ x. refl)
step_stands D parts (Pass k) stands named fine = all_as D parts (lead_after D parts (Pass k)) stands (λ moving. moving)
step_stands D parts (Copy p) stands named fine = all_as D parts (lead_after D parts (Copy p)) stands (λ moving. moving)
step_stands D parts (Dry d) stands named fine = all_as D parts (lead_after D parts (Dry d)) stands (λ moving. moving)
step_stands D parts Joint stands named fine = all_as D parts (lead_after D parts Joint) stands (λ moving. moving)
step_stands D parts Begin stands named fine =
    λ k h. as_before parts.lead (lead_after D parts Begin) (parts.dev k) _ (stands k h) (λ moving. moving) refl (λ to is. is)
step_stands D parts Abort stands named fine =
    λ k h. record { known = (stands k h).known; held = λ moving to is. absurd (true≢false moving) }
step_stands D parts Resume stands named fine =
    λ k h. record { known = refl; held = λ moving to is. absurd (true≢false (sym (or-true parts.lead.aborted) ∙ moving)) }
