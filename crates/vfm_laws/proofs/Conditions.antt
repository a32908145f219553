-- From an entry that breaks no rule to each of its conditions, by name.
use Rattle.std.proofs.Common.{sym, nat_le, ◌≡◌, ℕ, ◌+◌, ◌<◌, ◌==◌, Bool, true, false, not, ◌&&◌, ◌||◌, if◌then◌else◌, List, [], ◌∷◌, length, nat_lt, Option, Some, None, refl, ap, ◌∙◌, ltb-true, eqb-true, is_none}
use Rattle.std.proofs.lemmas.Bool.{and_parts, not-true, false≢true, true≢false}
use Rattle.std.proofs.lemmas.List.{nil_from_length}
use Rattle.vfm_types.specs.declared.state.MigState.{MigState}
use Rattle.vfm_types.specs.declared.state.MigState.TheVariants.{Stop, Running, StopCopy, PreCopy}
use Rattle.vfm_types.specs.declared.entry.Entry.{Entry}
use Rattle.vfm_types.specs.declared.entry.Entry.TheVariants.{Issue, Deliver, Complete, Hold, Arc, Fail, Pass, Joint, Abort, Resume}
use Rattle.vfm_types.specs.declared.entry.Rule.{Rule}
use Rattle.vfm_types.specs.declared.entry.Rule.TheVariants.{Turn, Path, Barred, Quiet, Start, Decide, Order, Pages, Joint as Standing}
use Rattle.vfm_types.specs.declared.desc.Desc.{Desc}
use Rattle.vfm_types.specs.State.{has_pre_copy}
use Rattle.vfm_types.specs.Desc.{device_count, shape_at}
use Rattle.vfm_types.specs.Paths.{same_state, next_towards}
use Rattle.vfm_types.specs.Machine.{DeviceState, device_of}
use Rattle.vfm_types.specs.Requests.{fences, job_or_zero}
use Rattle.vfm_types.specs.Deliveries.{machine_of}
use Rattle.vfm_types.specs.Phases.{is_begun, is_joint, is_aborted, is_resumed, is_failed, is_on, is_last_begun, pass_count}
use Rattle.vfm_types.specs.Arcs.{state_of, hold_of, arc_count, is_stopped}
use Rattle.vfm_types.specs.Outstanding.{Outstanding, outstanding_of, is_undelivered, is_arrived, unissued}
use Rattle.vfm_base.specs.Least.{all_below}
use Rattle.vfm_types.specs.Marks.{has_reported}
use Rattle.vfm_types.specs.Blocks.{is_no_pass_open}
use Rattle.vfm_types.specs.Words.{is_nothing, has_fence, has_barred, is_quiet, none_stopped, all_stand_in, is_decided, is_next_towards, is_held_for, is_way_open}
use Rattle.vfm_base.specs.Tests.{first_failed}
use Rattle.vfm_plain.specs.Condition.{Condition, is_exactly}
use Rattle.vfm_plain.specs.Rules.{fault_of}
use Rattle.vfm_plain.specs.IssueRules.{first_number, is_next_to_issue, is_request_allowed, may_issue_yet}
use Rattle.vfm_plain.specs.ArcRules.{may_take_arcs, is_arc_home, is_right_arc, is_quiet_for_arc, is_entering_p2p, is_stopping, is_leaving_p2p}
use Rattle.vfm_plain.specs.FailRules.{is_right_fail}
use Rattle.vfm_plain.specs.PassRules.{is_next_pass, is_pass_wanted}
use Rattle.vfm_laws.proofs.Walks.{some_none}
use Rattle.vfm_laws.proofs.Rising.{by_bool}
use Rattle.vfm_laws.proofs.Below.{all_below_at}
use Rattle.vfm_laws.proofs.Steps.{same_is}

-- where no condition is broken, the first holds and none of the others is broken
pub met : (holds : Bool) (rule : Rule) (others : List Condition) → first_failed ((holds, rule) ∷ others) ≡ None → (holds ≡ true) × (first_failed others ≡ None)
met true rule others unbroken = (refl, unbroken)
met false rule others unbroken = absurd (some_none rule unbroken)

-- whose turn it is, over a device and its outstanding requests
pub record HasTurn (D : Desc) (d n : ℕ) (device : DeviceState) (requests : List Outstanding) : Type 0 where
  pub first : is_exactly n (first_number (unissued requests device.pending)) ≡ true
  pub room : length requests < (shape_at D d).window
  pub unfenced : has_fence D d requests ≡ false
  pub fence : (not (fences D d (job_or_zero n device.pending)) || is_nothing requests) ≡ true

pub turn_parts : (D : Desc) (d n : ℕ) (past : List Entry) → is_next_to_issue D d n past ≡ true → HasTurn D d n (device_of (machine_of D past) d) (outstanding_of D d past)
turn_parts D d n past turn =
    let pending = (device_of (machine_of D past) d).pending in
    let requests = outstanding_of D d past in
    let front = is_exactly n (first_number (unissued requests pending)) in
    let room = nat_lt (length requests) (shape_at D d).window in
    let last = not (fences D d (job_or_zero n pending)) || is_nothing requests in
    let all = and_parts (front && room && not (has_fence D d requests)) last turn in
    let three = and_parts (front && room) (not (has_fence D d requests)) all.0 in
    let two = and_parts front room three.0 in
    record {
      first = two.0;
      room = ltb-true (length requests) (shape_at D d).window two.1;
      unfenced = not-true (has_fence D d requests) three.1;
      fence = all.1;
    }

pub issue_met : (D : Desc) (past : List Entry) (d n : ℕ) → fault_of D past (Issue d n) ≡ None
    → HasTurn D d n (device_of (machine_of D past) d) (outstanding_of D d past) × (is_request_allowed D d n past ≡ true) × (may_issue_yet D d past ≡ true)
issue_met D past d n unbroken =
    let turn = met (is_next_to_issue D d n past) Turn ((is_request_allowed D d n past, Barred) ∷ (may_issue_yet D d past, Start) ∷ []) unbroken in
    let going = met (is_request_allowed D d n past) Barred ((may_issue_yet D d past, Start) ∷ []) turn.1 in
    let start = met (may_issue_yet D d past) Start [] going.1 in
    (turn_parts D d n past turn.0, going.0, start.0)

pub deliver_met : (D : Desc) (past : List Entry) (d n : ℕ) → fault_of D past (Deliver d n) ≡ None → is_undelivered n (outstanding_of D d past) ≡ true
deliver_met D past d n unbroken = (met (is_undelivered n (outstanding_of D d past)) Turn [] unbroken).0

pub complete_met : (D : Desc) (past : List Entry) (d n : ℕ) → fault_of D past (Complete d n) ≡ None → is_arrived n (outstanding_of D d past) ≡ true
complete_met D past d n unbroken = (met (is_arrived n (outstanding_of D d past)) Turn [] unbroken).0

-- what the quiet of an arc asks for, by what the arc does
pub record QuietFor (D : Desc) (d : ℕ) (to : MigState) (past : List Entry) : Type 0 where
  pub enters : is_entering_p2p (state_of d past) to ≡ true → has_barred D d (outstanding_of D d past) ≡ false
  pub stopped : is_stopping (state_of d past) to ≡ true → (outstanding_of D d past ≡ []) × (is_quiet D past ≡ true)
  pub leaves : is_leaving_p2p (state_of d past) to ≡ true → none_stopped D past ≡ true

-- the second test, where the first holds
pub where_first : (a b : Bool) → (not a || b) ≡ true → a ≡ true → b ≡ true
where_first true b test here = test
where_first false b test here = absurd (false≢true here)

pub quiet_parts : (D : Desc) (d : ℕ) (to : MigState) (past : List Entry) → is_quiet_for_arc D d to past ≡ true → QuietFor D d to past
quiet_parts D d to past quiet =
    let from = state_of d past in
    let requests = outstanding_of D d past in
    let first = not (is_entering_p2p from to) || not (has_barred D d requests) in
    let second = not (is_stopping from to) || (is_nothing requests && is_quiet D past) in
    let third = not (is_leaving_p2p from to) || none_stopped D past in
    let all = and_parts (first && second) third quiet in
    let two = and_parts first second all.0 in
    record {
      enters = λ here. not-true (has_barred D d requests) (where_first (is_entering_p2p from to) (not (has_barred D d requests)) two.0 here);
      stopped = λ here.
          let both = and_parts (is_nothing requests) (is_quiet D past) (where_first (is_stopping from to) (is_nothing requests && is_quiet D past) two.1 here) in
          (nil_from_length requests (eqb-true (length requests) 0 both.0), both.1);
      leaves = λ here. where_first (is_leaving_p2p from to) (none_stopped D past) all.1 here;
    }

pub hold_met : (D : Desc) (past : List Entry) (d : ℕ) (to : MigState) → fault_of D past (Hold d to) ≡ None
    → (is_stopped (state_of d past) ≡ false) × (to ≡ next_towards (state_of d past) StopCopy (shape_at D d).flags)
hold_met D past d to unbroken =
    let path = not (is_stopped (state_of d past)) && is_next_towards D d StopCopy to past in
    let still = not (same_state to Stop || same_state to StopCopy) || is_quiet D past in
    let order = met (is_on past && not (is_joint past) && is_none (hold_of d past)) Order ((is_decided D past, Decide) ∷ (path, Path) ∷ (still, Quiet) ∷ []) unbroken in
    let decided = met (is_decided D past) Decide ((path, Path) ∷ (still, Quiet) ∷ []) order.1 in
    let right = met path Path ((still, Quiet) ∷ []) decided.1 in
    let parts = and_parts (not (is_stopped (state_of d past))) (is_next_towards D d StopCopy to past) right.0 in
    (not-true (is_stopped (state_of d past)) parts.0, same_is to (next_towards (state_of d past) StopCopy (shape_at D d).flags) parts.1)

pub arc_met : (D : Desc) (past : List Entry) (d : ℕ) (to : MigState) → fault_of D past (Arc d to) ≡ None
    → (may_take_arcs past ≡ true) × (is_right_arc D d to past ≡ true) × QuietFor D d to past
arc_met D past d to unbroken =
    let order = met (may_take_arcs past) Order ((is_right_arc D d to past, Path) ∷ (is_quiet_for_arc D d to past, Quiet) ∷ []) unbroken in
    let right = met (is_right_arc D d to past) Path ((is_quiet_for_arc D d to past, Quiet) ∷ []) order.1 in
    let quiet = met (is_quiet_for_arc D d to past) Quiet [] right.1 in
    (order.0, right.0, quiet_parts D d to past quiet.0)

-- the state that a device is held for
held_state : (d : ℕ) (to : MigState) (past : List Entry) → is_held_for d to past ≡ true → hold_of d past ≡ Some to
held_state d to past held = go (hold_of d past) refl
  where
    go : (hold : Option MigState) → hold_of d past ≡ hold → hold_of d past ≡ Some to
    go None e = absurd (false≢true (rw e at held))
    go (Some state) e = e ∙ ap Some (same_is state to (rw e at held))

-- The ways of a device before it stops: to PRE_COPY before the first pass, into the state that it is held for, or from
-- STOP to STOP_COPY.
pub data OpenWay (past : List Entry) (d : ℕ) (to : MigState) : Type 0 where
  early : state_of d past ≡ Running → to ≡ PreCopy → OpenWay past d to
  held : hold_of d past ≡ Some to → OpenWay past d to
  final : state_of d past ≡ Stop → to ≡ StopCopy → OpenWay past d to

-- the ways of a device: home to RUNNING once the move was given up or taken over, and before that an open one
pub data ArcWay (D : Desc) (past : List Entry) (d : ℕ) (to : MigState) : Type 0 where
  homeward : (is_aborted past || is_resumed past) ≡ true → same_state (state_of d past) Running ≡ false
      → to ≡ next_towards (state_of d past) Running (shape_at D d).flags → ArcWay D past d to
  outward : (is_aborted past || is_resumed past) ≡ false → OpenWay past d to → ArcWay D past d to

early_way : (D : Desc) (past : List Entry) (d : ℕ) (to : MigState)
    → (same_state (state_of d past) Running && same_state to PreCopy && has_pre_copy (shape_at D d).flags && nat_lt 0 D.rounds && pass_count past == 0) ≡ true
    → OpenWay past d to
early_way D past d to test =
    let from = state_of d past in
    let has = has_pre_copy (shape_at D d).flags in
    let four = (and_parts (same_state from Running && same_state to PreCopy && has && nat_lt 0 D.rounds) (pass_count past == 0) test).0 in
    let three = (and_parts (same_state from Running && same_state to PreCopy && has) (nat_lt 0 D.rounds) four).0 in
    let two = (and_parts (same_state from Running && same_state to PreCopy) has three).0 in
    let one = and_parts (same_state from Running) (same_state to PreCopy) two in
    early (same_is from Running one.0) (same_is to PreCopy one.1)

final_way : (D : Desc) (past : List Entry) (d : ℕ) (to : MigState) → (same_state (state_of d past) Stop && same_state to StopCopy && is_decided D past) ≡ true
    → OpenWay past d to
final_way D past d to test =
    let from = state_of d past in
    let two = (and_parts (same_state from Stop && same_state to StopCopy) (is_decided D past) test).0 in
    let one = and_parts (same_state from Stop) (same_state to StopCopy) two in
    final (same_is from Stop one.0) (same_is to StopCopy one.1)

-- one of three tests
one_of : {X : Type 0} (a b c : Bool) → (a || b || c) ≡ true → (a ≡ true → X) → (b ≡ true → X) → (c ≡ true → X) → X
one_of true b c test first second third = first refl
one_of false true c test first second third = second refl
one_of false false c test first second third = third test

pub open_way : (D : Desc) (past : List Entry) (d : ℕ) (to : MigState) → is_way_open D d to past ≡ true → OpenWay past d to
open_way D past d to test =
    one_of (same_state (state_of d past) Running && same_state to PreCopy && has_pre_copy (shape_at D d).flags && nat_lt 0 D.rounds && pass_count past == 0)
    (is_held_for d to past) (same_state (state_of d past) Stop && same_state to StopCopy && is_decided D past) test
    (early_way D past d to) (λ h. held (held_state d to past h)) (final_way D past d to)

pub arc_way : (D : Desc) (past : List Entry) (d : ℕ) (to : MigState) → is_right_arc D d to past ≡ true → ArcWay D past d to
arc_way D past d to right =
    by_bool (is_aborted past || is_resumed past)
    (λ b. (is_aborted past || is_resumed past) ≡ b
    → (if b then is_arc_home D d to past else is_way_open D d to past && not (arc_count d past + 1 == (shape_at D d).fails)) ≡ true → ArcWay D past d to)
    (λ over e h.
    let parts = and_parts (not (same_state (state_of d past) Running)) (is_next_towards D d Running to past) h in
    homeward e (not-true (same_state (state_of d past) Running) parts.0) (same_is to (next_towards (state_of d past) Running (shape_at D d).flags) parts.1))
    (λ on_ e h. outward e (open_way D past d to (and_parts (is_way_open D d to past) (not (arc_count d past + 1 == (shape_at D d).fails)) h).0))
    refl right

pub joint_met : (D : Desc) (past : List Entry) → fault_of D past Joint ≡ None → (d : ℕ) → d < device_count D → state_of d past ≡ StopCopy
joint_met D past unbroken d inside =
    let order = met (is_on past && not (is_joint past)) Order ((all_stand_in D StopCopy past, Standing) ∷ []) unbroken in
    let standing = met (all_stand_in D StopCopy past) Standing [] order.1 in
    same_is (state_of d past) StopCopy (all_below_at (device_count D) (λ k. same_state (state_of k past) StopCopy) d standing.0 inside)

-- a move that is on was neither given up nor taken over
pub on_parts : (past : List Entry) → is_on past ≡ true → (is_aborted past ≡ false) × (is_resumed past ≡ false)
on_parts past on_ =
    let three = (and_parts (is_begun past && not (is_aborted past) && not (is_resumed past)) (not (is_failed past)) on_).0 in
    let two = and_parts (is_begun past && not (is_aborted past)) (not (is_resumed past)) three in
    let one = and_parts (is_begun past) (not (is_aborted past)) two.0 in
    (not-true (is_aborted past) one.1, not-true (is_resumed past) two.1)

pub resume_met : (D : Desc) (past : List Entry) → fault_of D past Resume ≡ None
    → (is_joint past ≡ true) × (is_aborted past ≡ false) × (is_resumed past ≡ false)
resume_met D past unbroken =
    let order = met (is_on past) Order ((is_joint past && is_last_begun past && is_no_pass_open D past, Standing) ∷ []) unbroken in
    let standing = met (is_joint past && is_last_begun past && is_no_pass_open D past) Standing [] order.1 in
    let two = (and_parts (is_joint past && is_last_begun past) (is_no_pass_open D past) standing.0).0 in
    let on_ = on_parts past order.0 in
    ((and_parts (is_joint past) (is_last_begun past) two).0, on_.0, on_.1)

-- no arc is made after Joint while the move is neither given up nor taken over
pub no_move : (on_ joint aborted resumed : Bool) → ((on_ && not joint) || aborted || resumed) ≡ true → joint ≡ true → aborted ≡ false → resumed ≡ false → ⊥
no_move on_ false aborted resumed moves j a r = false≢true j
no_move on_ true true resumed moves j a r = true≢false a
no_move on_ true false true moves j a r = true≢false r
no_move true true false false moves j a r = false≢true moves
no_move false true false false moves j a r = false≢true moves

pub pass_met : (D : Desc) (past : List Entry) (k : ℕ) → fault_of D past (Pass k) ≡ None → (is_no_pass_open D past ≡ true) × (is_pass_wanted D k past ≡ true)
pass_met D past k unbroken =
    let order = met (is_on past) Order ((is_next_pass D k past, Pages) ∷ (is_pass_wanted D k past, Decide) ∷ []) unbroken in
    let next = met (is_next_pass D k past) Pages ((is_pass_wanted D k past, Decide) ∷ []) order.1 in
    let wanted = met (is_pass_wanted D k past) Decide [] next.1 in
    let reported = nat_le k 1 || all_below (device_count D) (λ d. has_reported d past) in
    let two = (and_parts (k == pass_count past + 1 && is_no_pass_open D past) reported next.0).0 in
    ((and_parts (k == pass_count past + 1) (is_no_pass_open D past) two).1, wanted.0)

-- a fail comes before the move is given up or taken over
pub fail_met : (D : Desc) (past : List Entry) (d : ℕ) (to : MigState) → fault_of D past (Fail d to) ≡ None
    → (may_take_arcs past ≡ true) × (is_aborted past ≡ false) × (is_resumed past ≡ false)
fail_met D past d to unbroken =
    let order = met (may_take_arcs past) Order ((is_right_fail D d to past, Path) ∷ (is_quiet_for_arc D d to past, Quiet) ∷ []) unbroken in
    let right = met (is_right_fail D d to past) Path ((is_quiet_for_arc D d to past, Quiet) ∷ []) order.1 in
    let four = not (is_aborted past) && not (is_resumed past) && is_way_open D d to past && nat_lt 0 (shape_at D d).fails in
    let three = (and_parts four (arc_count d past + 1 == (shape_at D d).fails) right.0).0 in
    let two = (and_parts (not (is_aborted past) && not (is_resumed past) && is_way_open D d to past) (nat_lt 0 (shape_at D d).fails) three).0 in
    let one = and_parts (not (is_aborted past)) (not (is_resumed past)) (and_parts (not (is_aborted past) && not (is_resumed past)) (is_way_open D d to past) two).0 in
    (order.0, not-true (is_aborted past) one.0, not-true (is_resumed past) one.1)

-- arcs before the move is given up or taken over are made while it is on, so none has failed
pub moving_unfailed : (past : List Entry) → may_take_arcs past ≡ true → is_aborted past ≡ false → is_resumed past ≡ false → is_failed past ≡ false
moving_unfailed past moves aborted resumed =
    one_of (is_on past && not (is_joint past)) (is_aborted past) (is_resumed past) moves
    (λ on_. not-true (is_failed past)
    (and_parts (is_begun past && not (is_aborted past) && not (is_resumed past)) (not (is_failed past)) (and_parts (is_on past) (not (is_joint past)) on_).0).1)
    (λ over. absurd (true≢false (sym over ∙ aborted))) (λ over. absurd (true≢false (sym over ∙ resumed)))

-- a source that gives up hasn't before
pub abort_met : (D : Desc) (past : List Entry) → fault_of D past Abort ≡ None → (is_aborted past ≡ false) × (is_resumed past ≡ false)
abort_met D past unbroken =
    let order = met (not (is_aborted past) && not (is_resumed past)) Order [] unbroken in
    let parts = and_parts (not (is_aborted past)) (not (is_resumed past)) order.0 in
    (not-true (is_aborted past) parts.0, not-true (is_resumed past) parts.1)

-- a move that is on hasn't failed
pub on_unfailed : (past : List Entry) → is_on past ≡ true → is_failed past ≡ false
on_unfailed past on_ = not-true (is_failed past) (and_parts (is_begun past && not (is_aborted past) && not (is_resumed past)) (not (is_failed past)) on_).1

pub resume_on : (D : Desc) (past : List Entry) → fault_of D past Resume ≡ None → is_on past ≡ true
resume_on D past unbroken = (met (is_on past) Order ((is_joint past && is_last_begun past && is_no_pass_open D past, Standing) ∷ []) unbroken).0
