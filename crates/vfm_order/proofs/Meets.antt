-- Entries that meet their conditions, from each condition by name.
use Rattle.std.proofs.Common.{◌≡◌, ℕ, ◌+◌, ◌<◌, ◌==◌, ◌&&◌, ◌||◌, not, Bool, true, false, nat_lt, nat_le, if◌then◌else◌, List, [], ◌∷◌, Option, Some, None, is_none, refl, ap, ◌∙◌, arith, eq-eqb, eqb-true, lt-ltb}
use Rattle.std.proofs.lemmas.Bool.{and_from, or_left}
use Rattle.vfm_types.specs.declared.desc.Desc.{Desc}
use Rattle.vfm_types.specs.declared.entry.Entry.{Entry}
use Rattle.vfm_types.specs.declared.entry.Entry.TheVariants.{Hold, Arc, Fail, Report, Pass, Copy, Block, Dry, Begin, Joint, Abort}
use Rattle.vfm_types.specs.declared.entry.Rule.{Rule}
use Rattle.vfm_types.specs.declared.entry.Rule.TheVariants.{Path, Quiet, Start, Pages, Blocks, Decide, Order, Joint as Standing}
use Rattle.vfm_types.specs.declared.state.MigState.{MigState}
use Rattle.vfm_types.specs.declared.state.MigState.TheVariants.{Running, StopCopy}
use Rattle.vfm_types.specs.Desc.{device_count, shape_at, block_count}
use Rattle.vfm_types.specs.Paths.{same_state, next_towards}
use Rattle.vfm_types.specs.Phases.{is_begun, is_joint, is_aborted, is_resumed, is_failed, is_on, is_last_begun, pass_count}
use Rattle.vfm_types.specs.Arcs.{state_of, hold_of, arc_count, is_stopped}
use Rattle.vfm_types.specs.Marks.{has_reported, next_copy}
use Rattle.vfm_types.specs.Blocks.{next_block, next_part, is_no_pass_open}
use Rattle.vfm_types.specs.Words.{is_decided, is_way_open, all_stand_in}
use Rattle.vfm_base.specs.Least.{all_below}
use Rattle.vfm_base.specs.Tests.{first_failed}
use Rattle.vfm_plain.specs.Condition.{is_exactly}
use Rattle.vfm_plain.specs.ArcRules.{may_take_arcs, is_arc_home, is_right_arc, is_quiet_for_arc}
use Rattle.vfm_plain.specs.FailRules.{is_right_fail}
use Rattle.vfm_plain.specs.HoldRules.{may_be_held, is_next_to_stop_copy, is_quiet_for_hold}
use Rattle.vfm_plain.specs.ReportRules.{may_report_log}
use Rattle.vfm_plain.specs.PassRules.{is_next_pass, is_pass_wanted}
use Rattle.vfm_plain.specs.CopyRules.{is_copy_due}
use Rattle.vfm_plain.specs.BlockRules.{is_block_due}
use Rattle.vfm_plain.specs.DryRules.{is_dry_due}
use Rattle.vfm_plain.specs.BeginRules.{is_before_move, may_begin_move}
use Rattle.vfm_plain.specs.JointRules.{is_before_joint}
use Rattle.vfm_order.specs.LookAfter.{is_over}
use Rattle.vfm_order.specs.Coordinator.{MayMake}
use Rattle.vfm_order.proofs.Ways.{same_self}

-- tests that all hold
two_hold : (a b : Bool) (first second : Rule) → a ≡ true → b ≡ true → first_failed ((a, first) ∷ (b, second) ∷ []) ≡ None
two_hold a b first second x y = rw (x, y) refl

three_hold : (a b c : Bool) (first second third : Rule) → a ≡ true → b ≡ true → c ≡ true
    → first_failed ((a, first) ∷ (b, second) ∷ (c, third) ∷ []) ≡ None
three_hold a b c first second third x y z = rw (x, y, z) refl

four_hold : (a b c d : Bool) (first second third fourth : Rule) → a ≡ true → b ≡ true → c ≡ true → d ≡ true
    → first_failed ((a, first) ∷ (b, second) ∷ (c, third) ∷ (d, fourth) ∷ []) ≡ None
four_hold a b c d first second third fourth x y z w = rw (x, y, z, w) refl

-- a move that is on
pub record IsGoing (D : Desc) (past : List Entry) : Type 0 where
  pub begun : is_begun past ≡ true
  pub open_ : is_over past ≡ false
  pub unfailed : is_failed past ≡ false

on_from : (b a r f : Bool) → b ≡ true → (a || r) ≡ false → f ≡ false → (b && not a && not r && not f) ≡ true
on_from true false false false x y z = refl
on_from true false false true x y z = absurd (cc)
on_from true false true f x y z = absurd (cc)
on_from true true r f x y z = absurd (cc)
on_from false a r f x y z = absurd (cc)

pub going_on : (D : Desc) (past : List Entry) → IsGoing D past → is_on past ≡ true
going_on D past going = on_from (is_begun past) (is_aborted past) (is_resumed past) (is_failed past) going.begun going.open_ going.unfailed

still_from : (a r : Bool) → (a || r) ≡ false → (not a && not r) ≡ true
still_from false false y = refl
still_from false true y = absurd (cc)
still_from true r y = absurd (cc)

inside : (D : Desc) (d : ℕ) → d < device_count D → nat_lt d (device_count D) ≡ true
inside D d below = lt-ltb d (device_count D) below

pub abort_made : (D : Desc) (past : List Entry) → is_over past ≡ false → MayMake D past Abort
abort_made D past open_ = (refl, rw (still_from (is_aborted past) (is_resumed past) open_) refl)

pub begin_made : (D : Desc) (past : List Entry) → is_begun past ≡ false → is_over past ≡ false → may_begin_move D past ≡ true → MayMake D past Begin
begin_made D past unbegun open_ warm =
    (refl, two_hold (is_before_move past) (may_begin_move D past) Order Start (before (is_begun past) (is_aborted past) (is_resumed past) unbegun open_) warm)
  where
    before : (b a r : Bool) → b ≡ false → (a || r) ≡ false → (not b && not a && not r) ≡ true
    before false false false x y = refl
    before false false true x y = absurd (cc)
    before false true r x y = absurd (cc)
    before true a r x y = absurd (cc)

pub hold_made : (D : Desc) (past : List Entry) (d : ℕ) (to : MigState) → d < device_count D → IsGoing D past → is_joint past ≡ false
    → is_decided D past ≡ true → is_none (hold_of d past) ≡ true → is_stopped (state_of d past) ≡ false
    → to ≡ next_towards (state_of d past) StopCopy (shape_at D d).flags → is_quiet_for_hold D to past ≡ true → MayMake D past (Hold d to)
hold_made D past d to below going before decided free awake next quiet = (
  inside D d below,
  four_hold (may_be_held d past) (is_decided D past) (is_next_to_stop_copy D d to past) (is_quiet_for_hold D to past) Order Decide Path Quiet
      (and_from (is_on past && not (is_joint past)) (is_none (hold_of d past))
      (and_from (is_on past) (not (is_joint past)) (going_on D past going) (ap not before)) free)
      decided
      (and_from (not (is_stopped (state_of d past))) (same_state to (next_towards (state_of d past) StopCopy (shape_at D d).flags)) (ap not awake)
      (ap (λ (s : MigState). same_state s (next_towards (state_of d past) StopCopy (shape_at D d).flags)) next
      ∙ same_self (next_towards (state_of d past) StopCopy (shape_at D d).flags)))
      quiet,
)

-- arcs while the move is on
moving : (D : Desc) (past : List Entry) → IsGoing D past → is_joint past ≡ false → may_take_arcs past ≡ true
moving D past going before =
    or_left ((is_on past && not (is_joint past)) || is_aborted past) (is_resumed past)
    (or_left (is_on past && not (is_joint past)) (is_aborted past) (and_from (is_on past) (not (is_joint past)) (going_on D past going) (ap not before)))

pub arc_made : (D : Desc) (past : List Entry) (d : ℕ) (to : MigState) → d < device_count D → IsGoing D past → is_joint past ≡ false
    → is_way_open D d to past ≡ true → (arc_count d past + 1 == (shape_at D d).fails) ≡ false → is_quiet_for_arc D d to past ≡ true
    → MayMake D past (Arc d to)
arc_made D past d to below going before open_ works quiet = (
  inside D d below,
  three_hold (may_take_arcs past) (is_right_arc D d to past) (is_quiet_for_arc D d to past) Order Path Quiet (moving D past going before)
      (ap
      (λ (b : Bool). if b then is_arc_home D d to past else is_way_open D d to past && not (arc_count d past + 1 == (shape_at D d).fails)) going.open_
      ∙ and_from (is_way_open D d to past) (not (arc_count d past + 1 == (shape_at D d).fails)) open_ (ap not works))
      quiet,
)

pub fail_made : (D : Desc) (past : List Entry) (d : ℕ) (to : MigState) → d < device_count D → IsGoing D past → is_joint past ≡ false
    → is_way_open D d to past ≡ true → (arc_count d past + 1 == (shape_at D d).fails) ≡ true → is_quiet_for_arc D d to past ≡ true
    → MayMake D past (Fail d to)
fail_made D past d to below going before open_ fails quiet =
    let same : arc_count d past + 1 ≡ (shape_at D d).fails = eqb-true (arc_count d past + 1) (shape_at D d).fails fails in
    let some : nat_lt 0 (shape_at D d).fails ≡ true = lt-ltb 0 (shape_at D d).fails (omega arith) in (
      inside D d below,
      three_hold (may_take_arcs past) (is_right_fail D d to past) (is_quiet_for_arc D d to past) Order Path Quiet (moving D past going before)
          (and_from (not (is_aborted past) && not (is_resumed past) && is_way_open D d to past && nat_lt 0 (shape_at D d).fails)
          (arc_count d past + 1 == (shape_at D d).fails)
          (and_from (not (is_aborted past) && not (is_resumed past) && is_way_open D d to past) (nat_lt 0 (shape_at D d).fails)
          (and_from (not (is_aborted past) && not (is_resumed past)) (is_way_open D d to past) (still_from (is_aborted past) (is_resumed past) going.open_) open_) some)
          fails)
          quiet,
    )

-- an arc home
pub home_made : (D : Desc) (past : List Entry) (d : ℕ) (to : MigState) → d < device_count D → is_over past ≡ true
    → same_state (state_of d past) Running ≡ false → to ≡ next_towards (state_of d past) Running (shape_at D d).flags
    → is_quiet_for_arc D d to past ≡ true → MayMake D past (Arc d to)
home_made D past d to below over away next quiet = (
  inside D d below,
  three_hold (may_take_arcs past) (is_right_arc D d to past) (is_quiet_for_arc D d to past) Order Path Quiet
      (over_moves (is_on past && not (is_joint past)) (is_aborted past) (is_resumed past) over)
      (ap
      (λ (b : Bool). if b then is_arc_home D d to past else is_way_open D d to past && not (arc_count d past + 1 == (shape_at D d).fails)) over
      ∙ and_from (not (same_state (state_of d past) Running)) (same_state to (next_towards (state_of d past) Running (shape_at D d).flags)) (ap not away)
      (ap (λ (s : MigState). same_state s (next_towards (state_of d past) Running (shape_at D d).flags)) next
      ∙ same_self (next_towards (state_of d past) Running (shape_at D d).flags)))
      quiet,
)
  where
    over_moves : (o a r : Bool) → (a || r) ≡ true → (o || a || r) ≡ true
    over_moves true a r x = refl
    over_moves false a r x = x

pub report_made : (D : Desc) (past : List Entry) (d : ℕ) → d < device_count D → IsGoing D past → nat_lt 0 (pass_count past) ≡ true
    → is_no_pass_open D past ≡ true → has_reported d past ≡ false
    → (if is_joint past then not (is_last_begun past) else not (is_decided D past)) ≡ true → MayMake D past (Report d)
report_made D past d below going some ended silent wanted = (
  inside D d below,
  two_hold (is_on past) (may_report_log D d past) Order Pages (going_on D past going)
      (and_from (nat_lt 0 (pass_count past) && is_no_pass_open D past && not (has_reported d past))
      (if is_joint past then not (is_last_begun past) else not (is_decided D past))
      (and_from (nat_lt 0 (pass_count past) && is_no_pass_open D past) (not (has_reported d past))
      (and_from (nat_lt 0 (pass_count past)) (is_no_pass_open D past) some ended) (ap not silent)) wanted),
)

pub pass_made : (D : Desc) (past : List Entry) (k : ℕ) → IsGoing D past → k ≡ pass_count past + 1 → is_no_pass_open D past ≡ true
    → (nat_le k 1 || all_below (device_count D) (λ d. has_reported d past)) ≡ true → is_pass_wanted D k past ≡ true → MayMake D past (Pass k)
pass_made D past k going next ended reported wanted = (
  refl,
  three_hold (is_on past) (is_next_pass D k past) (is_pass_wanted D k past) Order Pages Decide (going_on D past going)
      (and_from (k == pass_count past + 1 && is_no_pass_open D past) (nat_le k 1 || all_below (device_count D) (λ d. has_reported d past))
      (and_from (k == pass_count past + 1) (is_no_pass_open D past) (eq-eqb k (pass_count past + 1) next) ended) reported)
      wanted,
)

exactly : (n : ℕ) (o : Option ℕ) → o ≡ Some n → is_exactly n o ≡ true
exactly n o same = ap (is_exactly n) same ∙ eq-eqb n n refl

pub copy_made : (D : Desc) (past : List Entry) (p : ℕ) → p < D.pages → IsGoing D past → next_copy D past ≡ Some p → MayMake D past (Copy p)
copy_made D past p below going due = (
  lt-ltb p D.pages below,
  two_hold (is_on past) (is_copy_due D p past) Order Pages (going_on D past going) (exactly p (next_copy D past) due),
)

part_due : (D : Desc) (past : List Entry) (d : ℕ) → next_copy D past ≡ None → next_part D past ≡ Some d
    → (is_none (next_copy D past) && is_exactly d (next_part D past)) ≡ true
part_due D past d copied part =
    and_from (is_none (next_copy D past)) (is_exactly d (next_part D past)) (ap (λ (o : Option ℕ). is_none o) copied) (exactly d (next_part D past) part)

pub block_made : (D : Desc) (past : List Entry) (d b : ℕ) → d < device_count D → b < block_count (shape_at D d) → IsGoing D past
    → next_copy D past ≡ None → next_part D past ≡ Some d → next_block D d past ≡ Some b → MayMake D past (Block d b)
block_made D past d b below low going copied part block = (
  and_from (nat_lt d (device_count D)) (nat_lt b (block_count (shape_at D d))) (inside D d below) (lt-ltb b (block_count (shape_at D d)) low),
  two_hold (is_on past) (is_block_due D d b past) Order Blocks (going_on D past going)
      (and_from (is_none (next_copy D past) && is_exactly d (next_part D past)) (is_exactly b (next_block D d past)) (part_due D past d copied part)
      (exactly b (next_block D d past) block)),
)

pub dry_made : (D : Desc) (past : List Entry) (d : ℕ) → d < device_count D → IsGoing D past → next_copy D past ≡ None → next_part D past ≡ Some d
    → next_block D d past ≡ None → MayMake D past (Dry d)
dry_made D past d below going copied part block = (
  inside D d below,
  two_hold (is_on past) (is_dry_due D d past) Order Blocks (going_on D past going)
      (and_from (is_none (next_copy D past) && is_exactly d (next_part D past)) (is_none (next_block D d past)) (part_due D past d copied part)
      (ap (λ (o : Option ℕ). is_none o) block)),
)

pub joint_made : (D : Desc) (past : List Entry) → IsGoing D past → is_joint past ≡ false → all_stand_in D StopCopy past ≡ true → MayMake D past Joint
joint_made D past going before all = (
  refl,
  two_hold (is_before_joint past) (all_stand_in D StopCopy past) Order Standing
      (and_from (is_on past) (not (is_joint past)) (going_on D past going) (ap not before)) all,
)
