-- From an entry that breaks no rule to each of its conditions, by name.
use Rattle.std.proofs.Common.{◌≡◌, ℕ, ◌+◌, ◌==◌, true, false, not, ◌&&◌, ◌||◌, if◌then◌else◌, List, [], ◌∷◌, nat_lt, nat_le, Some, None, is_none, eqb-true}
use Rattle.std.proofs.lemmas.Bool.{and_parts, not-true}
use Rattle.vfm_types.specs.declared.entry.Entry.{Entry}
use Rattle.vfm_types.specs.declared.entry.Entry.TheVariants.{Report, Pass, Copy, Block, Dry, Begin, Joint, Hold}
use Rattle.vfm_types.specs.declared.entry.Rule.TheVariants.{Start, Pages, Blocks, Decide, Order, Path, Quiet, Joint as Standing}
use Rattle.vfm_types.specs.declared.state.MigState.{MigState}
use Rattle.vfm_types.specs.declared.state.MigState.TheVariants.{Stop, StopCopy}
use Rattle.vfm_types.specs.declared.desc.Desc.{Desc}
use Rattle.vfm_types.specs.Desc.{device_count}
use Rattle.vfm_types.specs.Paths.{same_state}
use Rattle.vfm_base.specs.Least.{all_below}
use Rattle.vfm_types.specs.Arcs.{state_of, hold_of, is_stopped}
use Rattle.vfm_types.specs.Phases.{is_on, is_begun, is_aborted, is_resumed, is_failed, is_joint, is_last_begun, pass_count}
use Rattle.vfm_types.specs.Marks.{has_reported, next_copy}
use Rattle.vfm_types.specs.Blocks.{next_block, next_part, is_no_pass_open}
use Rattle.vfm_types.specs.Words.{is_decided, is_next_towards, is_quiet}
use Rattle.vfm_plain.specs.Rules.{fault_of}
use Rattle.vfm_plain.specs.ReportRules.{may_report_log}
use Rattle.vfm_plain.specs.PassRules.{is_next_pass, is_pass_wanted}
use Rattle.vfm_plain.specs.BlockRules.{is_part_due, is_block_due}
use Rattle.vfm_plain.specs.DryRules.{is_dry_due}
use Rattle.vfm_plain.specs.CopyRules.{is_copy_due}
use Rattle.vfm_plain.specs.BeginRules.{may_begin_move}
use Rattle.vfm_plain.specs.JointRules.{is_all_in_stop_copy}
use Rattle.vfm_plain.specs.Condition.{is_exactly}
use Rattle.vfm_laws.proofs.Conditions.{met}
use Rattle.vfm_copying.proofs.Tests.{exactly}

-- a move that is on has begun, and was neither given up nor taken over
pub record IsOn (past : List Entry) : Type 0 where
  pub begun : is_begun past ≡ true
  pub aborted : is_aborted past ≡ false
  pub resumed : is_resumed past ≡ false

pub on_parts : (past : List Entry) → is_on past ≡ true → IsOn past
on_parts past on_ =
    let three = (and_parts (is_begun past && not (is_aborted past) && not (is_resumed past)) (not (is_failed past)) on_).0 in
    let two = and_parts (is_begun past && not (is_aborted past)) (not (is_resumed past)) three in
    let one = and_parts (is_begun past) (not (is_aborted past)) two.0 in
    record { begun = one.0; aborted = not-true (is_aborted past) one.1; resumed = not-true (is_resumed past) two.1 }

pub record PassMet (D : Desc) (k : ℕ) (past : List Entry) : Type 0 where
  pub moving : IsOn past
  pub number : k ≡ pass_count past + 1
  pub ended : is_no_pass_open D past ≡ true
  pub reported : (nat_le k 1 || all_below (device_count D) (λ d. has_reported d past)) ≡ true
  pub wanted : is_pass_wanted D k past ≡ true

pub pass_parts : (D : Desc) (past : List Entry) (k : ℕ) → fault_of D past (Pass k) ≡ None → PassMet D k past
pass_parts D past k unbroken =
    let order = met (is_on past) Order ((is_next_pass D k past, Pages) ∷ (is_pass_wanted D k past, Decide) ∷ []) unbroken in
    let next = met (is_next_pass D k past) Pages ((is_pass_wanted D k past, Decide) ∷ []) order.1 in
    let wanted = met (is_pass_wanted D k past) Decide [] next.1 in
    let reported = nat_le k 1 || all_below (device_count D) (λ d. has_reported d past) in
    let all = and_parts (k == pass_count past + 1 && is_no_pass_open D past) reported next.0 in
    let two = and_parts (k == pass_count past + 1) (is_no_pass_open D past) all.0 in
    record {
      moving = on_parts past order.0;
      number = eqb-true k (pass_count past + 1) two.0;
      ended = two.1;
      reported = all.1;
      wanted = wanted.0;
    }

pub record ReportMet (D : Desc) (d : ℕ) (past : List Entry) : Type 0 where
  pub moving : IsOn past
  pub ended : is_no_pass_open D past ≡ true
  pub fresh : has_reported d past ≡ false
  pub wanted : (if is_joint past then not (is_last_begun past) else not (is_decided D past)) ≡ true

pub report_parts : (D : Desc) (past : List Entry) (d : ℕ) → fault_of D past (Report d) ≡ None → ReportMet D d past
report_parts D past d unbroken =
    let order = met (is_on past) Order ((may_report_log D d past, Pages) ∷ []) unbroken in
    let may = met (may_report_log D d past) Pages [] order.1 in
    let wanted = if is_joint past then not (is_last_begun past) else not (is_decided D past) in
    let all = and_parts (nat_lt 0 (pass_count past) && is_no_pass_open D past && not (has_reported d past)) wanted may.0 in
    let three = and_parts (nat_lt 0 (pass_count past) && is_no_pass_open D past) (not (has_reported d past)) all.0 in
    let two = and_parts (nat_lt 0 (pass_count past)) (is_no_pass_open D past) three.0 in
    record { moving = on_parts past order.0; ended = two.1; fresh = not-true (has_reported d past) three.1; wanted = all.1 }

pub record CopyMet (D : Desc) (p : ℕ) (past : List Entry) : Type 0 where
  pub moving : IsOn past
  pub next : next_copy D past ≡ Some p

pub copy_parts : (D : Desc) (past : List Entry) (p : ℕ) → fault_of D past (Copy p) ≡ None → CopyMet D p past
copy_parts D past p unbroken =
    let order = met (is_on past) Order ((is_copy_due D p past, Pages) ∷ []) unbroken in
    let due = met (is_copy_due D p past) Pages [] order.1 in
    record { moving = on_parts past order.0; next = exactly p (next_copy D past) due.0 }

pub record BlockMet (D : Desc) (d b : ℕ) (past : List Entry) : Type 0 where
  pub moving : IsOn past
  pub copied : is_none (next_copy D past) ≡ true
  pub part : next_part D past ≡ Some d
  pub next : next_block D d past ≡ Some b

pub block_parts : (D : Desc) (past : List Entry) (d b : ℕ) → fault_of D past (Block d b) ≡ None → BlockMet D d b past
block_parts D past d b unbroken =
    let order = met (is_on past) Order ((is_block_due D d b past, Blocks) ∷ []) unbroken in
    let due = met (is_block_due D d b past) Blocks [] order.1 in
    let all = and_parts (is_part_due D d past) (is_exactly b (next_block D d past)) due.0 in
    let part = and_parts (is_none (next_copy D past)) (is_exactly d (next_part D past)) all.0 in
    record {
      moving = on_parts past order.0;
      copied = part.0;
      part = exactly d (next_part D past) part.1;
      next = exactly b (next_block D d past) all.1;
    }

pub record DryMet (D : Desc) (d : ℕ) (past : List Entry) : Type 0 where
  pub moving : IsOn past
  pub copied : is_none (next_copy D past) ≡ true
  pub part : next_part D past ≡ Some d
  pub next : is_none (next_block D d past) ≡ true

pub dry_parts : (D : Desc) (past : List Entry) (d : ℕ) → fault_of D past (Dry d) ≡ None → DryMet D d past
dry_parts D past d unbroken =
    let order = met (is_on past) Order ((is_dry_due D d past, Blocks) ∷ []) unbroken in
    let due = met (is_dry_due D d past) Blocks [] order.1 in
    let all = and_parts (is_part_due D d past) (is_none (next_block D d past)) due.0 in
    let part = and_parts (is_none (next_copy D past)) (is_exactly d (next_part D past)) all.0 in
    record {
      moving = on_parts past order.0;
      copied = part.0;
      part = exactly d (next_part D past) part.1;
      next = all.1;
    }

-- a move begins once
pub begin_new : (D : Desc) (past : List Entry) → fault_of D past Begin ≡ None → is_begun past ≡ false
begin_new D past unbroken =
    let order = met (not (is_begun past) && not (is_aborted past) && not (is_resumed past)) Order ((may_begin_move D past, Start) ∷ []) unbroken in
    let two = (and_parts (not (is_begun past) && not (is_aborted past)) (not (is_resumed past)) order.0).0 in
    not-true (is_begun past) (and_parts (not (is_begun past)) (not (is_aborted past)) two).0

-- a device is held only once it is decided that it stops
pub hold_decided : (D : Desc) (past : List Entry) (d : ℕ) (to : MigState) → fault_of D past (Hold d to) ≡ None → is_decided D past ≡ true
hold_decided D past d to unbroken =
    let path = not (is_stopped (state_of d past)) && is_next_towards D d StopCopy to past in
    let still = not (same_state to Stop || same_state to StopCopy) || is_quiet D past in
    let order = met (is_on past && not (is_joint past) && is_none (hold_of d past)) Order ((is_decided D past, Decide) ∷ (path, Path) ∷ (still, Quiet) ∷ []) unbroken in
    (met (is_decided D past) Decide ((path, Path) ∷ (still, Quiet) ∷ []) order.1).0

-- the machine is found standing once, while the move is on
pub joint_parts : (D : Desc) (past : List Entry) → fault_of D past Joint ≡ None → IsOn past × (is_joint past ≡ false)
joint_parts D past unbroken =
    let order = met (is_on past && not (is_joint past)) Order ((is_all_in_stop_copy D past, Standing) ∷ []) unbroken in
    let parts = and_parts (is_on past) (not (is_joint past)) order.0 in
    (on_parts past parts.0, not-true (is_joint past) parts.1)
