-- The first broken rule over the parts is that over the list, kind by kind.
use Rattle.std.proofs.Common.{◌≡◌, ℕ, ◌+◌, ◌<◌, ◌==◌, Bool, true, false, not, ◌&&◌, ◌||◌, if◌then◌else◌, is_none, nat_le, nat_lt, List, [], ◌∷◌, Option, IsTrue, refl, ap, ap₂, ◌∙◌, ltb-true}
use Rattle.std.proofs.lemmas.Bool.{and_parts}
use Rattle.vfm_types.specs.declared.desc.Desc.{Desc}
use Rattle.vfm_types.specs.declared.entry.Entry.{Entry}
use Rattle.vfm_types.specs.declared.entry.Entry.TheVariants.{Issue, Deliver, Complete, Hold, Arc, Fail, Report, Pass, Copy, Block, Dry, Begin, Joint, Abort, Resume}
use Rattle.vfm_types.specs.declared.entry.Rule.{Rule}
use Rattle.vfm_types.specs.declared.entry.Rule.TheVariants.{Turn, Barred, Start, Path, Quiet, Decide, Order, Pages, Blocks, Joint as Standing}
use Rattle.vfm_types.specs.declared.state.MigState.{MigState}
use Rattle.vfm_types.specs.declared.state.MigState.TheVariants.{Running, Stop, StopCopy, PreCopy}
use Rattle.vfm_base.specs.Tests.{first_failed}
use Rattle.vfm_base.specs.Least.{all_below}
use Rattle.vfm_types.specs.State.{has_pre_copy}
use Rattle.vfm_types.specs.Paths.{same_state}
use Rattle.vfm_types.specs.Desc.{device_count, shape_at, block_count}
use Rattle.vfm_types.specs.Phases.{is_begun, is_joint, is_aborted, is_resumed, is_on, pass_count, is_last_begun}
use Rattle.vfm_types.specs.Arcs.{state_of, arc_count, is_p2p, is_stopped}
use Rattle.vfm_types.specs.Marks.{has_reported}
use Rattle.vfm_types.specs.Blocks.{is_unread, is_dirty, next_block, is_no_pass_open}
use Rattle.vfm_types.specs.Outstanding.{issue_count}
use Rattle.vfm_types.specs.Words.{is_quiet, none_stopped, is_decided, is_held_for, is_nothing, has_barred}
use Rattle.vfm_plain.specs.Condition.{is_exactly}
use Rattle.vfm_plain.specs.Legal.{is_entry_of}
use Rattle.vfm_plain.specs.Rules.{fault_of}
use Rattle.vfm_plain.specs.IssueRules.{is_next_to_issue, is_request_allowed}
use Rattle.vfm_plain.specs.HoldRules.{may_be_held, is_next_to_stop_copy, is_quiet_for_hold}
use Rattle.vfm_plain.specs.ArcRules.{may_take_arcs, is_quiet_for_arc, is_entering_p2p, is_stopping, is_leaving_p2p, is_arc_home}
use Rattle.vfm_plain.specs.BeginRules.{may_begin_move, is_before_move}
use Rattle.vfm_plain.specs.BlockRules.{is_block_due}
use Rattle.vfm_plain.specs.DryRules.{is_dry_due}
use Rattle.vfm_parts.specs.Parts.{Dev, Lead, Parts}
use Rattle.vfm_parts.specs.PartsOf.{lead_of, dev_of, Tells}
use Rattle.vfm_parts.specs.PartWords.{is_quiet_in, none_stopped_in, is_idle_in, is_decided_in, has_reported_in, is_way_open_in, is_next_towards_in}
use Rattle.vfm_parts.specs.IssueStep.{issue_conditions_in}
use Rattle.vfm_parts.specs.DeliverStep.{deliver_conditions_in}
use Rattle.vfm_parts.specs.CompleteStep.{complete_conditions_in}
use Rattle.vfm_parts.specs.BeginStep.{may_begin_move_in}
use Rattle.vfm_parts.specs.ArcStep.{is_quiet_for_arc_in, is_right_arc_in}
use Rattle.vfm_parts.specs.FailStep.{is_right_fail_in}
use Rattle.vfm_parts.specs.BlockStep.{block_conditions_in, next_block_in, is_block_due_in}
use Rattle.vfm_parts.specs.DryStep.{dry_conditions_in, is_dry_due_in}
use Rattle.vfm_parts.specs.JointStep.{is_all_in_stop_copy_in}
use Rattle.vfm_parts.specs.Steps.{conditions_on, fault_in}
use Rattle.vfm_parts.proofs.Listed.{all_below_same}
use Rattle.vfm_parts.proofs.Sets.{least_is}
use Rattle.vfm_parts.proofs.Allowed.{on_live}
use Rattle.vfm_parts.proofs.Words.{freely, copy_is, part_is, closed_is, reported_is, decided_is, held_is}

-- ---- words over several devices

module _ (D : Desc) (past : List Entry) (parts : Parts) (tells : Tells D past parts) where
  quiet_is : is_quiet_in D parts.dev ≡ is_quiet D past
  quiet_is =
      ap (λ (all : Bool). device_count D == 1 || all)
      (all_below_same (device_count D) _ _ (λ d h. ap (λ (dev : Dev). is_p2p dev.state || is_stopped dev.state) (tells.dev d h)))

  none_stopped_is : none_stopped_in D parts.dev ≡ none_stopped D past
  none_stopped_is = all_below_same (device_count D) _ _ (λ d h. ap (λ (dev : Dev). not (is_stopped dev.state)) (tells.dev d h))

  begin_is : may_begin_move_in D parts.dev ≡ may_begin_move D past
  begin_is =
      all_below_same (device_count D) _ _ (λ d h. ap (λ (dev : Dev). nat_le D.begin dev.completes || is_idle_in dev) (tells.dev d h))

  stand_is : is_all_in_stop_copy_in D parts.dev ≡ all_below (device_count D) (λ d. same_state (state_of d past) StopCopy)
  stand_is = all_below_same (device_count D) _ _ (λ d h. ap (λ (dev : Dev). same_state dev.state StopCopy) (tells.dev d h))

  pre_copied_is : all_below (device_count D) (λ d. not (has_pre_copy (shape_at D d).flags) || same_state (parts.dev d).state PreCopy)
      ≡ all_below (device_count D) (λ d. not (has_pre_copy (shape_at D d).flags) || same_state (state_of d past) PreCopy)
  pre_copied_is =
      all_below_same (device_count D) _ _ (λ d h. ap (λ (dev : Dev). not (has_pre_copy (shape_at D d).flags) || same_state dev.state PreCopy) (tells.dev d h))

  all_reported_is : all_below (device_count D) (λ d. has_reported_in (lead_of D past) d) ≡ all_below (device_count D) (λ d. has_reported d past)
  all_reported_is = all_below_same (device_count D) _ _ (reported_is D past)

  pub quiet_for_arc_is : (d : ℕ) (to : MigState) → d < device_count D → is_quiet_for_arc_in D d to parts.dev ≡ is_quiet_for_arc D d to past
  quiet_for_arc_is d to h =
      ap (λ (dev : Dev). (not (is_entering_p2p dev.state to) || not (has_barred D d dev.requests))
      && (not (is_stopping dev.state to) || (is_nothing dev.requests && is_quiet_in D parts.dev))
      && (not (is_leaving_p2p dev.state to) || none_stopped_in D parts.dev)) (tells.dev d h)
      ∙ rw (quiet_is, none_stopped_is) refl

-- ---- words over a device and the coordinator

way_is : (D : Desc) (past : List Entry) (d : ℕ) (to : MigState) → is_way_open_in D d to (lead_of D past) (dev_of D d past)
    ≡ ((same_state (state_of d past) Running && same_state to PreCopy && has_pre_copy (shape_at D d).flags && nat_lt 0 D.rounds && pass_count past == 0)
    || is_held_for d to past || (same_state (state_of d past) Stop && same_state to StopCopy && is_decided D past))
way_is D past d to =
    ap₂ (λ (held decided : Bool). (same_state (state_of d past) Running && same_state to PreCopy && has_pre_copy (shape_at D d).flags && nat_lt 0 D.rounds && pass_count past == 0)
    || held || (same_state (state_of d past) Stop && same_state to StopCopy && decided)) (held_is d to past) (decided_is D past)

-- blocks are the same until Resume, and no condition asks for them afterwards
pub blocks_are : (D : Desc) (past : List Entry) (d : ℕ) → is_resumed past ≡ false → next_block_in (dev_of D d past) ≡ next_block D d past
blocks_are D past d live =
    let blocks = block_count (shape_at D d) in
    rw (live, least_is blocks (λ b. is_unread d b past), least_is blocks (λ b. is_dirty D d b past)) refl

-- a second test that is the same where the first holds
second_same : (first one other : Bool) (rule next : Rule) → (first ≡ true → one ≡ other)
    → first_failed ((first, rule) ∷ (one, next) ∷ []) ≡ first_failed ((first, rule) ∷ (other, next) ∷ [])
second_same true one other rule next same = ap (λ (b : Bool). first_failed ((true, rule) ∷ (b, next) ∷ [])) (same refl)
second_same false one other rule next same = refl

-- ---- the kinds

-- the coordinator's part exchanged for the facts
lead_told : (D : Desc) (past : List Entry) (parts : Parts) → Tells D past parts → (entry : Entry)
    → fault_in D parts entry ≡ first_failed (conditions_on D (lead_of D past) parts.dev entry)
lead_told D past parts tells entry = ap (λ (lead : Lead). first_failed (conditions_on D lead parts.dev entry)) tells.lead

pub fault_told : (D : Desc) (past : List Entry) (parts : Parts) → Tells D past parts → (entry : Entry) → IsTrue (is_entry_of D entry)
    → fault_in D parts entry ≡ fault_of D past entry
fault_told D past parts tells (Issue d n) inside =
    ap (λ (dev : Dev). first_failed (issue_conditions_in D d n dev)) (tells.dev d (ltb-true d (device_count D) inside))
    ∙ ap (λ (free : Bool). first_failed ((is_next_to_issue D d n past, Turn) ∷ (is_request_allowed D d n past, Barred)
    ∷ (free || nat_lt (issue_count d past) D.begin, Start) ∷ [])) (freely (is_begun past) (is_aborted past) (is_resumed past))
fault_told D past parts tells (Deliver d n) inside =
    ap (λ (dev : Dev). first_failed (deliver_conditions_in n dev)) (tells.dev d (ltb-true d (device_count D) inside))
fault_told D past parts tells (Complete d n) inside =
    ap (λ (dev : Dev). first_failed (complete_conditions_in n dev)) (tells.dev d (ltb-true d (device_count D) inside))
fault_told D past parts tells (Hold d to) inside =
    lead_told D past parts tells (Hold d to)
    ∙ ap₂ (λ (dev : Dev) (quiet : Bool). first_failed ((is_on past && not (is_joint past) && is_none dev.hold, Order)
    ∷ (is_decided_in D (lead_of D past), Decide) ∷ (not (is_stopped dev.state) && is_next_towards_in D d StopCopy to dev, Path)
    ∷ (not (same_state to Stop || same_state to StopCopy) || quiet, Quiet) ∷ []))
    (tells.dev d (ltb-true d (device_count D) inside)) (quiet_is D past parts tells)
    ∙ ap (λ (decided : Bool). first_failed ((may_be_held d past, Order) ∷ (decided, Decide) ∷ (is_next_to_stop_copy D d to past, Path)
    ∷ (is_quiet_for_hold D to past, Quiet) ∷ [])) (decided_is D past)
fault_told D past parts tells (Arc d to) inside =
    lead_told D past parts tells (Arc d to)
    ∙ ap₂ (λ (dev : Dev) (quiet : Bool). first_failed ((may_take_arcs past, Order) ∷ (is_right_arc_in D d to (lead_of D past) dev, Path)
    ∷ (quiet, Quiet) ∷ [])) (tells.dev d (ltb-true d (device_count D) inside))
    (quiet_for_arc_is D past parts tells d to (ltb-true d (device_count D) inside))
    ∙ ap (λ (way : Bool). first_failed ((may_take_arcs past, Order)
    ∷ (if is_aborted past || is_resumed past then is_arc_home D d to past else way && not (arc_count d past + 1 == (shape_at D d).fails), Path)
    ∷ (is_quiet_for_arc D d to past, Quiet) ∷ [])) (way_is D past d to)
fault_told D past parts tells (Fail d to) inside =
    lead_told D past parts tells (Fail d to)
    ∙ ap₂ (λ (dev : Dev) (quiet : Bool). first_failed ((may_take_arcs past, Order) ∷ (is_right_fail_in D d to (lead_of D past) dev, Path)
    ∷ (quiet, Quiet) ∷ [])) (tells.dev d (ltb-true d (device_count D) inside))
    (quiet_for_arc_is D past parts tells d to (ltb-true d (device_count D) inside))
    ∙ ap (λ (way : Bool). first_failed ((may_take_arcs past, Order)
    ∷ (not (is_aborted past) && not (is_resumed past) && way && nat_lt 0 (shape_at D d).fails && arc_count d past + 1 == (shape_at D d).fails, Path)
    ∷ (is_quiet_for_arc D d to past, Quiet) ∷ [])) (way_is D past d to)
fault_told D past parts tells (Report d) inside =
    let h = ltb-true d (device_count D) inside in
    lead_told D past parts tells (Report d)
    ∙ ap₂ (λ (closed has : Bool). first_failed ((is_on past, Order)
    ∷ (
      nat_lt 0 (pass_count past) && closed && not has
          && (if is_joint past then not (is_last_begun past) else not (is_decided_in D (lead_of D past))),
      Pages,
    ) ∷ []))
    (closed_is D past) (reported_is D past d h)
    ∙ ap (λ (decided : Bool). first_failed ((is_on past, Order)
    ∷ (
      nat_lt 0 (pass_count past) && is_no_pass_open D past && not (has_reported d past)
          && (if is_joint past then not (is_last_begun past) else not decided),
      Pages,
    ) ∷ [])) (decided_is D past)
fault_told D past parts tells (Pass k) inside =
    lead_told D past parts tells (Pass k)
    ∙ ap₂ (λ (closed ready : Bool). first_failed ((is_on past, Order)
    ∷ (k == pass_count past + 1 && closed && (nat_le k 1 || all_below (device_count D) (λ d. has_reported_in (lead_of D past) d)), Pages)
    ∷ (if is_joint past then not (is_last_begun past) else not (is_decided_in D (lead_of D past)) && (not (k == 1) || ready), Decide) ∷ []))
    (closed_is D past) (pre_copied_is D past parts tells)
    ∙ ap₂ (λ (all decided : Bool). first_failed ((is_on past, Order)
    ∷ (k == pass_count past + 1 && is_no_pass_open D past && (nat_le k 1 || all), Pages)
    ∷ (
      if is_joint past then not (is_last_begun past) else not decided
          && (not (k == 1) || all_below (device_count D) (λ d. not (has_pre_copy (shape_at D d).flags) || same_state (state_of d past) PreCopy)),
      Decide,
    ) ∷ []))
    (all_reported_is D past parts tells) (decided_is D past)
fault_told D past parts tells (Copy p) inside =
    lead_told D past parts tells (Copy p)
    ∙ ap (λ (next : Option ℕ). first_failed ((is_on past, Order) ∷ (is_exactly p next, Pages) ∷ [])) (copy_is D past)
fault_told D past parts tells (Block d b) inside =
    let h = ltb-true d (device_count D) (and_parts (nat_lt d (device_count D)) (nat_lt b (block_count (shape_at D d))) inside).0 in
    lead_told D past parts tells (Block d b)
    ∙ ap (λ (dev : Dev). first_failed (block_conditions_in D d b (lead_of D past) dev)) (tells.dev d h)
    ∙ second_same (is_on past) (is_block_due_in D d b (lead_of D past) (dev_of D d past)) (is_block_due D d b past) Order Blocks
    (λ on_. rw (copy_is D past, part_is D past, blocks_are D past d (on_live past on_)) refl)
fault_told D past parts tells (Dry d) inside =
    lead_told D past parts tells (Dry d)
    ∙ ap (λ (dev : Dev). first_failed (dry_conditions_in D d (lead_of D past) dev)) (tells.dev d (ltb-true d (device_count D) inside))
    ∙ second_same (is_on past) (is_dry_due_in D d (lead_of D past) (dev_of D d past)) (is_dry_due D d past) Order Blocks
    (λ on_. rw (copy_is D past, part_is D past, blocks_are D past d (on_live past on_)) refl)
fault_told D past parts tells Begin inside =
    lead_told D past parts tells Begin
    ∙ ap (λ (b : Bool). first_failed ((is_before_move past, Order) ∷ (b, Start) ∷ [])) (begin_is D past parts tells)
fault_told D past parts tells Joint inside =
    lead_told D past parts tells Joint
    ∙ ap (λ (b : Bool). first_failed ((is_on past && not (is_joint past), Order) ∷ (b, Standing) ∷ [])) (stand_is D past parts tells)
fault_told D past parts tells Abort inside = lead_told D past parts tells Abort
fault_told D past parts tells Resume inside =
    lead_told D past parts tells Resume
    ∙ ap (λ (closed : Bool). first_failed ((is_on past, Order) ∷ (is_joint past && is_last_begun past && closed, Standing) ∷ [])) (closed_is D past)
