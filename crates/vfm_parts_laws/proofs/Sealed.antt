-- Sealed parts that agree in what is still asked allow the same entries, and stay so.
use Rattle.std.proofs.Math.Bool.{and-false}
use Rattle.std.proofs.Common.{◌≡◌, ℕ, ◌<◌, ◌==◌, ◌&&◌, ◌||◌, not, Bool, true, false, nat_lt, is_none, if◌then◌else◌, List, [], ◌∷◌, Option, Some, None, refl, ap, ap₂, sym, ◌∙◌, ltb-true}
use Rattle.std.proofs.lemmas.Bool.{cond-true, and_parts, false≢true, true≢false}
use Rattle.vfm_types.specs.declared.desc.Desc.{Desc}
use Rattle.vfm_types.specs.declared.state.MigState.{MigState}
use Rattle.vfm_types.specs.declared.state.MigState.TheVariants.{PreCopy}
use Rattle.vfm_types.specs.declared.entry.Entry.{Entry}
use Rattle.vfm_types.specs.declared.entry.Entry.TheVariants.{Issue, Deliver, Complete, Hold, Arc, Fail, Report, Pass, Copy, Block, Dry, Begin, Joint, Abort, Resume}
use Rattle.vfm_types.specs.declared.entry.Rule.{Rule}
use Rattle.vfm_types.specs.declared.entry.Rule.TheVariants.{Turn, Barred, Start, Path, Quiet, Decide, Order, Pages, Blocks, Joint as Standing}
use Rattle.vfm_base.specs.Tests.{first_failed}
use Rattle.vfm_base.specs.Least.{all_below}
use Rattle.vfm_types.specs.State.{has_pre_copy}
use Rattle.vfm_types.specs.Paths.{same_state}
use Rattle.vfm_types.specs.Desc.{device_count, shape_at}
use Rattle.vfm_types.specs.Arcs.{is_p2p, is_stopped}
use Rattle.vfm_types.specs.Words.{has_barred, is_nothing}
use Rattle.vfm_plain.specs.Condition.{Condition, is_exactly}
use Rattle.vfm_plain.specs.Legal.{is_entry_of}
use Rattle.vfm_plain.specs.ArcRules.{is_entering_p2p, is_stopping, is_leaving_p2p}
use Rattle.vfm_parts.specs.Parts.{Dev, Lead, Parts}
use Rattle.vfm_parts.specs.PartWords.{is_on_in, next_copy_in, next_part_in, is_no_pass_open_in, is_quiet_in, none_stopped_in, has_reported_in, is_decided_in}
use Rattle.vfm_parts.specs.IssueStep.{is_next_to_issue_in, is_request_allowed_in}
use Rattle.vfm_parts.specs.DeliverStep.{deliver_conditions_in}
use Rattle.vfm_parts.specs.CompleteStep.{complete_conditions_in}
use Rattle.vfm_parts.specs.HoldStep.{is_next_to_stop_copy_in, is_quiet_for_hold_in}
use Rattle.vfm_parts.specs.ArcStep.{is_arc_home_in, is_right_arc_in, is_quiet_for_arc_in}
use Rattle.vfm_parts.specs.FailStep.{is_right_fail_in}
use Rattle.vfm_parts.specs.PassStep.{is_next_pass_in}
use Rattle.vfm_parts.specs.BlockStep.{next_block_in}
use Rattle.vfm_parts.specs.BeginStep.{may_begin_move_in}
use Rattle.vfm_parts.specs.JointStep.{is_all_in_stop_copy_in}
use Rattle.vfm_parts.specs.Steps.{fault_in}
use Rattle.vfm_parts.proofs.Listed.{all_below_same}
use Rattle.vfm_parts_laws.specs.StagedParts.{IsSealed, AgreesInRest, is_pass}

-- ---- what a sealed machine answers

-- the first test, and a second one that matters only where the first holds
behind : (first one other : Bool) (rule next : Rule) (rest : List Condition) → (first ≡ true → one ≡ other)
    → first_failed ((first, rule) ∷ (one, next) ∷ rest) ≡ first_failed ((first, rule) ∷ (other, next) ∷ rest)
behind true one other rule next rest same = ap (λ (b : Bool). first_failed ((true, rule) ∷ (b, next) ∷ rest)) (same refl)
behind false one other rule next rest same = refl

not_over : (a r x y z : Bool) → (a || r) ≡ true → (not a && not r && x && y && z) ≡ false
not_over true true x y z done = refl
not_over true false x y z done = refl
not_over false true x y z done = refl
not_over false false x y z done = absurd (false≢true done)

three_fail : (a b : Bool) → is_none (first_failed ((a, Order) ∷ (b, Pages) ∷ (false, Decide) ∷ [])) ≡ false
three_fail true true = refl
three_fail true false = refl
three_fail false b = refl

module _ (D : Desc) (parts : Parts) (sealed : IsSealed D parts) where
  abbrev lead : Lead
  lead = parts.lead

  no_copy : is_none (next_copy_in lead) ≡ true
  no_copy = (and_parts (is_none (next_copy_in lead)) (is_none (next_part_in D lead)) sealed.closed).0

  no_part : is_none (next_part_in D lead) ≡ true
  no_part = (and_parts (is_none (next_copy_in lead)) (is_none (next_part_in D lead)) sealed.closed).1

  not_exactly : (n : ℕ) (x : Option ℕ) → is_none x ≡ true → is_exactly n x ≡ false
  not_exactly n None none = refl
  not_exactly n (Some k) none = absurd (false≢true none)

  issue_sealed : (d n : ℕ) → d < device_count D → fault_in D parts (Issue d n)
      ≡ first_failed ((is_next_to_issue_in D d n (parts.dev d), Turn) ∷ (is_request_allowed_in D d n (parts.dev d), Barred) ∷ [])
  issue_sealed d n inside =
      ap (λ (free : Bool). first_failed ((is_next_to_issue_in D d n (parts.dev d), Turn) ∷ (is_request_allowed_in D d n (parts.dev d), Barred)
      ∷ (free || nat_lt (parts.dev d).issues D.begin, Start) ∷ [])) (sealed.free d inside)

  past_joint : (is_on_in lead && not lead.joint) ≡ false
  past_joint = ap (λ (j : Bool). is_on_in lead && not j) sealed.joint ∙ and-false (is_on_in lead)

  pub hold_sealed : (d : ℕ) (to : MigState) → fault_in D parts (Hold d to) ≡ Some Order
  hold_sealed d to =
      ap (λ (b : Bool). first_failed ((b && is_none (parts.dev d).hold, Order) ∷ (is_decided_in D lead, Decide) ∷ (is_next_to_stop_copy_in D d to (parts.dev d), Path)
      ∷ (is_quiet_for_hold_in D to parts.dev, Quiet) ∷ [])) past_joint

  only_over : (is_on_in lead && not lead.joint || lead.aborted || lead.resumed) ≡ (lead.aborted || lead.resumed)
  only_over = ap (λ (b : Bool). b || lead.aborted || lead.resumed) past_joint

  arc_sealed : (d : ℕ) (to : MigState) → fault_in D parts (Arc d to)
      ≡ first_failed ((lead.aborted || lead.resumed, Order) ∷ (is_arc_home_in D d to (parts.dev d), Path) ∷ (is_quiet_for_arc_in D d to parts.dev, Quiet) ∷ [])
  arc_sealed d to =
      ap (λ (b : Bool). first_failed ((b, Order) ∷ (is_right_arc_in D d to lead (parts.dev d), Path) ∷ (is_quiet_for_arc_in D d to parts.dev, Quiet) ∷ [])) only_over
      ∙ behind (lead.aborted || lead.resumed) (is_right_arc_in D d to lead (parts.dev d)) (is_arc_home_in D d to (parts.dev d)) Order Path
      ((is_quiet_for_arc_in D d to parts.dev, Quiet) ∷ []) (λ done. cond-true _ _ _ done)

  pub fail_sealed : (d : ℕ) (to : MigState) → fault_in D parts (Fail d to) ≡ first_failed ((lead.aborted || lead.resumed, Order) ∷ (false, Path) ∷ [])
  fail_sealed d to =
      ap (λ (b : Bool). first_failed ((b, Order) ∷ (is_right_fail_in D d to lead (parts.dev d), Path) ∷ (is_quiet_for_arc_in D d to parts.dev, Quiet) ∷ [])) only_over
      ∙ behind (lead.aborted || lead.resumed) (is_right_fail_in D d to lead (parts.dev d)) false Order Path
      ((is_quiet_for_arc_in D d to parts.dev, Quiet) ∷ []) (λ done. not_over lead.aborted lead.resumed _ _ _ done)

  no_more : (b : Bool) → (b && (if lead.joint then not lead.last else not (is_decided_in D lead))) ≡ false
  no_more b = ap₂ (λ (j l : Bool). b && (if j then not l else not (is_decided_in D lead))) sealed.joint sealed.last ∙ and-false b

  pub report_sealed : (d : ℕ) → fault_in D parts (Report d) ≡ first_failed ((is_on_in lead, Order) ∷ (false, Pages) ∷ [])
  report_sealed d =
      ap (λ (b : Bool). first_failed ((is_on_in lead, Order) ∷ (b, Pages) ∷ []))
      (no_more (nat_lt 0 lead.passes && is_no_pass_open_in D lead && not (has_reported_in lead d)))

  pub pass_sealed : (k : ℕ) → is_none (fault_in D parts (Pass k)) ≡ false
  pass_sealed k =
      ap₂ (λ (j l : Bool). is_none (first_failed ((is_on_in lead, Order) ∷ (is_next_pass_in D k lead, Pages)
      ∷ (
        if j then not l else not (is_decided_in D lead)
            && (not (k == 1) || all_below (device_count D) (λ d. not (has_pre_copy (shape_at D d).flags) || same_state (parts.dev d).state PreCopy)),
        Decide,
      ) ∷ [])))
      sealed.joint sealed.last
      ∙ three_fail (is_on_in lead) (is_next_pass_in D k lead)

  pub copy_sealed : (p : ℕ) → fault_in D parts (Copy p) ≡ first_failed ((is_on_in lead, Order) ∷ (false, Pages) ∷ [])
  copy_sealed p =
      ap (λ (b : Bool). first_failed ((is_on_in lead, Order) ∷ (b, Pages) ∷ [])) (not_exactly p (next_copy_in lead) no_copy)

  not_due : (d : ℕ) (b : Bool) → (is_none (next_copy_in lead) && is_exactly d (next_part_in D lead) && b) ≡ false
  not_due d b =
      ap (λ (x : Bool). is_none (next_copy_in lead) && x && b) (not_exactly d (next_part_in D lead) no_part)
      ∙ ap (λ (x : Bool). x && b) (and-false (is_none (next_copy_in lead)))

  pub block_sealed : (d b : ℕ) → fault_in D parts (Block d b) ≡ first_failed ((is_on_in lead, Order) ∷ (false, Blocks) ∷ [])
  block_sealed d b =
      ap (λ (due : Bool). first_failed ((is_on_in lead, Order) ∷ (due, Blocks) ∷ [])) (not_due d (is_exactly b (next_block_in (parts.dev d))))

  pub dry_sealed : (d : ℕ) → fault_in D parts (Dry d) ≡ first_failed ((is_on_in lead, Order) ∷ (false, Blocks) ∷ [])
  dry_sealed d =
      ap (λ (due : Bool). first_failed ((is_on_in lead, Order) ∷ (due, Blocks) ∷ [])) (not_due d (is_none (next_block_in (parts.dev d))))

  pub begin_sealed : fault_in D parts Begin ≡ Some Order
  begin_sealed =
      ap (λ (b : Bool). first_failed ((not b && not lead.aborted && not lead.resumed, Order) ∷ (may_begin_move_in D parts.dev, Start) ∷ [])) sealed.begun

  pub joint_sealed : fault_in D parts Joint ≡ Some Order
  joint_sealed =
      ap (λ (b : Bool). first_failed ((b, Order) ∷ (is_all_in_stop_copy_in D parts.dev, Standing) ∷ [])) past_joint

  resume_sealed : fault_in D parts Resume ≡ first_failed ((is_on_in lead, Order) ∷ [])
  resume_sealed =
      ap₂ (λ (j l : Bool). first_failed ((is_on_in lead, Order) ∷ (j && l && is_no_pass_open_in D lead, Standing) ∷ [])) sealed.joint sealed.last
      ∙ ap (λ (b : Bool). first_failed ((is_on_in lead, Order) ∷ (b, Standing) ∷ [])) sealed.closed

-- ---- two sealed machines

module _ (D : Desc) (p q : Parts) (sealed_p : IsSealed D p) (sealed_q : IsSealed D q) (agrees : AgreesInRest p q) where
  on_same : is_on_in p.lead ≡ is_on_in q.lead
  on_same =
      ap₂ (λ (a r : Bool). p.lead.begun && not a && not r && not p.lead.failed) agrees.aborted agrees.resumed
      ∙ ap₂ (λ (b f : Bool). b && not q.lead.aborted && not q.lead.resumed && not f) (sealed_p.begun ∙ sym sealed_q.begun) agrees.failed

  over_same : (p.lead.aborted || p.lead.resumed) ≡ (q.lead.aborted || q.lead.resumed)
  over_same = ap₂ (λ (a r : Bool). a || r) agrees.aborted agrees.resumed

  quiet_same : is_quiet_in D p.dev ≡ is_quiet_in D q.dev
  quiet_same =
      ap (λ (all : Bool). device_count D == 1 || all)
      (all_below_same (device_count D) _ _ (λ d h. ap (λ (dev : Dev). is_p2p dev.state || is_stopped dev.state) (agrees.dev d)))

  none_stopped_same : none_stopped_in D p.dev ≡ none_stopped_in D q.dev
  none_stopped_same = all_below_same (device_count D) _ _ (λ d h. ap (λ (dev : Dev). not (is_stopped dev.state)) (agrees.dev d))

  quiet_arc_same : (d : ℕ) (to : MigState) → is_quiet_for_arc_in D d to p.dev ≡ is_quiet_for_arc_in D d to q.dev
  quiet_arc_same d to =
      ap (λ (dev : Dev). (not (is_entering_p2p dev.state to) || not (has_barred D d dev.requests))
      && (not (is_stopping dev.state to) || (is_nothing dev.requests && is_quiet_in D p.dev))
      && (not (is_leaving_p2p dev.state to) || none_stopped_in D p.dev)) (agrees.dev d)
      ∙ rw (quiet_same, none_stopped_same) refl

  on_and : (rule : Rule) → first_failed ((is_on_in p.lead, Order) ∷ (false, rule) ∷ []) ≡ first_failed ((is_on_in q.lead, Order) ∷ (false, rule) ∷ [])
  on_and rule = ap (λ (b : Bool). first_failed ((b, Order) ∷ (false, rule) ∷ [])) on_same

  pub fault_same : (entry : Entry) → is_entry_of D entry ≡ true → is_pass entry ≡ false → fault_in D p entry ≡ fault_in D q entry
  fault_same (Issue d n) named other =
      let inside = ltb-true d (device_count D) named in
      issue_sealed D p sealed_p d n inside
      ∙ ap (λ (dev : Dev). first_failed ((is_next_to_issue_in D d n dev, Turn) ∷ (is_request_allowed_in D d n dev, Barred) ∷ [])) (agrees.dev d)
      ∙ sym (issue_sealed D q sealed_q d n inside)
  fault_same (Deliver d n) named other = ap (λ (dev : Dev). first_failed (deliver_conditions_in n dev)) (agrees.dev d)
  fault_same (Complete d n) named other = ap (λ (dev : Dev). first_failed (complete_conditions_in n dev)) (agrees.dev d)
  fault_same (Hold d to) named other = hold_sealed D p sealed_p d to ∙ sym (hold_sealed D q sealed_q d to)
  fault_same (Arc d to) named other =
      arc_sealed D p sealed_p d to
      ∙ ap₂ (λ (b c : Bool). first_failed ((b, Order) ∷ (is_arc_home_in D d to (p.dev d), Path) ∷ (c, Quiet) ∷ [])) over_same (quiet_arc_same d to)
      ∙ ap (λ (dev : Dev). first_failed ((q.lead.aborted || q.lead.resumed, Order) ∷ (is_arc_home_in D d to dev, Path) ∷ (is_quiet_for_arc_in D d to q.dev, Quiet) ∷ [])) (agrees.dev d)
      ∙ sym (arc_sealed D q sealed_q d to)
  fault_same (Fail d to) named other =
      fail_sealed D p sealed_p d to ∙ ap (λ (b : Bool). first_failed ((b, Order) ∷ (false, Path) ∷ [])) over_same ∙ sym (fail_sealed D q sealed_q d to)
  fault_same (Report d) named other = report_sealed D p sealed_p d ∙ on_and Pages ∙ sym (report_sealed D q sealed_q d)
  fault_same (Pass k) named other = absurd (true≢false other)
  fault_same (Copy c) named other = copy_sealed D p sealed_p c ∙ on_and Pages ∙ sym (copy_sealed D q sealed_q c)
  fault_same (Block d b) named other = block_sealed D p sealed_p d b ∙ on_and Blocks ∙ sym (block_sealed D q sealed_q d b)
  fault_same (Dry d) named other = dry_sealed D p sealed_p d ∙ on_and Blocks ∙ sym (dry_sealed D q sealed_q d)
  fault_same Begin named other = begin_sealed D p sealed_p ∙ sym (begin_sealed D q sealed_q)
  fault_same Joint named other = joint_sealed D p sealed_p ∙ sym (joint_sealed D q sealed_q)
  fault_same Abort named other =
      ap₂ (λ (a r : Bool). first_failed ((not a && not r, Order) ∷ [])) agrees.aborted agrees.resumed
  fault_same Resume named other =
      resume_sealed D p sealed_p ∙ ap (λ (b : Bool). first_failed ((b, Order) ∷ [])) on_same ∙ sym (resume_sealed D q sealed_q)

  pub allowed_same : (entry : Entry) → is_entry_of D entry ≡ true → is_none (fault_in D p entry) ≡ is_none (fault_in D q entry)
  allowed_same (Pass k) named = pass_sealed D p sealed_p k ∙ sym (pass_sealed D q sealed_q k)
  allowed_same entry named = ap is_none (fault_same entry named refl)
