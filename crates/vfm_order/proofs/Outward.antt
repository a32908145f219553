-- What the order wants on the way to STOP_COPY is right.
use Rattle.std.proofs.Common.{◌≡◌, ℕ, ◌+◌, ◌<◌, ◌==◌, ◌&&◌, ◌||◌, not, Bool, true, false, nat_lt, if◌then◌else◌, List, [], ◌∷◌, Option, Some, None, is_none, is_some, unwrap_or, refl, ap, sym, ◌∙◌, subst, ltb-true}
use Rattle.std.proofs.lemmas.Bool.{and_from, and_left, and_right, and_parts, or_left, or_right, not-true, false≢true, true≢false, cond-false}
use Rattle.vfm_types.specs.declared.desc.Desc.{Desc}
use Rattle.vfm_types.specs.declared.look.DevLook.{DevLook}
use Rattle.vfm_types.specs.declared.entry.Entry.{Entry}
use Rattle.vfm_types.specs.declared.entry.Entry.TheVariants.{Hold, Joint}
use Rattle.vfm_types.specs.declared.entry.Rule.TheVariants.{Pages, Blocks, Decide, Order, Joint as Standing}
use Rattle.vfm_types.specs.declared.state.MigState.{MigState}
use Rattle.vfm_types.specs.declared.state.MigState.TheVariants.{Stop, Running, StopCopy, PreCopy}
use Rattle.vfm_types.specs.Desc.{device_count, shape_at}
use Rattle.vfm_types.specs.State.{has_pre_copy}
use Rattle.vfm_types.specs.Paths.{same_state, next_towards}
use Rattle.vfm_types.specs.Phases.{is_joint, is_last_begun, is_on, pass_count}
use Rattle.vfm_types.specs.Arcs.{state_of, hold_of, arc_count, is_stopped}
use Rattle.vfm_types.specs.Marks.{has_reported, next_copy}
use Rattle.vfm_types.specs.Blocks.{next_block, next_part, is_no_pass_open}
use Rattle.vfm_types.specs.Words.{all_stand_in, is_decided, is_held_for, is_way_open}
use Rattle.vfm_types.specs.Valid.{IsValid}
use Rattle.vfm_base.specs.Least.{all_below, least_below}
use Rattle.vfm_plain.specs.Condition.{is_exactly}
use Rattle.vfm_plain.specs.ArcRules.{is_arc_home, is_quiet_for_arc}
use Rattle.vfm_plain.specs.HoldRules.{is_quiet_for_hold}
use Rattle.vfm_plain.specs.ReportRules.{may_report_log}
use Rattle.vfm_plain.specs.PassRules.{is_next_pass, is_pass_wanted}
use Rattle.vfm_plain.specs.CopyRules.{is_copy_due}
use Rattle.vfm_plain.specs.BlockRules.{is_block_due}
use Rattle.vfm_plain.specs.DryRules.{is_dry_due}
use Rattle.vfm_plain.specs.JointRules.{is_before_joint}
use Rattle.vfm_plain.specs.ResumeRules.{is_state_copied}
use Rattle.vfm_plain.specs.Looks.{is_ready, next_arc}
use Rattle.vfm_plain.specs.Legal.{IsLegal}
use Rattle.vfm_laws.specs.Standing.{is_hold_step}
use Rattle.vfm_laws.proofs.Rising.{by_bool}
use Rattle.vfm_laws.proofs.Steps.{same_is}
use Rattle.vfm_laws.proofs.Conditions.{met}
use Rattle.vfm_laws.proofs.KeptStates.{keeps_states}
use Rattle.vfm_quiet.specs.declared.want.Want.TheVariants.{Do, Wait}
use Rattle.vfm_quiet.specs.Seen.{seen, sees_ready, sees_all_in, sees_quiet, next_seen, arc_or_fail, may_be_held, may_go_out, way_out_of}
use Rattle.vfm_quiet.specs.Order.{do_for, way_out}
use Rattle.vfm_order.specs.LookAfter.{is_over, look_after}
use Rattle.vfm_order.specs.Coordinator.{MayMake, is_abort_due}
use Rattle.vfm_order.proofs.Numbers.{IsLeast, least_is, least_fails}
use Rattle.vfm_order.proofs.Ways.{same_self}
use Rattle.vfm_order.proofs.OnWay.{Way, entering, held, final, way_of}
use Rattle.vfm_order.proofs.Seeing.{seen_after, ready_after, all_in_after, quiet_after, out_after}
use Rattle.vfm_order.proofs.Meets.{IsGoing, hold_made, joint_made}
use Rattle.vfm_order.proofs.Barred.{Barred, all_barred, hold_rules, arc_rules, fail_rules, begin_met}
use Rattle.vfm_order.proofs.Fits.{Fits, for_fits, out_arc}
use Rattle.vfm_order.proofs.Passes.{out_fits}

-- a device in STOP isn't held
unheld : (to : MigState) → is_hold_step Stop to ≡ true → ⊥
unheld to step = false≢true step

-- none is exactly this number
not_exactly : (k : ℕ) (o : Option ℕ) → is_none o ≡ true → is_exactly k o ≡ false
not_exactly k None none = refl
not_exactly k (Some x) none = absurd (false≢true none)

module _ (D : Desc) (past : List Entry) (n : ℕ) (valid : IsValid D) (legal : IsLegal D past) (going : IsGoing D past) (due : is_abort_due D past n ≡ false) where
  outward_arc : (d : ℕ) → next_arc D d past ≡ unwrap_or (hold_of d past) (next_towards (state_of d past) StopCopy (shape_at D d).flags)
  outward_arc d = out_arc D past n valid legal d going.open_

  held_fits : (d : ℕ) → is_joint past ≡ false → is_decided D past ≡ true → IsLeast (device_count D) (λ k. may_be_held D (look_after D past) k) d
      → Fits D past n (Do (Hold d (next_seen D (look_after D past) d StopCopy)))
  held_fits d before decided least =
      let look = look_after D past in
      let to = next_seen D look d StopCopy in
      let stops = same_state to Stop || same_state to StopCopy in
      let all = and_parts (is_none (seen look d).held && not (is_stopped (seen look d).state)) (not stops || sees_quiet look) least.passes in
      let parts = and_parts (is_none (seen look d).held) (not (is_stopped (seen look d).state)) all.0 in
      let view = sym (seen_after D past d valid least.inside) in (
        hold_made D past d to least.inside going before decided
            (ap (λ (v : DevLook). is_none v.held) view ∙ parts.0)
            (ap (λ (v : DevLook). is_stopped v.state) view ∙ not-true (is_stopped (seen look d).state) parts.1)
            (out_after D past d valid legal least.inside)
            (ap (λ (b : Bool). not stops || b) (sym (quiet_after D past valid)) ∙ all.1),
        refl,
        sym due,
      )

  hold_seen : (d : ℕ) (to : MigState) → MayMake D past (Hold d to) → may_be_held D (look_after D past) d ≡ true
  hold_seen d to made =
      let look = look_after D past in
      let inside : d < device_count D = ltb-true d (device_count D) made.0 in
      let rules = hold_rules D past d to made in
      let view = seen_after D past d valid inside in
      let next : to ≡ next_seen D look d StopCopy =
      same_is to (next_towards (state_of d past) StopCopy (shape_at D d).flags) rules.next ∙ sym (out_after D past d valid legal inside) in
      let shown = next_seen D look d StopCopy in
      and_from (is_none (seen look d).held && not (is_stopped (seen look d).state)) (not (same_state shown Stop || same_state shown StopCopy) || sees_quiet look)
      (and_from (is_none (seen look d).held) (not (is_stopped (seen look d).state))
      (ap (λ (v : DevLook). is_none v.held) view ∙ rules.free) (ap (λ (v : DevLook). not (is_stopped v.state)) view ∙ rules.awake))
      (ap (λ (b : Bool). not (same_state shown Stop || same_state shown StopCopy) || b) (quiet_after D past valid)
      ∙ subst (λ (s : MigState). is_quiet_for_hold D s past ≡ true) next rules.quiet)

  -- the way that is open for a device that is held or in STOP
  out_way : (d : ℕ) (hold : Option MigState) → hold_of d past ≡ hold → is_decided D past ≡ true → (is_some hold || same_state (state_of d past) Stop) ≡ true
      → (is_way_open D d (unwrap_or hold StopCopy) past ≡ true) × (next_arc D d past ≡ unwrap_or hold StopCopy)
  out_way d (Some s) e decided test =
      let first = same_state (state_of d past) Running && same_state s PreCopy && has_pre_copy (shape_at D d).flags && nat_lt 0 D.rounds && pass_count past == 0 in
      let third = same_state (state_of d past) Stop && same_state s StopCopy && is_decided D past in
      let mine : is_held_for d s past ≡ true = rw e (same_self s) in (
        or_left (first || is_held_for d s past) third (or_right first (is_held_for d s past) mine),
        outward_arc d ∙ ap (λ (h : Option MigState). unwrap_or h (next_towards (state_of d past) StopCopy (shape_at D d).flags)) e,
      )
  out_way d None e decided test =
      let stopped : state_of d past ≡ Stop = same_is (state_of d past) Stop test in
      let first = same_state (state_of d past) Running && same_state StopCopy PreCopy && has_pre_copy (shape_at D d).flags && nat_lt 0 D.rounds && pass_count past == 0 in
      let third = same_state (state_of d past) Stop && same_state StopCopy StopCopy && is_decided D past in (
        or_right (first || is_held_for d StopCopy past) third
            (and_from (same_state (state_of d past) Stop && same_state StopCopy StopCopy) (is_decided D past)
            (and_from (same_state (state_of d past) Stop) (same_state StopCopy StopCopy) test refl) decided),
        outward_arc d
            ∙ ap (λ (h : Option MigState). unwrap_or h (next_towards (state_of d past) StopCopy (shape_at D d).flags)) e
            ∙ ap (λ (s : MigState). next_towards s StopCopy (shape_at D d).flags) stopped,
      )

  arc_fits : (d : ℕ) → is_joint past ≡ false → is_decided D past ≡ true → IsLeast (device_count D) (λ k. may_go_out (look_after D past) k) d
      → Fits D past n (Do (arc_or_fail D (look_after D past) d (way_out_of (look_after D past) d)))
  arc_fits d before decided least =
      let look = look_after D past in
      let view = seen_after D past d valid least.inside in
      let parts = and_parts (is_some (seen look d).held || same_state (seen look d).state Stop) (sees_ready look d) least.passes in
      let way = out_way d (hold_of d past) refl decided (ap (λ (v : DevLook). is_some v.held || same_state v.state Stop) (sym view) ∙ parts.0) in
      let to : way_out_of look d ≡ unwrap_or (hold_of d past) StopCopy = ap (λ (v : DevLook). unwrap_or v.held StopCopy) view in
      let ready : is_ready D d past ≡ true = sym (ready_after D past d valid least.inside) ∙ parts.1 in
      subst (λ (s : MigState). Fits D past n (Do (arc_or_fail D look d s))) (sym to)
      (out_fits D past n valid legal going due d (unwrap_or (hold_of d past) StopCopy) least.inside before way.0
      (subst (λ (s : MigState). is_quiet_for_arc D d s past ≡ true) way.1 ready))

  -- an open way is the next arc, of a device that is held or in STOP
  way_next : (d : ℕ) (to : MigState) → d < device_count D → is_decided D past ≡ true → Way D past d to
      → (next_arc D d past ≡ to) × ((is_some (hold_of d past) || same_state (state_of d past) Stop) ≡ true)
  way_next d to inside decided (entering pre has undecided) = absurd (true≢false (sym decided ∙ undecided))
  way_next d to inside decided (held hold) = (
    outward_arc d ∙ ap (λ (h : Option MigState). unwrap_or h (next_towards (state_of d past) StopCopy (shape_at D d).flags)) hold,
    ap (λ (h : Option MigState). is_some h || same_state (state_of d past) Stop) hold,
  )
  way_next d to inside decided (final last stopped d_) =
      (go (hold_of d past) refl, or_right (is_some (hold_of d past)) (same_state (state_of d past) Stop) (ap (λ (s : MigState). same_state s Stop) stopped))
    where
      go : (hold : Option MigState) → hold_of d past ≡ hold → next_arc D d past ≡ to
      go None e =
          outward_arc d
          ∙ ap (λ (h : Option MigState). unwrap_or h (next_towards (state_of d past) StopCopy (shape_at D d).flags)) e
          ∙ ap (λ (s : MigState). next_towards s StopCopy (shape_at D d).flags) stopped ∙ sym last
      go (Some s) e =
          absurd (unheld s (subst (λ (from : MigState). is_hold_step from s ≡ true) stopped (((keeps_states D valid past legal).0 d inside).held s e)))

  out_seen : (d : ℕ) (to : MigState) → d < device_count D → is_decided D past ≡ true → is_way_open D d to past ≡ true → is_quiet_for_arc D d to past ≡ true
      → may_go_out (look_after D past) d ≡ true
  out_seen d to inside decided open_ quiet =
      let look = look_after D past in
      let view = seen_after D past d valid inside in
      let next = way_next d to inside decided (way_of D past d to open_) in
      and_from (is_some (seen look d).held || same_state (seen look d).state Stop) (sees_ready look d)
      (ap (λ (v : DevLook). is_some v.held || same_state v.state Stop) view ∙ next.1)
      (ready_after D past d valid inside ∙ subst (λ (s : MigState). is_quiet_for_arc D d s past ≡ true) (sym next.0) quiet)

  out_barred : is_no_pass_open D past ≡ true → is_joint past ≡ false → is_decided D past ≡ true
      → least_below (device_count D) (λ k. may_be_held D (look_after D past) k) ≡ None
      → least_below (device_count D) (λ k. may_go_out (look_after D past) k) ≡ None → all_stand_in D StopCopy past ≡ false → Barred D past
  out_barred ended before decided no_holds no_arcs some =
      let look = look_after D past in
      let pass = and_parts (is_none (next_copy D past)) (is_none (next_part D past)) ended in
      let out : (d : ℕ) (to : MigState) → d < device_count D → is_way_open D d to past ≡ true → is_quiet_for_arc D d to past ≡ true → ⊥ =
      λ d to inside open_ quiet.
      true≢false (sym (out_seen d to inside decided open_ quiet) ∙ least_fails (device_count D) (λ k. may_go_out look k) d no_arcs inside) in
      let no_part : (d : ℕ) → (is_none (next_copy D past) && is_exactly d (next_part D past)) ≡ false =
      λ d. and_right (is_none (next_copy D past)) (is_exactly d (next_part D past)) (not_exactly d (next_part D past) pass.1) in
      record {
        no_hold = λ d to made.
            true≢false
            (sym (hold_seen d to made) ∙ least_fails (device_count D) (λ k. may_be_held D look k) d no_holds (ltb-true d (device_count D) made.0));
        no_arc = λ d to made.
            let rules = arc_rules D past d to made in
            let right = sym (cond-false (is_over past) (is_arc_home D d to past) (is_way_open D d to past && not (arc_count d past + 1 == (shape_at D d).fails)) going.open_) ∙ rules.1 in
            out d to (ltb-true d (device_count D) made.0) (and_parts (is_way_open D d to past) (not (arc_count d past + 1 == (shape_at D d).fails)) right).0 rules.2;
        no_fail = λ d to made. let rules = fail_rules D past d to made in out d to (ltb-true d (device_count D) made.0) rules.0 rules.1;
        no_report = λ d made.
            let log = met (is_on past) Order ((may_report_log D d past, Pages) ∷ []) made.1 in
            let wanted = (and_parts (nat_lt 0 (pass_count past) && is_no_pass_open D past && not (has_reported d past))
            (if is_joint past then not (is_last_begun past) else not (is_decided D past)) (met (may_report_log D d past) Pages [] log.1).0).1 in
            undecided (sym (cond-false (is_joint past) (not (is_last_begun past)) (not (is_decided D past)) before) ∙ wanted) decided;
        no_pass = λ k made.
            let rest = met (is_on past) Order ((is_next_pass D k past, Pages) ∷ (is_pass_wanted D k past, Decide) ∷ []) made.1 in
            let wants = met (is_next_pass D k past) Pages ((is_pass_wanted D k past, Decide) ∷ []) rest.1 in
            let each = not (k == 1) || all_below (device_count D) (λ d. not (has_pre_copy (shape_at D d).flags) || same_state (state_of d past) PreCopy) in
            undecided
            (and_parts (not (is_decided D past)) each
            (sym (cond-false (is_joint past) (not (is_last_begun past)) (not (is_decided D past) && each) before)
            ∙ (met (is_pass_wanted D k past) Decide [] wants.1).0)).0
            decided;
        no_copy = λ p made.
            true≢false
            (sym (met (is_copy_due D p past) Pages [] (met (is_on past) Order ((is_copy_due D p past, Pages) ∷ []) made.1).1).0
            ∙ not_exactly p (next_copy D past) pass.0);
        no_block = λ d b made.
            let block = (met (is_block_due D d b past) Blocks [] (met (is_on past) Order ((is_block_due D d b past, Blocks) ∷ []) made.1).1).0 in
            true≢false
            (sym (and_parts (is_none (next_copy D past) && is_exactly d (next_part D past)) (is_exactly b (next_block D d past)) block).0 ∙ no_part d);
        no_dry = λ d made.
            let dry = (met (is_dry_due D d past) Blocks [] (met (is_on past) Order ((is_dry_due D d past, Blocks) ∷ []) made.1).1).0 in
            true≢false
            (sym (and_parts (is_none (next_copy D past) && is_exactly d (next_part D past)) (is_none (next_block D d past)) dry).0 ∙ no_part d);
        no_begin = λ made. true≢false (sym going.begun ∙ (begin_met D past made).0);
        no_joint = λ made.
            true≢false
            (sym (met (all_stand_in D StopCopy past) Standing [] (met (is_before_joint past) Order ((all_stand_in D StopCopy past, Standing) ∷ []) made.1).1).0
            ∙ some);
        no_resume = λ made.
            let copied = (met (is_state_copied D past) Standing [] (met (is_on past) Order ((is_state_copied D past, Standing) ∷ []) made.1).1).0 in
            true≢false
            (sym (and_parts (is_joint past) (is_last_begun past) (and_parts (is_joint past && is_last_begun past) (is_no_pass_open D past) copied).0).0
            ∙ before);
      }
    where
      undecided : not (is_decided D past) ≡ true → is_decided D past ≡ true → ⊥
      undecided no_ yes_ = true≢false (sym yes_ ∙ not-true (is_decided D past) no_)

  -- the way to STOP_COPY
  pub way_out_fits : is_no_pass_open D past ≡ true → is_joint past ≡ false → is_decided D past ≡ true → Fits D past n (way_out D (look_after D past))
  way_out_fits ended before decided =
      let look = look_after D past in
      for_fits D past n (λ d. Hold d (next_seen D look d StopCopy)) (least_below (device_count D) (λ d. may_be_held D look d))
      (do_for (λ d. arc_or_fail D look d (way_out_of look d)) (least_below (device_count D) (λ d. may_go_out look d))
      (if sees_all_in look StopCopy then Do Joint else Wait))
      (λ d found. held_fits d before decided (least_is (device_count D) (λ k. may_be_held D look k) d found))
      (λ no_holds.
      for_fits D past n (λ d. arc_or_fail D look d (way_out_of look d)) (least_below (device_count D) (λ d. may_go_out look d))
      (if sees_all_in look StopCopy then Do Joint else Wait)
      (λ d found. arc_fits d before decided (least_is (device_count D) (λ k. may_go_out look k) d found))
      (λ no_arcs.
      by_bool (sees_all_in look StopCopy) (λ b. sees_all_in look StopCopy ≡ b → Fits D past n (if b then Do Joint else Wait))
      (λ all e. (joint_made D past going before (sym (all_in_after D past StopCopy valid) ∙ e), refl, sym due))
      (λ some e.
      record {
        barred = all_barred D past (out_barred ended before decided no_holds no_arcs (sym (all_in_after D past StopCopy valid) ∙ e));
        no_abort = due;
        undone =
            ap (λ (b : Bool). if b then all_stand_in D Running past else is_on past && is_joint past && is_last_begun past && is_no_pass_open D past) going.open_
            ∙ and_left (is_on past && is_joint past && is_last_begun past) (is_no_pass_open D past)
            (and_left (is_on past && is_joint past) (is_last_begun past) (and_right (is_on past) (is_joint past) before));
      })
      refl))
