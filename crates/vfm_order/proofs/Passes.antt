-- What the order wants in a pass and between two passes is right.
use Rattle.std.proofs.Common.{◌≡◌, ℕ, ◌+◌, ◌<◌, ◌==◌, ◌&&◌, ◌||◌, not, Bool, true, false, nat_lt, nat_le, if◌then◌else◌, List, Option, Some, None, is_none, refl, ap, sym, ◌∙◌, subst, arith, ne_eqb, eq-eqb, eqb-true, lt-ltb, ltb-true}
use Rattle.std.proofs.lemmas.Bool.{and_from, and_parts, or_left, or_right, not-true, not-false, false≢true, true≢false, cond-true, cond-false}
use Rattle.std.specs.Option.{option_or}
use Rattle.vfm_types.specs.declared.desc.Desc.{Desc}
use Rattle.vfm_types.specs.declared.look.DevLook.{DevLook}
use Rattle.vfm_types.specs.declared.entry.Entry.{Entry}
use Rattle.vfm_types.specs.declared.entry.Entry.TheVariants.{Arc, Fail, Report, Pass, Copy}
use Rattle.vfm_types.specs.declared.state.MigState.{MigState}
use Rattle.vfm_types.specs.declared.state.MigState.TheVariants.{Running, PreCopy, Stop, StopCopy, Error, Resuming, RunningP2p, PreCopyP2p}
use Rattle.vfm_types.specs.Desc.{device_count, shape_at, block_count}
use Rattle.vfm_types.specs.State.{has_pre_copy}
use Rattle.vfm_types.specs.Paths.{same_state}
use Rattle.vfm_types.specs.Phases.{is_joint, is_last_begun, pass_count}
use Rattle.vfm_types.specs.Arcs.{state_of, arc_count}
use Rattle.vfm_types.specs.Marks.{has_reported, is_in_set, is_copied, next_copy}
use Rattle.vfm_types.specs.Blocks.{has_part, is_dirty, is_unread, next_block, next_part, is_no_pass_open}
use Rattle.vfm_types.specs.Words.{is_decided, is_held_for, is_way_open}
use Rattle.vfm_types.specs.Valid.{IsValid}
use Rattle.vfm_base.specs.Least.{all_below, least_below}
use Rattle.vfm_plain.specs.ArcRules.{is_quiet_for_arc}
use Rattle.vfm_plain.specs.PassRules.{is_pass_wanted}
use Rattle.vfm_plain.specs.Legal.{IsLegal}
use Rattle.vfm_laws.proofs.Rising.{by_bool}
use Rattle.vfm_laws.proofs.Steps.{same_is}
use Rattle.vfm_quiet.proofs.AllDevices.{all_pass}
use Rattle.vfm_quiet.specs.declared.want.Want.TheVariants.{Do}
use Rattle.vfm_quiet.specs.Seen.{seen, sees_reported, arc_or_fail, may_enter_pre_copy}
use Rattle.vfm_quiet.specs.Order.{do_for, part_of_pass, rest_of_pass, first_pass, another_pass, last_pass}
use Rattle.vfm_order.specs.LookAfter.{is_over, block_due, look_after}
use Rattle.vfm_order.specs.Coordinator.{is_abort_due}
use Rattle.vfm_order.proofs.Numbers.{least_is, least_fails}
use Rattle.vfm_order.proofs.OnWay.{is_early, on_way, undecided_early}
use Rattle.vfm_order.proofs.Seeing.{seen_after, reported_after}
use Rattle.vfm_order.proofs.Meets.{IsGoing, arc_made, fail_made, report_made, pass_made, copy_made, block_made, dry_made}
use Rattle.vfm_order.proofs.Fits.{Fits, for_fits}

-- a block that is due is one of the device's
block_inside : (D : Desc) (past : List Entry) (d b : ℕ) → next_block D d past ≡ Some b → b < block_count (shape_at D d)
block_inside D past d b due =
    let count = block_count (shape_at D d) in
    go (least_below count (λ c. is_unread d c past)) (least_below count (λ c. is_dirty D d c past)) refl refl due
  where
    go : (first second : Option ℕ) → least_below (block_count (shape_at D d)) (λ c. is_unread d c past) ≡ first
        → least_below (block_count (shape_at D d)) (λ c. is_dirty D d c past) ≡ second → option_or first second ≡ Some b → b < block_count (shape_at D d)
    go (Some c) second x y e = (least_is (block_count (shape_at D d)) (λ c. is_unread d c past) b (x ∙ e)).inside
    go None second x y e = (least_is (block_count (shape_at D d)) (λ c. is_dirty D d c past) b (y ∙ e)).inside

module _ (D : Desc) (past : List Entry) (n : ℕ) (valid : IsValid D) (legal : IsLegal D past) (going : IsGoing D past) (due : is_abort_due D past n ≡ false) where
  rest_fits : (copy part block : Option ℕ) → next_copy D past ≡ copy → next_part D past ≡ part → block_due D part past ≡ block
      → is_no_pass_open D past ≡ false → Fits D past n (do_for Copy copy (part_of_pass part block))
  rest_fits (Some p) part block is_copy is_part is_block opened =
      (copy_made D past p (least_is D.pages (λ q. is_in_set D q past && not (is_copied q past)) p is_copy).inside going is_copy, refl, sym due)
  rest_fits None None block is_copy is_part is_block opened =
      let ended : is_no_pass_open D past ≡ true =
      and_from (is_none (next_copy D past)) (is_none (next_part D past)) (ap (λ (o : Option ℕ). is_none o) is_copy) (ap (λ (o : Option ℕ). is_none o) is_part) in
      absurd (true≢false (sym ended ∙ opened))
  rest_fits None (Some d) None is_copy is_part is_block opened =
      (dry_made D past d (least_is (device_count D) (λ e. has_part D e past) d is_part).inside going is_copy is_part is_block, refl, sym due)
  rest_fits None (Some d) (Some b) is_copy is_part is_block opened = (
    block_made D past d b (least_is (device_count D) (λ e. has_part D e past) d is_part).inside (block_inside D past d b is_block) going is_copy is_part
        is_block,
    refl,
    sym due,
  )

  -- in a pass
  pub rest_of_pass_fits : is_no_pass_open D past ≡ false → Fits D past n (rest_of_pass (look_after D past))
  rest_of_pass_fits opened =
      let e : is_over past ≡ false = going.open_ in
      subst (λ (b : Bool).
      Fits D past n
      (do_for Copy (if b then None else next_copy D past)
      (part_of_pass (if b then None else next_part D past) (if b then None else block_due D (next_part D past) past)))) (sym e)
      (rest_fits (next_copy D past) (next_part D past) (block_due D (next_part D past) past) refl refl refl opened)

  -- an arc that is open and quiet enough, or its failing
  pub out_fits : (d : ℕ) (to : MigState) → d < device_count D → is_joint past ≡ false → is_way_open D d to past ≡ true
      → is_quiet_for_arc D d to past ≡ true → Fits D past n (Do (arc_or_fail D (look_after D past) d to))
  out_fits d to inside before open_ quiet =
      subst (λ (v : DevLook). Fits D past n (Do (if v.arcs + 1 == (shape_at D d).fails then Fail d to else Arc d to)))
      (sym (seen_after D past d valid inside))
      (by_bool (arc_count d past + 1 == (shape_at D d).fails)
      (λ b. (arc_count d past + 1 == (shape_at D d).fails) ≡ b → Fits D past n (Do (if b then Fail d to else Arc d to)))
      (λ fails e. (fail_made D past d to inside going before open_ e quiet, refl, sym due))
      (λ works e. (arc_made D past d to inside going before open_ e quiet, refl, sym due)) refl)

  -- another pass, after a report of each device
  another_fits : nat_lt 0 (pass_count past) ≡ true → is_no_pass_open D past ≡ true
      → (if is_joint past then not (is_last_begun past) else not (is_decided D past)) ≡ true → Fits D past n (another_pass (look_after D past))
  another_fits some ended wanted =
      let look = look_after D past in
      for_fits D past n Report (least_below (device_count D) (λ d. not (sees_reported look d))) (Do (Pass (pass_count past + 1)))
      (λ d found.
      let least = least_is (device_count D) (λ k. not (sees_reported look k)) d found in (
        report_made D past d least.inside going some ended
            (sym (reported_after D past d valid least.inside) ∙ not-true (sees_reported look d) least.passes) wanted,
        refl,
        sym due,
      ))
      (λ none. (
        pass_made D past (pass_count past + 1) going refl ended
            (or_right (nat_le (pass_count past + 1) 1) (all_below (device_count D) (λ d. has_reported d past))
            (all_pass (device_count D) (λ d. has_reported d past)
            (λ k inside.
            sym (reported_after D past k valid inside)
            ∙ not-false (sees_reported look k) (least_fails (device_count D) (λ j. not (sees_reported look j)) k none inside))))
            (pass_wanted (is_joint past) refl),
        refl,
        sym due,
      ))
    where
      pass_wanted : (b : Bool) → is_joint past ≡ b → is_pass_wanted D (pass_count past + 1) past ≡ true
      pass_wanted true joint =
          let rest = not (is_decided D past) && (not (pass_count past + 1 == 1)
          || all_below (device_count D) (λ d. not (has_pre_copy (shape_at D d).flags) || same_state (state_of d past) PreCopy)) in
          cond-true (is_joint past) (not (is_last_begun past)) rest joint
          ∙ sym (cond-true (is_joint past) (not (is_last_begun past)) (not (is_decided D past)) joint) ∙ wanted
      pass_wanted false before =
          let early = all_below (device_count D) (λ d. not (has_pre_copy (shape_at D d).flags) || same_state (state_of d past) PreCopy) in
          let more : 0 < pass_count past = ltb-true 0 (pass_count past) some in
          let later : (pass_count past + 1 == 1) ≡ false = ne_eqb (pass_count past + 1) 1 (λ e. omega (arith, e)) in
          cond-false (is_joint past) (not (is_last_begun past)) (not (is_decided D past) && (not (pass_count past + 1 == 1) || early)) before
          ∙ and_from (not (is_decided D past)) (not (pass_count past + 1 == 1) || early)
          (sym (cond-false (is_joint past) (not (is_last_begun past)) (not (is_decided D past)) before) ∙ wanted)
          (or_left (not (pass_count past + 1 == 1)) early (ap not later))

  -- before Joint, where it isn't decided that the devices are to stop
  pub another_pass_fits : is_no_pass_open D past ≡ true → is_joint past ≡ false → nat_lt 0 (pass_count past) ≡ true → is_decided D past ≡ false
      → Fits D past n (another_pass (look_after D past))
  another_pass_fits ended before some undecided =
      another_fits some ended (cond-false (is_joint past) (not (is_last_begun past)) (not (is_decided D past)) before ∙ ap not undecided)

  -- after Joint
  pub last_pass_fits : is_no_pass_open D past ≡ true → is_joint past ≡ true → is_last_begun past ≡ false → Fits D past n (last_pass (look_after D past))
  last_pass_fits ended joint unlast =
      let wanted : (if is_joint past then not (is_last_begun past) else not (is_decided D past)) ≡ true =
      cond-true (is_joint past) (not (is_last_begun past)) (not (is_decided D past)) joint ∙ ap not unlast in
      let look = look_after D past in
      by_bool (pass_count past == 0)
      (λ b. (pass_count past == 0) ≡ b → Fits D past n (if b then Do (Pass 1) else another_pass look))
      (λ none e.
      let zero_ : pass_count past ≡ 0 = eqb-true (pass_count past) 0 e in
      let rest = not (is_decided D past) && (not (1 == 1)
      || all_below (device_count D) (λ d. not (has_pre_copy (shape_at D d).flags) || same_state (state_of d past) PreCopy)) in
      (pass_made D past 1 going (omega arith) ended refl (cond-true (is_joint past) (not (is_last_begun past)) rest joint ∙ ap not unlast), refl, sym due))
      (λ some e.
      let more : pass_count past ≡ 0 → ⊥ = λ z. true≢false (sym (eq-eqb (pass_count past) 0 z) ∙ e) in
      another_fits (lt-ltb 0 (pass_count past) (omega arith)) ended wanted)
      refl

  quiet_entering : (d : ℕ) → state_of d past ≡ Running → is_quiet_for_arc D d PreCopy past ≡ true
  quiet_entering d running = rw running refl

  -- the first pass, after the devices that have PRE_COPY entered it
  pub first_pass_fits : is_no_pass_open D past ≡ true → is_joint past ≡ false → nat_lt 0 D.rounds ≡ true → pass_count past ≡ 0
      → Fits D past n (first_pass D (look_after D past))
  first_pass_fits ended before rounds none =
      let look = look_after D past in
      for_fits D past n (λ d. arc_or_fail D look d PreCopy) (least_below (device_count D) (λ d. may_enter_pre_copy D look d)) (Do (Pass 1))
      (λ d found.
      let least = least_is (device_count D) (λ k. may_enter_pre_copy D look k) d found in
      let parts = and_parts (has_pre_copy (shape_at D d).flags) (same_state (seen look d).state Running) least.passes in
      let runs : same_state (state_of d past) Running ≡ true =
      ap (λ (v : DevLook). same_state v.state Running) (sym (seen_after D past d valid least.inside)) ∙ parts.1 in
      out_fits d PreCopy least.inside before (entering d runs parts.0) (quiet_entering d (same_is (state_of d past) Running runs)))
      (λ nobody. (
        pass_made D past 1 going (omega arith) ended refl (wanted (λ d inside. least_fails (device_count D) (λ k. may_enter_pre_copy D look k) d nobody inside)),
        refl,
        sym due,
      ))
    where
      entering : (d : ℕ) → same_state (state_of d past) Running ≡ true → has_pre_copy (shape_at D d).flags ≡ true → is_way_open D d PreCopy past ≡ true
      entering d runs has =
          let from = state_of d past in
          let first = same_state from Running && same_state PreCopy PreCopy && has_pre_copy (shape_at D d).flags && nat_lt 0 D.rounds && pass_count past == 0 in
          let third = same_state from Stop && same_state PreCopy StopCopy && is_decided D past in
          or_left (first || is_held_for d PreCopy past) third
          (or_left first (is_held_for d PreCopy past)
          (and_from (same_state from Running && same_state PreCopy PreCopy && has_pre_copy (shape_at D d).flags && nat_lt 0 D.rounds) (pass_count past == 0)
          (and_from (same_state from Running && same_state PreCopy PreCopy && has_pre_copy (shape_at D d).flags) (nat_lt 0 D.rounds)
          (and_from (same_state from Running && same_state PreCopy PreCopy) (has_pre_copy (shape_at D d).flags)
          (and_from (same_state from Running) (same_state PreCopy PreCopy) runs refl) has) rounds) (eq-eqb (pass_count past) 0 none)))

      early_in : (state : MigState) (has : Bool) → is_early state ≡ true → (has && same_state state Running) ≡ false → (not has || same_state state PreCopy) ≡ true
      early_in Running true early nobody = absurd (true≢false nobody)
      early_in Running false early nobody = refl
      early_in PreCopy true early nobody = refl
      early_in PreCopy false early nobody = refl
      early_in Error has early nobody = absurd (false≢true early)
      early_in Stop has early nobody = absurd (false≢true early)
      early_in StopCopy has early nobody = absurd (false≢true early)
      early_in Resuming has early nobody = absurd (false≢true early)
      early_in RunningP2p has early nobody = absurd (false≢true early)
      early_in PreCopyP2p has early nobody = absurd (false≢true early)

      wanted : ((d : ℕ) → d < device_count D → may_enter_pre_copy D (look_after D past) d ≡ false) → is_pass_wanted D 1 past ≡ true
      wanted nobody =
          let each = all_below (device_count D) (λ d. not (has_pre_copy (shape_at D d).flags) || same_state (state_of d past) PreCopy) in
          cond-false (is_joint past) (not (is_last_begun past)) (not (is_decided D past) && (not (1 == 1) || each)) before
          ∙ and_from (not (is_decided D past)) (not (1 == 1) || each) (ap not (undecided_early D past rounds none))
          (all_pass (device_count D) (λ d. not (has_pre_copy (shape_at D d).flags) || same_state (state_of d past) PreCopy)
          (λ d inside.
          early_in (state_of d past) (has_pre_copy (shape_at D d).flags) ((on_way D valid past legal d inside).2 going.open_ rounds none).1
          (ap (λ (v : DevLook). has_pre_copy (shape_at D d).flags && same_state v.state Running) (sym (seen_after D past d valid inside)) ∙ nobody d inside)))
