-- What the order wants after a legal list is right: line by line.
use Rattle.std.proofs.Common.{◌≡◌, ℕ, ◌+◌, ◌<◌, ◌==◌, ◌&&◌, ◌||◌, not, Bool, true, false, nat_lt, nat_le, if◌then◌else◌, List, Option, Some, None, unwrap_or, IsTrue, refl, ap, sym, ◌∙◌, subst, ltb-true}
use Rattle.std.proofs.lemmas.Bool.{and_from, and_left, and_parts, or_from, not-true, false≢true, true≢false, cond-true}
use Rattle.vfm_types.specs.declared.desc.Desc.{Desc}
use Rattle.vfm_types.specs.declared.look.DevLook.{DevLook}
use Rattle.vfm_types.specs.declared.entry.Entry.{Entry}
use Rattle.vfm_types.specs.declared.entry.Entry.TheVariants.{Arc, Begin, Abort}
use Rattle.vfm_types.specs.declared.state.MigState.{MigState}
use Rattle.vfm_types.specs.declared.state.MigState.TheVariants.{Running, StopCopy}
use Rattle.vfm_types.specs.Desc.{device_count, shape_at}
use Rattle.vfm_types.specs.Paths.{same_state, next_towards}
use Rattle.vfm_types.specs.Phases.{is_begun, is_joint, is_aborted, is_resumed, is_failed, is_on, is_last_begun, pass_count}
use Rattle.vfm_types.specs.Arcs.{state_of, hold_of, arc_count}
use Rattle.vfm_types.specs.Blocks.{is_no_pass_open}
use Rattle.vfm_types.specs.Words.{all_stand_in, is_way_open}
use Rattle.vfm_types.specs.Valid.{IsValid}
use Rattle.vfm_base.specs.Least.{all_below, least_below}
use Rattle.vfm_plain.specs.ArcRules.{is_arc_home, is_quiet_for_arc, may_take_arcs}
use Rattle.vfm_plain.specs.Looks.{is_ready, next_arc}
use Rattle.vfm_plain.specs.Legal.{IsLegal}
use Rattle.vfm_laws.proofs.Rising.{by_bool}
use Rattle.vfm_laws.proofs.Steps.{same_is}
use Rattle.vfm_laws.proofs.Conditions.{fail_met}
use Rattle.vfm_quiet.specs.declared.want.Want.{Want}
use Rattle.vfm_quiet.specs.declared.want.Want.TheVariants.{Do, Wait, Done}
use Rattle.vfm_quiet.specs.Seen.{seen, sees_ready, sees_all_in, sees_warm, next_seen, may_go_home}
use Rattle.vfm_quiet.specs.Order.{do_for, way_home, beginning}
use Rattle.vfm_order.specs.LookAfter.{is_over, look_after}
use Rattle.vfm_order.specs.Coordinator.{is_coordinators, MayMake, is_abort_due, is_done, IsStuck}
use Rattle.vfm_order.proofs.Numbers.{IsLeast, least_is, least_fails}
use Rattle.vfm_order.proofs.Seeing.{seen_after, ready_after, all_in_after, home_after, warm_after}
use Rattle.vfm_order.proofs.Meets.{home_made, begin_made}
use Rattle.vfm_order.proofs.Barred.{Barred, all_barred, off_barred, begin_met, arc_rules}

-- the entry is Abort
abbrev pub is_abort : Entry → Bool
is_abort Abort = true
is_abort entry = false

-- A want that fits a list: its entry may be made, is the coordinator's, and is Abort exactly where that is due; or nothing
-- can be done; or all is done.
abbrev pub Fits : Desc → List Entry → ℕ → Want → Type 0
Fits D past n (Do entry) = MayMake D past entry × IsTrue (is_coordinators entry) × (is_abort entry ≡ is_abort_due D past n)
Fits D past n Wait = IsStuck D past n
Fits D past n Done = (is_done D past ≡ true) × (is_abort_due D past n ≡ false)

pub for_fits : (D : Desc) (past : List Entry) (n : ℕ) (entry : ℕ → Entry) (o : Option ℕ) (other : Want)
    → ((d : ℕ) → o ≡ Some d → Fits D past n (Do (entry d))) → (o ≡ None → Fits D past n other) → Fits D past n (do_for entry o other)
for_fits D past n entry None other some none = none refl
for_fits D past n entry (Some d) other some none = some d refl

-- a move that was given up or taken over isn't on
over_off : (b a r f : Bool) → (a || r) ≡ true → (b && not a && not r && not f) ≡ false
over_off true true r f x = refl
over_off true false true f x = refl
over_off true false false f x = absurd (false≢true x)
over_off false a r f x = refl

-- nor is one that hasn't begun
pub unbegun_off : (b a r f : Bool) → b ≡ false → (b && not a && not r && not f) ≡ false
unbegun_off true a r f x = absurd (true≢false x)
unbegun_off false a r f x = refl

module _ (D : Desc) (past : List Entry) (n : ℕ) (valid : IsValid D) (legal : IsLegal D past) where
  -- home
  pub home_arc : (d : ℕ) → is_over past ≡ true → next_arc D d past ≡ next_towards (state_of d past) Running (shape_at D d).flags
  home_arc d over =
      ap (λ (b : Bool).
      if b then next_towards (state_of d past) Running (shape_at D d).flags
      else unwrap_or (hold_of d past) (next_towards (state_of d past) StopCopy (shape_at D d).flags)) over

  -- before anything is given up, the next arc is the one that a device is held for
  pub out_arc : (d : ℕ) → is_over past ≡ false
      → next_arc D d past ≡ unwrap_or (hold_of d past) (next_towards (state_of d past) StopCopy (shape_at D d).flags)
  out_arc d open_ =
      ap (λ (b : Bool).
      if b then next_towards (state_of d past) Running (shape_at D d).flags
      else unwrap_or (hold_of d past) (next_towards (state_of d past) StopCopy (shape_at D d).flags)) open_

  over_not_due : is_over past ≡ true → is_abort_due D past n ≡ false
  over_not_due over =
      and_left (not (is_over past)) (is_failed past || (nat_lt 0 n && nat_le n (pass_count past) && is_no_pass_open D past)) (ap not over)

  home_fits : (d : ℕ) → is_over past ≡ true → IsLeast (device_count D) (λ k. may_go_home (look_after D past) k) d
      → Fits D past n (Do (Arc d (next_seen D (look_after D past) d Running)))
  home_fits d over least =
      let look = look_after D past in
      let parts = and_parts (not (same_state (seen look d).state Running)) (sees_ready look d) least.passes in
      let away : same_state (state_of d past) Running ≡ false =
      ap (λ (v : DevLook). same_state v.state Running) (sym (seen_after D past d valid least.inside)) ∙ not-true (same_state (seen look d).state Running) parts.0 in
      let next = home_after D past d valid legal least.inside in
      let ready : is_ready D d past ≡ true = sym (ready_after D past d valid least.inside) ∙ parts.1 in (
        home_made D past d (next_seen D look d Running) least.inside over away next
            (subst (λ (s : MigState). is_quiet_for_arc D d s past ≡ true) (home_arc d over ∙ sym next) ready),
        refl,
        sym (over_not_due over),
      )

  -- an arc home that may be made is seen
  home_seen : (d : ℕ) (to : MigState) → is_over past ≡ true → MayMake D past (Arc d to) → may_go_home (look_after D past) d ≡ true
  home_seen d to over made =
      let look = look_after D past in
      let inside : d < device_count D = ltb-true d (device_count D) made.0 in
      let rules = arc_rules D past d to made in
      let right : is_arc_home D d to past ≡ true =
      sym (cond-true (is_over past) (is_arc_home D d to past) (is_way_open D d to past && not (arc_count d past + 1 == (shape_at D d).fails)) over) ∙ rules.1 in
      let parts = and_parts (not (same_state (state_of d past) Running)) (same_state to (next_towards (state_of d past) Running (shape_at D d).flags)) right in
      let next : to ≡ next_arc D d past = same_is to (next_towards (state_of d past) Running (shape_at D d).flags) parts.1 ∙ sym (home_arc d over) in
      and_from (not (same_state (seen look d).state Running)) (sees_ready look d)
      (ap (λ (v : DevLook). not (same_state v.state Running)) (seen_after D past d valid inside) ∙ parts.0)
      (ready_after D past d valid inside ∙ subst (λ (s : MigState). is_quiet_for_arc D d s past ≡ true) next rules.2)

  home_barred : is_over past ≡ true → least_below (device_count D) (λ k. may_go_home (look_after D past) k) ≡ None → Barred D past
  home_barred over none =
      off_barred D past (over_off (is_begun past) (is_aborted past) (is_resumed past) (is_failed past) over)
      (λ d to made.
      true≢false
      (sym (home_seen d to over made)
      ∙ least_fails (device_count D) (λ k. may_go_home (look_after D past) k) d none (ltb-true d (device_count D) made.0)))
      (λ d to made. let rules = fail_met D past d to made.1 in true≢false (sym over ∙ or_from (is_aborted past) (is_resumed past) rules.1 rules.2))
      (λ made. let rules = begin_met D past made in true≢false (sym over ∙ or_from (is_aborted past) (is_resumed past) rules.1 rules.2))

  home_done : (b : Bool) → is_over past ≡ true → all_stand_in D Running past ≡ b → is_done D past ≡ b
  home_done b over all = ap
      (λ (o : Bool).
      if o then all_stand_in D Running past else is_on past && is_joint past && is_last_begun past && is_no_pass_open D past) over ∙ all

  -- the first line: home
  pub way_home_fits : is_over past ≡ true → Fits D past n (way_home D (look_after D past))
  way_home_fits over =
      let look = look_after D past in
      for_fits D past n (λ d. Arc d (next_seen D look d Running)) (least_below (device_count D) (λ k. may_go_home look k))
      (if sees_all_in look Running then Done else Wait)
      (λ d found. home_fits d over (least_is (device_count D) (λ k. may_go_home look k) d found))
      (λ none.
      by_bool (sees_all_in look Running) (λ b. sees_all_in look Running ≡ b → Fits D past n (if b then Done else Wait))
      (λ all e. (home_done true over (sym (all_in_after D past Running valid) ∙ e), over_not_due over))
      (λ some e.
      record {
        barred = all_barred D past (home_barred over none);
        no_abort = over_not_due over;
        undone = home_done false over (sym (all_in_after D past Running valid) ∙ e);
      })
      refl)

  -- before the move begins
  pub beginning_fits : is_over past ≡ false → is_abort_due D past n ≡ false → is_begun past ≡ false → Fits D past n (beginning D (look_after D past))
  beginning_fits open_ due unbegun =
      let look = look_after D past in
      let off = unbegun_off (is_begun past) (is_aborted past) (is_resumed past) (is_failed past) unbegun in
      let no_arcs : may_take_arcs past ≡ true → ⊥ = λ moves. no_moves (is_on past) (is_joint past) (is_aborted past) (is_resumed past) off open_ moves in
      by_bool (all_below (device_count D) (λ d. sees_warm D look d))
      (λ b. all_below (device_count D) (λ d. sees_warm D look d) ≡ b → Fits D past n (if b then Do Begin else Wait))
      (λ warm e. (begin_made D past unbegun open_ (sym (warm_after D past valid) ∙ e), refl, sym due))
      (λ cold e.
      record {
        barred =
            all_barred D past
            (off_barred D past off (λ d to made. no_arcs (arc_rules D past d to made).0) (λ d to made. no_arcs (fail_met D past d to made.1).0)
            (λ made. true≢false (sym (begin_met D past made).3 ∙ sym (warm_after D past valid) ∙ e)));
        no_abort = due;
        undone =
            ap
            (λ (o : Bool). if o then all_stand_in D Running past else is_on past && is_joint past && is_last_begun past && is_no_pass_open D past) open_
            ∙ ap (λ (o : Bool). o && is_joint past && is_last_begun past && is_no_pass_open D past) off;
      })
      refl
    where
      no_moves : (o j a r : Bool) → o ≡ false → (a || r) ≡ false → ((o && not j) || a || r) ≡ true → ⊥
      no_moves true j a r x y z = true≢false x
      no_moves false j true r x y z = true≢false y
      no_moves false j false true x y z = true≢false y
      no_moves false j false false x y z = false≢true z
