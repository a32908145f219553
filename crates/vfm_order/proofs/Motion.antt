-- Where the devices are at rest some line has something that can be made.
use Rattle.std.proofs.Common.{◌≡◌, ◌≢◌, ℕ, zero, suc, ◌+◌, ◌<◌, ◌==◌, ◌&&◌, ◌||◌, not, Bool, true, false, nat_lt, nat_le, if◌then◌else◌, List, ◌++◌, Option, Some, None, is_none, is_some, unwrap_or, refl, ap, sym, ◌∙◌, subst, arith, eq-eqb}
use Rattle.std.proofs.lemmas.Bool.{and_from, or_left, or_right, or_parts, not-true, not-false, true≢false, false≢true}
use Rattle.vfm_types.specs.declared.desc.Desc.{Desc}
use Rattle.vfm_types.specs.declared.look.DevLook.{DevLook}
use Rattle.vfm_types.specs.declared.entry.Entry.{Entry}
use Rattle.vfm_types.specs.declared.entry.Entry.TheVariants.{Hold, Arc, Report, Pass, Copy, Block, Dry, Begin, Joint, Abort, Resume}
use Rattle.vfm_types.specs.declared.state.MigState.{MigState}
use Rattle.vfm_types.specs.declared.state.MigState.TheVariants.{Error, Stop, Running, StopCopy, Resuming, RunningP2p, PreCopy, PreCopyP2p}
use Rattle.vfm_types.specs.State.{has_p2p, has_pre_copy}
use Rattle.vfm_types.specs.Desc.{device_count, shape_at}
use Rattle.vfm_types.specs.Outstanding.{Outstanding, complete_count, outstanding_of}
use Rattle.vfm_types.specs.Paths.{same_state, supports, next_towards}
use Rattle.vfm_types.specs.Phases.{is_begun, is_joint, is_failed, is_last_begun, pass_count}
use Rattle.vfm_types.specs.Arcs.{state_of, hold_of, is_p2p, is_stopped}
use Rattle.vfm_types.specs.Marks.{next_copy}
use Rattle.vfm_types.specs.Blocks.{next_part, is_no_pass_open}
use Rattle.vfm_types.specs.Words.{all_stand_in, has_barred, is_idle, is_nothing, is_quiet, none_stopped}
use Rattle.vfm_types.specs.Valid.{IsValid}
use Rattle.vfm_base.specs.Least.{all_below, least_below}
use Rattle.vfm_plain.specs.ArcRules.{is_quiet_for_arc, is_entering_p2p, is_stopping, is_leaving_p2p}
use Rattle.vfm_plain.specs.Looks.{is_ready, next_arc}
use Rattle.vfm_plain.specs.Rules.{fault_of}
use Rattle.vfm_plain.specs.Legal.{IsLegal}
use Rattle.vfm_laws.proofs.Rising.{by_bool}
use Rattle.vfm_laws.proofs.Below.{all_below_at}
use Rattle.vfm_laws.proofs.Flags.{several_p2p}
use Rattle.vfm_laws.proofs.KeptStates.{keeps_states}
use Rattle.vfm_quiet.proofs.AllDevices.{all_pass}
use Rattle.vfm_quiet.specs.declared.want.Want.{Want}
use Rattle.vfm_quiet.specs.declared.want.Want.TheVariants.{Do, Wait, Done}
use Rattle.vfm_quiet.specs.Seen.{seen, sees_ready, sees_all_in, sees_quiet, sees_reported, sees_warm, sees_decided, next_seen, arc_or_fail, may_go_home, may_enter_pre_copy, may_be_held, may_go_out, way_out_of}
use Rattle.vfm_quiet.specs.Order.{do_for, part_of_pass, is_abort_asked, next_want, way_home, beginning, rest_of_pass, first_pass, another_pass, way_out, last_pass}
use Rattle.vfm_order.specs.LookAfter.{is_over, block_due, look_after, staged_look_after}
use Rattle.vfm_order.proofs.Still.{IsAtRest}
use Rattle.vfm_order.proofs.Numbers.{least_fails}
use Rattle.vfm_order.proofs.OnWay.{on_way}
use Rattle.vfm_order.proofs.Seeing.{seen_after, ready_after, all_in_after, quiet_after, warm_after, out_after}
use Rattle.vfm_order.proofs.Fits.{home_arc, out_arc}
use Rattle.vfm_order.proofs.Whole.{line, from_line}
use Rattle.vfm_order.proofs.StagedLooks.{staged_home, staged_held}

-- a number below a bound that fails a test
record Failing (n : ℕ) (test : ℕ → Bool) : Type 0 where
  number : ℕ
  inside : number < n
  fails : test number ≡ false

all_fails : (n : ℕ) (test : ℕ → Bool) → all_below n test ≡ false → Failing n test
all_fails zero test none = absurd (true≢false none)
all_fails (suc n) test some =
    by_bool (test n) (λ b. test n ≡ b → (all_below n test && b) ≡ false → Failing (suc n) test)
    (λ passes e h.
    by_bool (all_below n test) (λ b. all_below n test ≡ b → (b && true) ≡ false → Failing (suc n) test)
    (λ all f k. absurd (true≢false k))
    (λ fail f k.
    let found = all_fails n test f in
    let low : found.number < n = found.inside in
    record { number = found.number; inside = omega arith; fails = found.fails }) refl h)
    (λ fails e h. record { number = n; inside = omega arith; fails = e })
    refl some

-- what is quiet enough for an arc, over what it asks for
abbrev quiet_enough : MigState → MigState → Bool → Bool → Bool → Bool
quiet_enough from to barred still free =
    (not (is_entering_p2p from to) || not barred) && (not (is_stopping from to) || still) && (not (is_leaving_p2p from to) || free)

from_stopped : (from to : MigState) (barred still free : Bool) → is_stopped from ≡ true → quiet_enough from to barred still free ≡ true
from_stopped Stop to barred still free stopped = refl
from_stopped StopCopy to barred still free stopped = refl
from_stopped Resuming to barred still free stopped = refl
from_stopped Error to barred still free stopped = absurd (false≢true stopped)
from_stopped Running to barred still free stopped = absurd (false≢true stopped)
from_stopped RunningP2p to barred still free stopped = absurd (false≢true stopped)
from_stopped PreCopy to barred still free stopped = absurd (false≢true stopped)
from_stopped PreCopyP2p to barred still free stopped = absurd (false≢true stopped)

stopped_away : (state : MigState) → is_stopped state ≡ true → same_state state Running ≡ false
stopped_away Stop stopped = refl
stopped_away StopCopy stopped = refl
stopped_away Resuming stopped = refl
stopped_away Error stopped = absurd (false≢true stopped)
stopped_away Running stopped = absurd (false≢true stopped)
stopped_away RunningP2p stopped = absurd (false≢true stopped)
stopped_away PreCopy stopped = absurd (false≢true stopped)
stopped_away PreCopyP2p stopped = absurd (false≢true stopped)

-- home with no device stopped
home_quiet : (from : MigState) (bits : ℕ) (barred still : Bool) → is_stopped from ≡ false → same_state from Error ≡ false
    → quiet_enough from (next_towards from Running bits) barred still true ≡ true
home_quiet Error bits barred still awake known = absurd (true≢false known)
home_quiet Stop bits barred still awake known = absurd (true≢false awake)
home_quiet StopCopy bits barred still awake known = absurd (true≢false awake)
home_quiet Resuming bits barred still awake known = absurd (true≢false awake)
home_quiet Running bits barred still awake known = refl
home_quiet RunningP2p bits barred still awake known = refl
home_quiet PreCopy bits barred still awake known = refl
home_quiet PreCopyP2p bits barred still awake known =
    by_bool (has_p2p bits) (λ b. quiet_enough PreCopyP2p (if b then RunningP2p else Running) barred still true ≡ true) (λ has. refl) (λ lacks. refl)

-- out with nothing outstanding and the others quiet
out_quiet : (from : MigState) (bits : ℕ) (free : Bool) → is_stopped from ≡ false → same_state from Error ≡ false
    → quiet_enough from (next_towards from StopCopy bits) false true free ≡ true
out_quiet Error bits free awake known = absurd (true≢false known)
out_quiet Stop bits free awake known = absurd (true≢false awake)
out_quiet StopCopy bits free awake known = absurd (true≢false awake)
out_quiet Resuming bits free awake known = absurd (true≢false awake)
out_quiet Running bits free awake known =
    by_bool (has_p2p bits) (λ b. quiet_enough Running (if b then RunningP2p else Stop) false true free ≡ true) (λ has. refl) (λ lacks. refl)
out_quiet RunningP2p bits free awake known = refl
out_quiet PreCopy bits free awake known =
    by_bool (has_p2p bits && has_pre_copy bits) (λ b. quiet_enough PreCopy (if b then PreCopyP2p else StopCopy) false true free ≡ true)
    (λ has. refl) (λ lacks. refl)
out_quiet PreCopyP2p bits free awake known = refl

-- a device that runs, of several: its next state is a peer-to-peer one, for which nothing outstanding is quiet enough
record Enters (from to : MigState) (free : Bool) : Type 0 where
  quiet : (still : Bool) → quiet_enough from to false still free ≡ true
  goes_on : (same_state to Stop || same_state to StopCopy) ≡ false

enters : (from : MigState) (bits : ℕ) (free : Bool) → (is_p2p from || is_stopped from) ≡ false → same_state from Error ≡ false → has_p2p bits ≡ true
    → supports bits from ≡ true → Enters from (next_towards from StopCopy bits) free
enters Error bits free moves known p2p has = absurd (true≢false known)
enters Stop bits free moves known p2p has = absurd (true≢false moves)
enters StopCopy bits free moves known p2p has = absurd (true≢false moves)
enters Resuming bits free moves known p2p has = absurd (true≢false moves)
enters RunningP2p bits free moves known p2p has = absurd (true≢false moves)
enters PreCopyP2p bits free moves known p2p has = absurd (true≢false moves)
enters Running bits free moves known p2p has =
    subst (λ (b : Bool). Enters Running (if b then RunningP2p else Stop) free) (sym p2p) (record { quiet = λ still. refl; goes_on = refl })
enters PreCopy bits free moves known p2p has =
    subst (λ (b : Bool). Enters PreCopy (if b then PreCopyP2p else StopCopy) free)
    (sym (and_from (has_p2p bits) (has_pre_copy bits) p2p has)) (record { quiet = λ still. refl; goes_on = refl })

-- a state outside the ones of a move
do_waits : (entry : Entry) → Do entry ≡ Wait → ⊥
do_waits entry same = cc

done_waits : Done ≡ Wait → ⊥
done_waits same = cc

for_moves : (entry : ℕ → Entry) (o : Option ℕ) (other : Want) → (o ≡ None → other ≢ Wait) → do_for entry o other ≢ Wait
for_moves entry None other none = none refl
for_moves entry (Some d) other none = do_waits (entry d)

module _ (D : Desc) (past : List Entry) (n : ℕ) (valid : IsValid D) (legal : IsLegal D past) where
  known : (d : ℕ) → d < device_count D → same_state (state_of d past) Error ≡ false
  known d inside = ((keeps_states D valid past legal).0 d inside).known

  home_may : (d : ℕ) → d < device_count D → same_state (state_of d past) Running ≡ false → is_ready D d past ≡ true → may_go_home (look_after D past) d ≡ true
  home_may d inside away ready =
      let look = look_after D past in
      and_from (not (same_state (seen look d).state Running)) (sees_ready look d)
      (ap (λ (v : DevLook). not (same_state v.state Running)) (seen_after D past d valid inside) ∙ ap not away)
      (ready_after D past d valid inside ∙ ready)

  pub home_moves : is_over past ≡ true → way_home D (look_after D past) ≢ Wait
  home_moves over =
      let look = look_after D past in
      for_moves (λ d. Arc d (next_seen D look d Running)) (least_below (device_count D) (λ k. may_go_home look k)) (if sees_all_in look Running then Done else Wait)
      (λ none.
      by_bool (sees_all_in look Running) (λ b. sees_all_in look Running ≡ b → (if b then Done else Wait) ≢ Wait)
      (λ all e. done_waits)
      (λ some e.
      absurd (stands (λ d inside. least_fails (device_count D) (λ k. may_go_home look k) d none inside) (sym (all_in_after D past Running valid) ∙ e)))
      refl)
    where
      stands : ((d : ℕ) → d < device_count D → may_go_home (look_after D past) d ≡ false) → all_stand_in D Running past ≡ false → ⊥
      stands nobody some =
          by_bool (none_stopped D past) (λ b. none_stopped D past ≡ b → ⊥)
          (λ free e.
          let found = all_fails (device_count D) (λ d. same_state (state_of d past) Running) some in
          let d = found.number in
          let awake : is_stopped (state_of d past) ≡ false =
          not-true (is_stopped (state_of d past)) (all_below_at (device_count D) (λ k. not (is_stopped (state_of k past))) d e found.inside) in
          let requests = outstanding_of D d past in
          let ready : is_ready D d past ≡ true =
          subst (λ (s : MigState). is_quiet_for_arc D d s past ≡ true) (sym (home_arc D past n valid legal d over))
          (subst
          (λ (b : Bool).
          quiet_enough (state_of d past) (next_towards (state_of d past) Running (shape_at D d).flags) (has_barred D d requests)
          (is_nothing requests && is_quiet D past) b ≡ true)
          (sym e)
          (home_quiet (state_of d past) (shape_at D d).flags (has_barred D d requests) (is_nothing requests && is_quiet D past) awake (known d found.inside))) in
          true≢false (sym (home_may d found.inside found.fails ready) ∙ nobody d found.inside))
          (λ held e.
          let found = all_fails (device_count D) (λ d. not (is_stopped (state_of d past))) e in
          let d = found.number in
          let stopped : is_stopped (state_of d past) ≡ true = not-false (is_stopped (state_of d past)) found.fails in
          let requests = outstanding_of D d past in
          let ready : is_ready D d past ≡ true =
          from_stopped (state_of d past) (next_arc D d past) (has_barred D d requests) (is_nothing requests && is_quiet D past) (none_stopped D past) stopped in
          true≢false (sym (home_may d found.inside (stopped_away (state_of d past) stopped) ready) ∙ nobody d found.inside))
          refl

  -- one device that isn't stopped, and has nothing outstanding, may be held or take its arc
  ready_for : IsAtRest D past → (d : ℕ) → d < device_count D → (to : MigState) → next_arc D d past ≡ to
      → quiet_enough (state_of d past) to false (is_quiet D past) (none_stopped D past) ≡ true → is_ready D d past ≡ true
  ready_for rests d inside to arc quiet =
      subst (λ (s : MigState). is_quiet_for_arc D d s past ≡ true) (sym arc)
      (subst (λ (requests : List Outstanding).
      quiet_enough (state_of d past) to (has_barred D d requests) (is_nothing requests && is_quiet D past) (none_stopped D past) ≡ true)
      (sym (rests.empty d inside)) quiet)

  out_may : (d : ℕ) → d < device_count D → (is_some (hold_of d past) || same_state (state_of d past) Stop) ≡ true → is_ready D d past ≡ true
      → may_go_out (look_after D past) d ≡ true
  out_may d inside way ready =
      let look = look_after D past in
      and_from (is_some (seen look d).held || same_state (seen look d).state Stop) (sees_ready look d)
      (ap (λ (v : DevLook). is_some v.held || same_state v.state Stop) (seen_after D past d valid inside) ∙ way)
      (ready_after D past d valid inside ∙ ready)

  -- what a hold for the next state asks of the others
  Holdable : ℕ → Type 0
  Holdable d =
      let to = next_towards (state_of d past) StopCopy (shape_at D d).flags in
      (not (same_state to Stop || same_state to StopCopy) || is_quiet D past) ≡ true

  hold_may : (d : ℕ) → d < device_count D → hold_of d past ≡ None → is_stopped (state_of d past) ≡ false → Holdable d
      → may_be_held D (look_after D past) d ≡ true
  unfolding Holdable
  hold_may d inside free awake quiet =
      let look = look_after D past in
      let view = seen_after D past d valid inside in
      let shown = next_seen D look d StopCopy in
      and_from (is_none (seen look d).held && not (is_stopped (seen look d).state)) (not (same_state shown Stop || same_state shown StopCopy) || sees_quiet look)
      (and_from (is_none (seen look d).held) (not (is_stopped (seen look d).state))
      (ap (λ (v : DevLook). is_none v.held) view ∙ ap (λ (h : Option MigState). is_none h) free)
      (ap (λ (v : DevLook). not (is_stopped v.state)) view ∙ ap not awake))
      (ap (λ (s : MigState). not (same_state s Stop || same_state s StopCopy) || sees_quiet look) (out_after D past d valid legal inside)
      ∙ ap
      (λ (b : Bool).
      not (same_state (next_towards (state_of d past) StopCopy (shape_at D d).flags) Stop
      || same_state (next_towards (state_of d past) StopCopy (shape_at D d).flags) StopCopy) || b) (quiet_after D past valid)
      ∙ quiet)

  awake_moves : IsAtRest D past → is_over past ≡ false → (d : ℕ) → d < device_count D → is_stopped (state_of d past) ≡ false → Holdable d
      → quiet_enough (state_of d past) (next_towards (state_of d past) StopCopy (shape_at D d).flags) false (is_quiet D past) (none_stopped D past) ≡ true
      → may_be_held D (look_after D past) d ≡ false → may_go_out (look_after D past) d ≡ false → ⊥
  awake_moves rests open_ d inside awake holdable quiet unheld unmoved = go (hold_of d past) refl
    where
      go : (hold : Option MigState) → hold_of d past ≡ hold → ⊥
      go None e = true≢false (sym (hold_may d inside e awake holdable) ∙ unheld)
      go (Some to) e =
          let to_next = (on_way D valid past legal d inside).1 open_ to e in
          let arc : next_arc D d past ≡ next_towards (state_of d past) StopCopy (shape_at D d).flags =
          out_arc D past n valid legal d open_
          ∙ ap (λ (h : Option MigState). unwrap_or h (next_towards (state_of d past) StopCopy (shape_at D d).flags)) e ∙ to_next in
          let way : (is_some (hold_of d past) || same_state (state_of d past) Stop) ≡ true =
          ap (λ (h : Option MigState). is_some h || same_state (state_of d past) Stop) e in
          true≢false (sym (out_may d inside way (ready_for rests d inside (next_towards (state_of d past) StopCopy (shape_at D d).flags) arc quiet)) ∙ unmoved)

  -- of the stopped states, the one that is left
  in_stop : (state : MigState) → is_stopped state ≡ true → same_state state StopCopy ≡ false → same_state state Resuming ≡ false → same_state state Stop ≡ true
  in_stop Stop stopped away giving = refl
  in_stop StopCopy stopped away giving = absurd (true≢false away)
  in_stop Resuming stopped away giving = absurd (true≢false giving)
  in_stop Error stopped away giving = absurd (false≢true stopped)
  in_stop Running stopped away giving = absurd (false≢true stopped)
  in_stop RunningP2p stopped away giving = absurd (false≢true stopped)
  in_stop PreCopy stopped away giving = absurd (false≢true stopped)
  in_stop PreCopyP2p stopped away giving = absurd (false≢true stopped)

  some_moves : IsAtRest D past → is_over past ≡ false → ((d : ℕ) → d < device_count D → may_be_held D (look_after D past) d ≡ false)
      → ((d : ℕ) → d < device_count D → may_go_out (look_after D past) d ≡ false) → all_stand_in D StopCopy past ≡ false → ⊥
  unfolding Holdable
  some_moves rests open_ unheld unmoved some =
      by_bool (is_quiet D past) (λ b. is_quiet D past ≡ b → ⊥)
      (λ quiet e.
      let found = all_fails (device_count D) (λ d. same_state (state_of d past) StopCopy) some in
      let d = found.number in
      let inside = found.inside in
      by_bool (is_stopped (state_of d past)) (λ b. is_stopped (state_of d past) ≡ b → ⊥)
      (λ stopped f.
      let giving = (on_way D valid past legal d inside).3 open_ in
      let way : (is_some (hold_of d past) || same_state (state_of d past) Stop) ≡ true =
      or_right (is_some (hold_of d past)) (same_state (state_of d past) Stop) (in_stop (state_of d past) f found.fails giving) in
      let requests = outstanding_of D d past in
      let ready : is_ready D d past ≡ true =
      from_stopped (state_of d past) (next_arc D d past) (has_barred D d requests) (is_nothing requests && is_quiet D past) (none_stopped D past) f in
      true≢false (sym (out_may d inside way ready) ∙ unmoved d inside))
      (λ awake f.
      let next = next_towards (state_of d past) StopCopy (shape_at D d).flags in
      awake_moves rests open_ d inside f (or_right (not (same_state next Stop || same_state next StopCopy)) (is_quiet D past) e)
      (subst (λ (b : Bool). quiet_enough (state_of d past) next false b (none_stopped D past) ≡ true) (sym e)
      (out_quiet (state_of d past) (shape_at D d).flags (none_stopped D past) f (known d inside)))
      (unheld d inside) (unmoved d inside))
      refl)
      (λ loud e.
      let parts = or_parts (device_count D == 1) (all_below (device_count D) (λ d. is_p2p (state_of d past) || is_stopped (state_of d past))) e in
      let found = all_fails (device_count D) (λ d. is_p2p (state_of d past) || is_stopped (state_of d past)) parts.1 in
      let d = found.number in
      let inside = found.inside in
      let next = next_towards (state_of d past) StopCopy (shape_at D d).flags in
      let one : device_count D ≡ 1 → ⊥ = λ same. true≢false (sym (eq-eqb (device_count D) 1 same) ∙ parts.0) in
      let several : 1 < device_count D = omega arith in
      let enter = enters (state_of d past) (shape_at D d).flags (none_stopped D past) found.fails (known d inside) (several_p2p D valid several d inside)
      (on_way D valid past legal d inside).0 in
      awake_moves rests open_ d inside (or_parts (is_p2p (state_of d past)) (is_stopped (state_of d past)) found.fails).1
      (or_left (not (same_state next Stop || same_state next StopCopy)) (is_quiet D past) (ap not enter.goes_on))
      (enter.quiet (is_quiet D past)) (unheld d inside) (unmoved d inside))
      refl

  out_moves : IsAtRest D past → is_over past ≡ false → way_out D (look_after D past) ≢ Wait
  out_moves rests open_ =
      let look = look_after D past in
      for_moves (λ d. Hold d (next_seen D look d StopCopy)) (least_below (device_count D) (λ d. may_be_held D look d))
      (do_for (λ d. arc_or_fail D look d (way_out_of look d)) (least_below (device_count D) (λ d. may_go_out look d))
      (if sees_all_in look StopCopy then Do Joint else Wait))
      (λ no_holds.
      for_moves (λ d. arc_or_fail D look d (way_out_of look d)) (least_below (device_count D) (λ d. may_go_out look d))
      (if sees_all_in look StopCopy then Do Joint else Wait)
      (λ no_arcs.
      by_bool (sees_all_in look StopCopy) (λ b. sees_all_in look StopCopy ≡ b → (if b then Do Joint else Wait) ≢ Wait) (λ all e. do_waits Joint)
      (λ some e.
      absurd
      (some_moves rests open_ (λ d inside. least_fails (device_count D) (λ k. may_be_held D look k) d no_holds inside)
      (λ d inside. least_fails (device_count D) (λ k. may_go_out look k) d no_arcs inside) (sym (all_in_after D past StopCopy valid) ∙ e)))
      refl))

  start_moves : IsAtRest D past → is_begun past ≡ false → is_over past ≡ false → beginning D (look_after D past) ≢ Wait
  start_moves rests unbegun open_ =
      let look = look_after D past in
      let warm : all_below (device_count D) (λ d. sees_warm D look d) ≡ true =
      warm_after D past valid
      ∙ all_pass (device_count D) (λ d. nat_le D.begin (complete_count d past) || is_idle D d past) (rests.warm unbegun open_) in
      subst (λ (b : Bool). (if b then Do Begin else Wait) ≢ Wait) (sym warm) (do_waits Begin)

  -- in a pass something is due
  due_moves : (copy part block : Option ℕ) → next_copy D past ≡ copy → next_part D past ≡ part → is_no_pass_open D past ≡ false
      → do_for Copy copy (part_of_pass part block) ≢ Wait
  due_moves (Some p) part block is_copy is_part opened = do_waits (Copy p)
  due_moves None None block is_copy is_part opened =
      let ended : is_no_pass_open D past ≡ true =
      and_from (is_none (next_copy D past)) (is_none (next_part D past)) (ap (λ (o : Option ℕ). is_none o) is_copy) (ap (λ (o : Option ℕ). is_none o) is_part) in
      absurd (true≢false (sym ended ∙ opened))
  due_moves None (Some d) None is_copy is_part opened = do_waits (Dry d)
  due_moves None (Some d) (Some b) is_copy is_part opened = do_waits (Block d b)

  pass_moves : is_over past ≡ false → is_no_pass_open D past ≡ false → rest_of_pass (look_after D past) ≢ Wait
  pass_moves open_ opened =
      subst (λ (b : Bool).
      do_for Copy (if b then None else next_copy D past)
      (part_of_pass (if b then None else next_part D past) (if b then None else block_due D (next_part D past) past)) ≢ Wait) (sym open_)
      (due_moves (next_copy D past) (next_part D past) (block_due D (next_part D past) past) refl refl opened)

  another_moves : another_pass (look_after D past) ≢ Wait
  another_moves =
      for_moves Report (least_below (device_count D) (λ d. not (sees_reported (look_after D past) d))) (Do (Pass (pass_count past + 1))) (λ none. do_waits (Pass (pass_count past + 1)))

  last_moves : last_pass (look_after D past) ≢ Wait
  last_moves =
      by_bool (pass_count past == 0) (λ b. (if b then Do (Pass 1) else another_pass (look_after D past)) ≢ Wait) (λ none. do_waits (Pass 1)) (λ some. another_moves)

  first_moves : first_pass D (look_after D past) ≢ Wait
  first_moves =
      let look = look_after D past in
      for_moves (λ d. arc_or_fail D look d PreCopy) (least_below (device_count D) (λ d. may_enter_pre_copy D look d)) (Do (Pass 1)) (λ none. do_waits (Pass 1))

  pub rest_moves : IsAtRest D past → next_want D (look_after D past) n ≢ Wait
  unfolding from_line
  rest_moves rests =
      let look = look_after D past in
      let P : Want → Type 0 = λ want. want ≢ Wait in
      let rest : ℕ → List (Bool × Want) = from_line D past n valid legal in
      line P (is_over past) (way_home D look) (rest 1) (λ over. home_moves over)
      (λ open_.
      line P (is_failed past) (Do Abort) (rest 2) (λ failed. do_waits Abort)
      (λ unfailed.
      line P (is_abort_asked look n) (Do Abort) (rest 3) (λ told. do_waits Abort)
      (λ untold.
      line P (not (is_begun past)) (beginning D look) (rest 4) (λ unbegun. start_moves rests (not-true (is_begun past) unbegun) open_)
      (λ begun.
      line P (not (is_no_pass_open D past)) (rest_of_pass look) (rest 5) (λ opened. pass_moves open_ (not-true (is_no_pass_open D past) opened))
      (λ closed.
      line P (not (is_joint past) && nat_lt 0 D.rounds && pass_count past == 0) (first_pass D look) (rest 6) (λ first. first_moves)
      (λ later.
      line P (not (is_joint past) && not (sees_decided D look)) (another_pass look) (rest 7) (λ more. another_moves)
      (λ enough.
      line P (not (is_joint past)) (way_out D look) (rest 8) (λ before. out_moves rests open_)
      (λ joint.
      line P (not (is_last_begun past)) (last_pass look) (rest 9) (λ unlast. last_moves)
      (λ last. done_waits)))))))))

  pub over_moves : is_over past ≡ true → next_want D (look_after D past) n ≢ Wait
  unfolding from_line
  over_moves over =
      line (λ want. want ≢ Wait) (is_over past) (way_home D (look_after D past)) (from_line D past n valid legal 1) (λ o. home_moves over)
      (λ open_. absurd (true≢false (sym over ∙ open_)))

-- a destination does nothing before it is over, and then moves
pub staged_moves : (D : Desc) → IsValid D → (before mine : List Entry) → fault_of D before Resume ≡ None → IsLegal D (mine ++ before) → (n : ℕ)
    → next_want D (staged_look_after D before mine) n ≢ Wait
staged_moves D valid before mine unbroken legal n =
    by_bool (is_over (mine ++ before)) (λ b. is_over (mine ++ before) ≡ b → next_want D (staged_look_after D before mine) n ≢ Wait)
    (λ over e. subst (λ (w : Want). w ≢ Wait) (sym (staged_home D valid before mine n e)) (over_moves D (mine ++ before) n valid legal e))
    (λ open_ e. subst (λ (w : Want). w ≢ Wait) (sym (staged_held D before mine n unbroken legal e)) done_waits) refl
