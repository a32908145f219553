-- How many arcs a device makes: on the way out each one brings it further, and so on the way home.
use Rattle.std.proofs.Common.{◌≡◌, ℕ, ◌+◌, ◌<◌, ◌≤◌, ◌==◌, Bool, true, false, ◌||◌, if◌then◌else◌, List, [], ◌∷◌, None, refl, ap, sym, ◌∙◌, subst, arith, eqb-true, ltb-true}
use Rattle.std.proofs.lemmas.Bool.{or_from, or_right, false≢true, true≢false}
use Rattle.vfm_types.specs.declared.state.MigState.{MigState}
use Rattle.vfm_types.specs.declared.state.MigState.TheVariants.{Error, Stop, Running, StopCopy, Resuming, RunningP2p, PreCopy, PreCopyP2p}
use Rattle.vfm_types.specs.declared.entry.Entry.{Entry}
use Rattle.vfm_types.specs.declared.entry.Entry.TheVariants.{Arc, Fail, Abort, Resume}
use Rattle.vfm_types.specs.declared.desc.Desc.{Desc}
use Rattle.vfm_types.specs.State.{has_p2p}
use Rattle.vfm_types.specs.Desc.{device_count, shape_at}
use Rattle.vfm_types.specs.Paths.{same_state, next_towards}
use Rattle.vfm_types.specs.Phases.{is_aborted, is_resumed, is_failed}
use Rattle.vfm_types.specs.Arcs.{state_of, hold_of, arc_count}
use Rattle.vfm_types.specs.Outstanding.{outstanding_of}
use Rattle.vfm_types.specs.Valid.{IsValid}
use Rattle.vfm_plain.specs.Rules.{fault_of}
use Rattle.vfm_plain.specs.ArcRules.{may_take_arcs}
use Rattle.vfm_plain.specs.Legal.{IsLegal}
use Rattle.vfm_laws.specs.Standing.{is_hold_step, StateKept, EachStands}
use Rattle.vfm_laws.proofs.Rising.{by_bool}
use Rattle.vfm_laws.proofs.Conditions.{OpenWay, early, held, final, ArcWay, homeward, outward, arc_met, arc_way, fail_met, abort_met, resume_met, resume_on, on_unfailed, moving_unfailed}
use Rattle.vfm_laws.proofs.KeptStates.{keeps_states}

-- how far a state is on the way out, and on the way home
far_out : MigState → ℕ
far_out Running = 0
far_out PreCopy = 1
far_out RunningP2p = 1
far_out PreCopyP2p = 2
far_out Stop = 2
far_out _ = 3

far_home : MigState → ℕ
far_home Running = 3
far_home RunningP2p = 2
far_home PreCopy = 2
far_home Stop = 1
far_home PreCopyP2p = 1
far_home _ = 0

out_most : (state : MigState) → far_out state ≤ 3
unfolding far_out
out_most Running = omega arith
out_most PreCopy = omega arith
out_most RunningP2p = omega arith
out_most PreCopyP2p = omega arith
out_most Stop = omega arith
out_most _ = omega arith

home_most : (state : MigState) → far_home state ≤ 3
unfolding far_home
home_most Running = omega arith
home_most RunningP2p = omega arith
home_most PreCopy = omega arith
home_most Stop = omega arith
home_most PreCopyP2p = omega arith
home_most _ = omega arith

hold_further : (from to : MigState) → is_hold_step from to ≡ true → far_out from + 1 ≤ far_out to
unfolding far_out
hold_further Running RunningP2p step = omega arith
hold_further Running Stop step = omega arith
hold_further PreCopy PreCopyP2p step = omega arith
hold_further PreCopy StopCopy step = omega arith
hold_further RunningP2p Stop step = omega arith
hold_further PreCopyP2p StopCopy step = omega arith
hold_further _ _ step = absurd (false≢true step)

open_further : (D : Desc) (past : List Entry) (e : ℕ) (to : MigState) → StateKept D e (state_of e past) (hold_of e past) (outstanding_of D e past)
    → OpenWay past e to → far_out (state_of e past) + 1 ≤ far_out to
unfolding far_out
open_further D past e to old (early running pre) =
    let a : far_out (state_of e past) ≡ 0 = ap far_out running in
    let b : far_out to ≡ 1 = ap far_out pre in omega arith
open_further D past e to old (held hold) = hold_further (state_of e past) to (old.held to hold)
open_further D past e to old (final stopped last) =
    let a : far_out (state_of e past) ≡ 2 = ap far_out stopped in
    let b : far_out to ≡ 3 = ap far_out last in omega arith

home_further : (from : MigState) (bits : ℕ) → same_state from Running ≡ false → same_state from Error ≡ false → far_home from + 1 ≤ far_home (next_towards from Running bits)
unfolding far_home
home_further Error bits away known = absurd (true≢false known)
home_further Running bits away known = absurd (true≢false away)
home_further Stop bits away known =
    by_bool (has_p2p bits) (λ b. 2 ≤ far_home (if b then RunningP2p else Running)) (λ has. omega arith) (λ lacks. omega arith)
home_further StopCopy bits away known = omega arith
home_further Resuming bits away known = omega arith
home_further RunningP2p bits away known = omega arith
home_further PreCopy bits away known = omega arith
home_further PreCopyP2p bits away known =
    by_bool (has_p2p bits) (λ b. 2 ≤ far_home (if b then RunningP2p else Running)) (λ has. omega arith) (λ lacks. omega arith)

-- the arcs of a device by how far it is: on the way out a failed one may come on top, and on the way home all of those
record ArcsKept (state : MigState) (count : ℕ) (over failed : Bool) : Type 0 where
  outward_arcs : over ≡ false → count ≤ far_out state + (if failed then 1 else 0)
  homeward_arcs : over ≡ true → count ≤ far_home state + 4

ArcsOf : Desc → List Entry → Type 0
ArcsOf D past = (d : ℕ) → d < device_count D → ArcsKept (state_of d past) (arc_count d past) (is_aborted past || is_resumed past) (is_failed past)

way_arcs : (D : Desc) (past : List Entry) (e : ℕ) (to : MigState) → may_take_arcs past ≡ true
    → StateKept D e (state_of e past) (hold_of e past) (outstanding_of D e past)
    → ArcsKept (state_of e past) (arc_count e past) (is_aborted past || is_resumed past) (is_failed past) → ArcWay D past e to
    → ArcsKept to (arc_count e past + 1) (is_aborted past || is_resumed past) (is_failed past)
way_arcs D past e to moves old arcs (homeward over away next) =
    let further : far_home (state_of e past) + 1 ≤ far_home to =
    subst (λ (s : MigState). far_home (state_of e past) + 1 ≤ far_home s) (sym next) (home_further (state_of e past) (shape_at D e).flags away old.known) in
    let before : arc_count e past ≤ far_home (state_of e past) + 4 = arcs.homeward_arcs over in
    record { outward_arcs = λ open_. absurd (true≢false (sym over ∙ open_)); homeward_arcs = λ same. omega arith }
way_arcs D past e to moves old arcs (outward before way) =
    let further : far_out (state_of e past) + 1 ≤ far_out to = open_further D past e to old way in
    let count : arc_count e past ≤ far_out (state_of e past) + (if is_failed past then 1 else 0) = arcs.outward_arcs before in
    record { outward_arcs = λ same. omega arith; homeward_arcs = λ over. absurd (true≢false (sym over ∙ before)) }

arc_arcs : (D : Desc) (past : List Entry) (e : ℕ) (to : MigState) → e < device_count D → fault_of D past (Arc e to) ≡ None → EachStands D past
    → ArcsOf D past → ArcsOf D (Arc e to ∷ past)
unfolding ArcsOf
arc_arcs D past e to issuer unbroken stands arcs d inside =
    by_bool (e == d)
    (λ b. (e == d) ≡ b → ArcsKept (if b then to else state_of d past) (arc_count d past + (if b then 1 else 0)) (is_aborted past || is_resumed past) (is_failed past))
    (λ same f. subst (λ (k : ℕ). ArcsKept to (arc_count k past + 1) (is_aborted past || is_resumed past) (is_failed past)) (eqb-true e d f)
    (way_arcs D past e to (arc_met D past e to unbroken).0 (stands e issuer) (arcs e issuer) (arc_way D past e to (arc_met D past e to unbroken).1)))
    (λ other f. more (arcs d inside)) refl
  where
    more : ArcsKept (state_of d past) (arc_count d past) (is_aborted past || is_resumed past) (is_failed past)
        → ArcsKept (state_of d past) (arc_count d past + 0) (is_aborted past || is_resumed past) (is_failed past)
    more kept = record {
      outward_arcs = λ open_. let before : arc_count d past ≤ far_out (state_of d past) + (if is_failed past then 1 else 0) = kept.outward_arcs open_ in omega arith;
      homeward_arcs = λ over. let before : arc_count d past ≤ far_home (state_of d past) + 4 = kept.homeward_arcs over in omega arith;
    }

fail_arcs : (D : Desc) (past : List Entry) (e : ℕ) (to : MigState) → fault_of D past (Fail e to) ≡ None → ArcsOf D past → ArcsOf D (Fail e to ∷ past)
unfolding ArcsOf
fail_arcs D past e to unbroken arcs d inside =
    let conditions = fail_met D past e to unbroken in
    let before : (is_aborted past || is_resumed past) ≡ false = or_from (is_aborted past) (is_resumed past) conditions.1 conditions.2 in
    let unfailed = moving_unfailed past conditions.0 conditions.1 conditions.2 in
    let count : arc_count d past ≤ far_out (state_of d past) + 0 =
    subst (λ (b : Bool). arc_count d past ≤ far_out (state_of d past) + (if b then 1 else 0)) unfailed ((arcs d inside).outward_arcs before) in
    record {
      outward_arcs = λ same.
          by_bool (e == d) (λ b. arc_count d past + (if b then 1 else 0) ≤ far_out (state_of d past) + 1) (λ own. omega arith) (λ other. omega arith);
      homeward_arcs = λ over. absurd (true≢false (sym over ∙ before));
    }

abort_arcs : (D : Desc) (past : List Entry) → fault_of D past Abort ≡ None → ArcsOf D past → ArcsOf D (Abort ∷ past)
unfolding ArcsOf
abort_arcs D past unbroken arcs d inside =
    let conditions = abort_met D past unbroken in
    let before : (is_aborted past || is_resumed past) ≡ false = or_from (is_aborted past) (is_resumed past) conditions.0 conditions.1 in
    let most : far_out (state_of d past) ≤ 3 = out_most (state_of d past) in
    let count : arc_count d past ≤ far_out (state_of d past) + 1 =
    by_bool (is_failed past) (λ b. arc_count d past ≤ far_out (state_of d past) + (if b then 1 else 0) → arc_count d past ≤ far_out (state_of d past) + 1)
    (λ failed h. h) (λ unfailed h. omega arith) ((arcs d inside).outward_arcs before) in
    record { outward_arcs = λ open_. absurd (true≢false open_); homeward_arcs = λ over. omega arith }

resume_arcs : (D : Desc) (past : List Entry) → fault_of D past Resume ≡ None → ArcsOf D past → ArcsOf D (Resume ∷ past)
unfolding ArcsOf
resume_arcs D past unbroken arcs d inside =
    let conditions = resume_met D past unbroken in
    let before : (is_aborted past || is_resumed past) ≡ false = or_from (is_aborted past) (is_resumed past) conditions.1 conditions.2 in
    let unfailed = on_unfailed past (resume_on D past unbroken) in
    let most : far_out (state_of d past) ≤ 3 = out_most (state_of d past) in
    let count : arc_count d past ≤ far_out (state_of d past) + 0 =
    subst (λ (b : Bool). arc_count d past ≤ far_out (state_of d past) + (if b then 1 else 0)) unfailed ((arcs d inside).outward_arcs before) in
    record { outward_arcs = λ open_. absurd (true≢false (sym (or_right (is_aborted past) true refl) ∙ open_)); homeward_arcs = λ over. omega arith }

keeps_arcs : (D : Desc) → IsValid D → (past : List Entry) → IsLegal D past → ArcsOf D past
unfolding ArcsOf far_out
keeps_arcs D valid [] legal = λ d inside. record { outward_arcs = λ open_. omega arith; homeward_arcs = λ over. absurd (false≢true over) }
keeps_arcs D valid (Arc e to ∷ past) legal =
    arc_arcs D past e to (ltb-true e (device_count D) legal.0) legal.1 (keeps_states D valid past legal.2).0 (keeps_arcs D valid past legal.2)
keeps_arcs D valid (Fail e to ∷ past) legal = fail_arcs D past e to legal.1 (keeps_arcs D valid past legal.2)
keeps_arcs D valid (Abort ∷ past) legal = abort_arcs D past legal.1 (keeps_arcs D valid past legal.2)
keeps_arcs D valid (Resume ∷ past) legal = resume_arcs D past legal.1 (keeps_arcs D valid past legal.2)
keeps_arcs D valid (entry ∷ past) legal = keeps_arcs D valid past legal.2

-- a device makes at most seven arcs, failed ones included
pub few_arcs : (D : Desc) (past : List Entry) (d : ℕ) → IsValid D → IsLegal D past → d < device_count D → arc_count d past ≤ 7
unfolding ArcsOf
few_arcs D past d valid legal inside =
    let kept = keeps_arcs D valid past legal d inside in
    let out : far_out (state_of d past) ≤ 3 = out_most (state_of d past) in
    let home : far_home (state_of d past) ≤ 3 = home_most (state_of d past) in
    by_bool (is_aborted past || is_resumed past) (λ b. (is_aborted past || is_resumed past) ≡ b → arc_count d past ≤ 7)
    (λ over f. let count : arc_count d past ≤ far_home (state_of d past) + 4 = kept.homeward_arcs f in omega arith)
    (λ open_ f. by_bool (is_failed past) (λ b. arc_count d past ≤ far_out (state_of d past) + (if b then 1 else 0) → arc_count d past ≤ 7)
    (λ failed h. omega arith) (λ unfailed h. omega arith) (kept.outward_arcs f)) refl
