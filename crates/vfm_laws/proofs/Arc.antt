-- What an Arc keeps.
use Rattle.std.proofs.Common.{None, Some, [], ◌≡◌, ℕ, ◌<◌, ◌==◌, true, false, not, if◌then◌else◌, List, ◌∷◌, refl, ap, ap₂, sym, ◌∙◌, subst, arith, eqb-true, ltb-true, ⊎_elim}
use Rattle.std.proofs.lemmas.Bool.{or_cases, not-true, false≢true, eqb-false}
use Rattle.vfm_types.specs.declared.desc.Desc.{Desc}
use Rattle.vfm_types.specs.declared.entry.Entry.{Entry}
use Rattle.vfm_types.specs.declared.entry.Entry.TheVariants.{Arc}
use Rattle.vfm_types.specs.Desc.{device_count, shape_at}
use Rattle.vfm_types.specs.Outstanding.{outstanding_of}
use Rattle.vfm_types.specs.Valid.{IsValid}
use Rattle.vfm_plain.specs.Legal.{is_entry_of}
use Rattle.vfm_plain.specs.Rules.{fault_of}
use Rattle.vfm_laws.proofs.Rising.{by_bool}
use Rattle.std.proofs.lemmas.Bool.{or_right, both_ways}
use Rattle.vfm_types.specs.declared.state.MigState.{MigState}
use Rattle.vfm_types.specs.declared.state.MigState.TheVariants.{Stop, Running, StopCopy, RunningP2p, PreCopy}
use Rattle.vfm_types.specs.State.{has_p2p}
use Rattle.vfm_types.specs.Paths.{next_towards}
use Rattle.vfm_base.specs.Least.{all_below}
use Rattle.vfm_types.specs.Phases.{is_joint, is_aborted, is_resumed, is_on}
use Rattle.vfm_types.specs.Arcs.{state_of, hold_of, is_p2p, is_stopped}
use Rattle.vfm_types.specs.Words.{has_barred}
use Rattle.vfm_laws.specs.Standing.{is_hold_step, is_arc_step, is_quiet_state, StateKept, EachStands, TameTogether, JointStands, KeepsStates}
use Rattle.vfm_laws.proofs.Below.{all_below_at}
use Rattle.vfm_laws.proofs.Flags.{several_p2p}
use Rattle.vfm_laws.proofs.Conditions.{QuietFor, OpenWay, early, held, final, ArcWay, homeward, outward, arc_met, arc_way, no_move}
use Rattle.vfm_laws.proofs.Steps.{home_step, home_from_stop, hold_arc, arc_known, StopCause, halts, was_stopped, stop_cause, SlowCause, was_slow, enters, slow_halts, slow_cause, TameCause, stays, leaves, leaps, tame_cause}

none_some : (to : MigState) → None ≡ Some to → ⊥
none_some to same = cc

-- an arc that breaks no rule is one of the arcs of a move
open_step : (D : Desc) (past : List Entry) (e : ℕ) (to : MigState) → StateKept D e (state_of e past) (hold_of e past) (outstanding_of D e past)
    → OpenWay past e to → is_arc_step (state_of e past) to ≡ true
open_step D past e to old (early running pre) = ap₂ is_arc_step running pre
open_step D past e to old (held hold) = hold_arc (state_of e past) to (old.held to hold)
open_step D past e to old (final stopped last) = ap₂ is_arc_step stopped last

way_step : (D : Desc) (past : List Entry) (e : ℕ) (to : MigState) → StateKept D e (state_of e past) (hold_of e past) (outstanding_of D e past)
    → ArcWay D past e to → is_arc_step (state_of e past) to ≡ true
way_step D past e to old (homeward over away next) =
    ap (is_arc_step (state_of e past)) next ∙ home_step (state_of e past) (shape_at D e).flags away old.known
way_step D past e to old (outward before way) = open_step D past e to old way

running_p2p : Running ≡ RunningP2p → ⊥
running_p2p same = cc

running_pre : Running ≡ PreCopy → ⊥
running_pre same = cc

running_stop : Running ≡ StopCopy → ⊥
running_stop same = cc

-- no open way leads from STOP to RUNNING
open_no_leap : (D : Desc) (past : List Entry) (e : ℕ) (to : MigState)
    → StateKept D e (state_of e past) (hold_of e past) (outstanding_of D e past) → OpenWay past e to
    → state_of e past ≡ Stop → to ≡ Running → ⊥
open_no_leap D past e to old (early running pre) from_stop to_running = running_pre (sym to_running ∙ pre)
open_no_leap D past e to old (held hold) from_stop to_running =
    false≢true (ap₂ is_hold_step (sym from_stop) (sym to_running) ∙ old.held to hold)
open_no_leap D past e to old (final stopped last) from_stop to_running = running_stop (sym to_running ∙ last)

-- a device that has the peer-to-peer states never goes from STOP straight to RUNNING
no_leap : (D : Desc) (past : List Entry) (e : ℕ) (to : MigState) → has_p2p (shape_at D e).flags ≡ true
    → StateKept D e (state_of e past) (hold_of e past) (outstanding_of D e past) → ArcWay D past e to
    → state_of e past ≡ Stop → to ≡ Running → ⊥
no_leap D past e to has old (homeward over away next) from_stop to_running =
    running_p2p (sym to_running ∙ next ∙ ap (λ (s : MigState). next_towards s Running (shape_at D e).flags) from_stop
    ∙ home_from_stop (shape_at D e).flags has)
no_leap D past e to has old (outward before way) from_stop to_running = open_no_leap D past e to old way from_stop to_running

-- a device of several has the peer-to-peer states
beside_p2p : (D : Desc) → IsValid D → (e k : ℕ) → e < device_count D → k < device_count D → (e ≡ k → ⊥) → has_p2p (shape_at D e).flags ≡ true
beside_p2p D valid e k inside_e inside_k other = several_p2p D valid several e inside_e
  where
    several : 1 < device_count D
    several = grind (arith, inside_e, inside_k, other)

-- the device that takes the arc
stopped_empty : (D : Desc) (past : List Entry) (e : ℕ) (to : MigState) → QuietFor D e to past
    → StateKept D e (state_of e past) (hold_of e past) (outstanding_of D e past) → StopCause (state_of e past) to → outstanding_of D e past ≡ []
stopped_empty D past e to quiet old (halts here) = (quiet.stopped here).0
stopped_empty D past e to quiet old (was_stopped still) = old.still still

slow_unbarred : (D : Desc) (past : List Entry) (e : ℕ) (to : MigState) → QuietFor D e to past
    → StateKept D e (state_of e past) (hold_of e past) (outstanding_of D e past) → SlowCause (state_of e past) to
    → has_barred D e (outstanding_of D e past) ≡ false
slow_unbarred D past e to quiet old (was_slow slow) = old.unbarred slow
slow_unbarred D past e to quiet old (enters here) = quiet.enters here
slow_unbarred D past e to quiet old (slow_halts here) = ap (has_barred D e) (quiet.stopped here).0

arc_own : (D : Desc) (past : List Entry) (e : ℕ) (to : MigState) → is_arc_step (state_of e past) to ≡ true → QuietFor D e to past
    → StateKept D e (state_of e past) (hold_of e past) (outstanding_of D e past) → StateKept D e to None (outstanding_of D e past)
arc_own D past e to step quiet old = record {
  known = arc_known (state_of e past) to step;
  held = λ next same. absurd (none_some next same);
  still = λ still. stopped_empty D past e to quiet old (stop_cause (state_of e past) to step still);
  unbarred = λ slow. slow_unbarred D past e to quiet old (slow_cause (state_of e past) to step slow);
}

-- the device that moves is tame afterwards where another is stopped
moved_tame : (D : Desc) (past : List Entry) (e : ℕ) (to : MigState) → QuietFor D e to past
    → (state_of e past ≡ Stop → to ≡ Running → ⊥)
    → (k : ℕ) → k < device_count D → is_stopped (state_of k past) ≡ true → TameCause (state_of e past) to → is_quiet_state to ≡ true
moved_tame D past e to quiet never k inside still (stays tame) = tame
moved_tame D past e to quiet never k inside still (leaps from_stop to_running) = absurd (never from_stop to_running)
moved_tame D past e to quiet never k inside still (leaves here) =
    let none = all_below_at (device_count D) (λ j. not (is_stopped (state_of j past))) k (quiet.leaves here) inside in
    absurd (both_ways (is_stopped (state_of k past)) (not-true (is_stopped (state_of k past)) none) still)

-- another device is tame where this one stops
others_tame : (D : Desc) (past : List Entry) (e : ℕ) (to : MigState) → e < device_count D → QuietFor D e to past → TameTogether D past
    → (k : ℕ) → k < device_count D → (e ≡ k → ⊥) → StopCause (state_of e past) to → is_quiet_state (state_of k past) ≡ true
others_tame D past e to issuer quiet together k inside other (was_stopped still) = together e k issuer inside still
others_tame D past e to issuer quiet together k inside other (halts here) =
    ⊎_elim (λ (one : (device_count D == 1) ≡ true). absurd (alone (eqb-true (device_count D) 1 one)))
    (λ (all : all_below (device_count D) (λ d. is_quiet_state (state_of d past)) ≡ true). all_below_at (device_count D) (λ d. is_quiet_state (state_of d past)) k all inside)
    (or_cases (device_count D == 1) (all_below (device_count D) (λ d. is_quiet_state (state_of d past))) (quiet.stopped here).1)
  where
    alone : device_count D ≡ 1 → ⊥
    alone one = other (omega (arith, one, inside, issuer))

-- where some device is stopped after the arc, each device is tame after it
arc_tame : (D : Desc) (past : List Entry) (e : ℕ) (to : MigState) → IsValid D → e < device_count D → ArcWay D past e to → QuietFor D e to past
    → is_arc_step (state_of e past) to ≡ true → KeepsStates D past → TameTogether D (Arc e to ∷ past)
arc_tame D past e to valid issuer way quiet step kept a b inside_a inside_b still =
    by_bool (e == b) (λ x. (e == b) ≡ x → is_quiet_state (if x then to else state_of b past) ≡ true)
    (λ same_b f. by_bool (e == a) (λ y. (e == a) ≡ y → is_stopped (if y then to else state_of a past) ≡ true → is_quiet_state to ≡ true)
    (λ same_a g h. or_right (is_p2p to) (is_stopped to) h) (λ other_a g h. moves (eqb-false e a g) h) refl still)
    (λ other_b f. by_bool (e == a) (λ y. (e == a) ≡ y → is_stopped (if y then to else state_of a past) ≡ true → is_quiet_state (state_of b past) ≡ true)
    (λ same_a g h. others_tame D past e to issuer quiet kept.1 b inside_b (eqb-false e b f) (stop_cause (state_of e past) to step h))
    (λ other_a g h. kept.1 a b inside_a inside_b h) refl still) refl
  where
    moves : (e ≡ a → ⊥) → is_stopped (state_of a past) ≡ true → is_quiet_state to ≡ true
    moves other h =
        moved_tame D past e to quiet (no_leap D past e to (beside_p2p D valid e a issuer inside_a other) (kept.0 e issuer) way) a inside_a h
        (tame_cause (state_of e past) to step (kept.1 a e inside_a issuer h))

pub arc_keeps_states : (D : Desc) (past : List Entry) (e : ℕ) (to : MigState) → IsValid D → is_entry_of D (Arc e to) ≡ true
    → fault_of D past (Arc e to) ≡ None → KeepsStates D past → KeepsStates D (Arc e to ∷ past)
arc_keeps_states D past e to valid entry unbroken kept = (each, arc_tame D past e to valid issuer way quiet step kept, stands)
  where
    issuer : e < device_count D
    issuer = ltb-true e (device_count D) entry

    way : ArcWay D past e to
    way = arc_way D past e to (arc_met D past e to unbroken).1

    quiet : QuietFor D e to past
    quiet = (arc_met D past e to unbroken).2

    step : is_arc_step (state_of e past) to ≡ true
    step = way_step D past e to (kept.0 e issuer) way

    each : EachStands D (Arc e to ∷ past)
    each d inside =
        by_bool (e == d) (λ b. (e == d) ≡ b → StateKept D d (if b then to else state_of d past) (if b then None else hold_of d past) (outstanding_of D d past))
        (λ same f. subst (λ (k : ℕ). StateKept D k to None (outstanding_of D k past)) (eqb-true e d f) (arc_own D past e to step quiet (kept.0 e issuer)))
        (λ other f. kept.0 d inside) refl

    stands : JointStands D (Arc e to ∷ past)
    stands joint aborted resumed d inside =
        absurd (no_move (is_on past) (is_joint past) (is_aborted past) (is_resumed past) (arc_met D past e to unbroken).0 joint aborted resumed)
