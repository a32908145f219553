-- How many arcs a device has made on its way to STOP_COPY: each one brings it further, and two or three bring it there.
use Rattle.std.proofs.Common.{◌≡◌, ℕ, ◌+◌, ◌<◌, ◌≤◌, ◌==◌, if◌then◌else◌, Bool, true, false, List, [], ◌∷◌, Option, Some, None, refl, sym, ap, ◌∙◌, subst, arith, eqb-true, ltb-true}
use Rattle.std.proofs.lemmas.Bool.{false≢true, true≢false, or_from}
use Rattle.vfm_types.specs.declared.desc.Desc.{Desc}
use Rattle.vfm_types.specs.declared.entry.Entry.{Entry}
use Rattle.vfm_types.specs.declared.entry.Entry.TheVariants.{Hold, Arc, Fail, Abort, Resume}
use Rattle.vfm_types.specs.declared.state.MigState.{MigState}
use Rattle.vfm_types.specs.declared.state.MigState.TheVariants.{Error, Stop, Running, StopCopy, Resuming, RunningP2p, PreCopy, PreCopyP2p}
use Rattle.vfm_types.specs.Arcs.{arc_count, hold_of, is_p2p, state_of}
use Rattle.vfm_types.specs.Desc.{device_count, shape_at}
use Rattle.vfm_types.specs.Outstanding.{outstanding_of}
use Rattle.vfm_types.specs.Paths.{next_towards}
use Rattle.vfm_types.specs.Phases.{is_aborted, is_failed, is_resumed}
use Rattle.vfm_types.specs.State.{has_p2p}
use Rattle.vfm_types.specs.Valid.{IsValid}
use Rattle.vfm_plain.specs.Legal.{IsLegal}
use Rattle.vfm_plain.specs.Rules.{fault_of}
use Rattle.vfm_laws.specs.Standing.{EachStands, StateKept, is_hold_step}
use Rattle.vfm_laws.proofs.Conditions.{OpenWay, early, held, final, ArcWay, homeward, outward, arc_met, arc_way, hold_met}
use Rattle.vfm_laws.proofs.KeptStates.{keeps_states}
use Rattle.vfm_laws.proofs.Rising.{by_bool}

-- ---- how far a state is

-- how many arcs lie behind a state at most, for a device that has the peer-to-peer states or hasn't
arcs_behind : Bool → MigState → ℕ
arcs_behind true Running = 0
arcs_behind true PreCopy = 1
arcs_behind true RunningP2p = 1
arcs_behind true PreCopyP2p = 2
arcs_behind true Stop = 2
arcs_behind true _ = 3
arcs_behind false Running = 0
arcs_behind false PreCopy = 1
arcs_behind false RunningP2p = 0
arcs_behind false PreCopyP2p = 1
arcs_behind false Stop = 1
arcs_behind false _ = 2

-- and on the whole way
on_the_way : Bool → ℕ
on_the_way p2p = if p2p then 3 else 2

at_most_all : (p2p : Bool) (state : MigState) → arcs_behind p2p state ≤ on_the_way p2p
unfolding arcs_behind on_the_way
at_most_all true Running = omega arith
at_most_all true PreCopy = omega arith
at_most_all true RunningP2p = omega arith
at_most_all true PreCopyP2p = omega arith
at_most_all true Stop = omega arith
at_most_all true _ = omega arith
at_most_all false Running = omega arith
at_most_all false PreCopy = omega arith
at_most_all false RunningP2p = omega arith
at_most_all false PreCopyP2p = omega arith
at_most_all false Stop = omega arith
at_most_all false _ = omega arith

hold_further : (p2p : Bool) (from to : MigState) → is_hold_step from to ≡ true → (p2p ≡ false → is_p2p to ≡ false)
    → arcs_behind p2p from + 1 ≤ arcs_behind p2p to
unfolding arcs_behind
hold_further true Running RunningP2p step lacks = omega arith
hold_further true Running Stop step lacks = omega arith
hold_further true PreCopy PreCopyP2p step lacks = omega arith
hold_further true PreCopy StopCopy step lacks = omega arith
hold_further true RunningP2p Stop step lacks = omega arith
hold_further true PreCopyP2p StopCopy step lacks = omega arith
hold_further false Running RunningP2p step lacks = absurd (true≢false (lacks refl))
hold_further false Running Stop step lacks = omega arith
hold_further false PreCopy PreCopyP2p step lacks = absurd (true≢false (lacks refl))
hold_further false PreCopy StopCopy step lacks = omega arith
hold_further false RunningP2p Stop step lacks = omega arith
hold_further false PreCopyP2p StopCopy step lacks = omega arith
hold_further p2p _ _ step lacks = absurd (false≢true step)

early_further : (p2p : Bool) → arcs_behind p2p Running + 1 ≤ arcs_behind p2p PreCopy
unfolding arcs_behind
early_further true = omega arith
early_further false = omega arith

final_further : (p2p : Bool) → arcs_behind p2p Stop + 1 ≤ arcs_behind p2p StopCopy
unfolding arcs_behind
final_further true = omega arith
final_further false = omega arith

-- a device that lacks the peer-to-peer states passes them by
passes_by : (from : MigState) (bits : ℕ) → has_p2p bits ≡ false → is_p2p (next_towards from StopCopy bits) ≡ false
passes_by Error bits lacks = refl
passes_by Running bits lacks = rw lacks refl
passes_by Stop bits lacks = refl
passes_by StopCopy bits lacks = refl
passes_by Resuming bits lacks = refl
passes_by RunningP2p bits lacks = refl
passes_by PreCopy bits lacks = rw lacks refl
passes_by PreCopyP2p bits lacks = refl

-- ---- what every legal list keeps

-- At most the arcs behind its state were made; and a device that lacks the peer-to-peer states isn't held for one.
record OutwardKept (p2p : Bool) (state : MigState) (hold : Option MigState) (count : ℕ) : Type 0 where
  arcs : count ≤ arcs_behind p2p state
  lacks : p2p ≡ false → (to : MigState) → hold ≡ Some to → is_p2p to ≡ false

-- the move was neither given up nor taken over, and no arc has failed
record IsOutward (past : List Entry) : Type 0 where
  aborted : is_aborted past ≡ false
  resumed : is_resumed past ≡ false
  failed : is_failed past ≡ false

Outward : Desc → List Entry → Type 0
Outward D past =
    IsOutward past → (d : ℕ) → d < device_count D
    → OutwardKept (has_p2p (shape_at D d).flags) (state_of d past) (hold_of d past) (arc_count d past)

none_some : (to : MigState) → None ≡ Some to → ⊥
none_some to same = cc

some_is : (a b : MigState) → Some a ≡ Some b → a ≡ b
some_is a b same = cc

open_further : (D : Desc) (past : List Entry) (d : ℕ) (to : MigState)
    → StateKept D d (state_of d past) (hold_of d past) (outstanding_of D d past)
    → OutwardKept (has_p2p (shape_at D d).flags) (state_of d past) (hold_of d past) (arc_count d past)
    → OpenWay past d to
    → arcs_behind (has_p2p (shape_at D d).flags) (state_of d past) + 1 ≤ arcs_behind (has_p2p (shape_at D d).flags) to
open_further D past d to old kept (early running pre) = rw (running, pre) (early_further (has_p2p (shape_at D d).flags))
open_further D past d to old kept (held hold) =
    hold_further (has_p2p (shape_at D d).flags) (state_of d past) to (old.held to hold) (λ lacks. kept.lacks lacks to hold)
open_further D past d to old kept (final stopped last) = rw (stopped, last) (final_further (has_p2p (shape_at D d).flags))

arc_outward : (D : Desc) (past : List Entry) (e : ℕ) (to : MigState) → e < device_count D
    → fault_of D past (Arc e to) ≡ None → EachStands D past
    → Outward D past → Outward D (Arc e to ∷ past)
unfolding Outward
arc_outward D past e to issuer unbroken stands before out d inside =
    by_bool (e == d)
    (λ b. (e == d) ≡ b → OutwardKept (has_p2p (shape_at D d).flags) (if b then to else state_of d past) (if b then None else hold_of d past)
    (arc_count d past + (if b then 1 else 0)))
    (λ same f. own (eqb-true e d f)) (λ other f. more (before old d inside)) refl
  where
    old : IsOutward past
    old = record { aborted = out.aborted; resumed = out.resumed; failed = out.failed }

    way : ArcWay D past e to → OpenWay past e to
    way (homeward over away next) = absurd (true≢false (sym over ∙ or_from (is_aborted past) (is_resumed past) out.aborted out.resumed))
    way (outward on_ open_) = open_

    own : e ≡ d → OutwardKept (has_p2p (shape_at D d).flags) to None (arc_count d past + 1)
    own same =
        let kept = before old d inside in
        let opens = subst (λ (k : ℕ). OpenWay past k to) same (way (arc_way D past e to (arc_met D past e to unbroken).1)) in
        let further = open_further D past d to (stands d inside) kept opens in
        let count : arc_count d past ≤ arcs_behind (has_p2p (shape_at D d).flags) (state_of d past) = kept.arcs in
        record { arcs = omega arith; lacks = λ missing into is. absurd (none_some into is) }

    more : OutwardKept (has_p2p (shape_at D d).flags) (state_of d past) (hold_of d past) (arc_count d past)
        → OutwardKept (has_p2p (shape_at D d).flags) (state_of d past) (hold_of d past) (arc_count d past + 0)
    more kept = record {
      arcs = let count : arc_count d past ≤ arcs_behind (has_p2p (shape_at D d).flags) (state_of d past) = kept.arcs in omega arith;
      lacks = kept.lacks;
    }

hold_outward : (D : Desc) (past : List Entry) (e : ℕ) (to : MigState) → fault_of D past (Hold e to) ≡ None
    → Outward D past → Outward D (Hold e to ∷ past)
unfolding Outward
hold_outward D past e to unbroken before out d inside =
    by_bool (e == d)
    (λ b. (e == d) ≡ b → OutwardKept (has_p2p (shape_at D d).flags) (state_of d past) (if b then Some to else hold_of d past) (arc_count d past))
    (λ same f. record { arcs = kept.arcs; lacks = λ missing into is. own (eqb-true e d f) missing into is }) (λ other f. kept) refl
  where
    kept : OutwardKept (has_p2p (shape_at D d).flags) (state_of d past) (hold_of d past) (arc_count d past)
    kept = before (record { aborted = out.aborted; resumed = out.resumed; failed = out.failed }) d inside

    own : e ≡ d → has_p2p (shape_at D d).flags ≡ false → (into : MigState) → Some to ≡ Some into → is_p2p into ≡ false
    own same missing into is =
        let next = (hold_met D past e to unbroken).1 in
        let flags = ap (λ (k : ℕ). has_p2p (shape_at D k).flags) same ∙ missing in
        subst (λ (s : MigState). is_p2p s ≡ false) (sym next ∙ some_is to into is)
        (passes_by (state_of e past) (shape_at D e).flags flags)

keeps_outward : (D : Desc) → IsValid D → (past : List Entry) → IsLegal D past → Outward D past
unfolding Outward arcs_behind
keeps_outward D valid [] legal = λ out d inside. record { arcs = omega arith; lacks = λ missing to is. absurd (none_some to is) }
keeps_outward D valid (Arc e to ∷ past) legal =
    arc_outward D past e to (ltb-true e (device_count D) legal.0) legal.1 (keeps_states D valid past legal.2).0 (keeps_outward D valid past legal.2)
keeps_outward D valid (Hold e to ∷ past) legal = hold_outward D past e to legal.1 (keeps_outward D valid past legal.2)
keeps_outward D valid (Fail e to ∷ past) legal = λ out d inside. absurd (true≢false out.failed)
keeps_outward D valid (Abort ∷ past) legal = λ out d inside. absurd (true≢false out.aborted)
keeps_outward D valid (Resume ∷ past) legal = λ out d inside. absurd (true≢false out.resumed)
keeps_outward D valid (entry ∷ past) legal =
    λ out. keeps_outward D valid past legal.2 (record { aborted = out.aborted; resumed = out.resumed; failed = out.failed })

-- while the move is on, the next arc of a device is one of those on the way
pub next_arc_is_on_the_way : (D : Desc) (past : List Entry) (d : ℕ) (to : MigState) → IsValid D → IsLegal D past
    → d < device_count D
    → is_aborted past ≡ false → is_resumed past ≡ false → is_failed past ≡ false → OpenWay past d to
    → arc_count d past + 1 ≤ (if has_p2p (shape_at D d).flags then 3 else 2)
unfolding Outward on_the_way
next_arc_is_on_the_way D past d to valid legal inside aborted resumed failed opens =
    let kept = keeps_outward D valid past legal (record { aborted = aborted; resumed = resumed; failed = failed }) d inside in
    let further = open_further D past d to ((keeps_states D valid past legal).0 d inside) kept opens in
    let count : arc_count d past ≤ arcs_behind (has_p2p (shape_at D d).flags) (state_of d past) = kept.arcs in
    let all : arcs_behind (has_p2p (shape_at D d).flags) to ≤ on_the_way (has_p2p (shape_at D d).flags) = at_most_all (has_p2p (shape_at D d).flags) to in
    omega arith
