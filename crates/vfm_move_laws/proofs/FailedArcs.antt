-- One arc fails at most, and one on the way to STOP_COPY.
use Rattle.std.proofs.Common.{◌≡◌, ◌⊎◌, ℕ, zero, suc, ◌+◌, ◌<◌, ◌≤◌, ◌==◌, ◌&&◌, not, nat_lt, if◌then◌else◌, true, false, List, [], ◌∷◌, ◌++◌, Contains, None, refl, sym, ◌∙◌, subst, inl, inr, arith, ltb-true, eqb-true}
use Rattle.std.proofs.lemmas.Bool.{and_parts, true≢false}
use Rattle.std.proofs.lemmas.List.Elements.{Contains-append_cases, Contains-append_right}
use Rattle.vfm_types.specs.declared.desc.Desc.{Desc}
use Rattle.vfm_types.specs.declared.entry.Entry.{Entry}
use Rattle.vfm_types.specs.declared.entry.Entry.TheVariants.{Fail, Abort}
use Rattle.vfm_types.specs.declared.entry.Rule.TheVariants.{Order, Path, Quiet}
use Rattle.vfm_types.specs.declared.state.MigState.{MigState}
use Rattle.vfm_types.specs.Arcs.{arc_count}
use Rattle.vfm_types.specs.Desc.{device_count, shape_at}
use Rattle.vfm_types.specs.Phases.{is_aborted, is_failed, is_resumed}
use Rattle.vfm_types.specs.State.{has_p2p}
use Rattle.vfm_types.specs.Valid.{IsValid}
use Rattle.vfm_types.specs.Words.{is_way_open}
use Rattle.vfm_plain.specs.ArcRules.{is_quiet_for_arc, may_take_arcs}
use Rattle.vfm_plain.specs.FailRules.{is_right_fail}
use Rattle.vfm_plain.specs.Legal.{IsLegal}
use Rattle.vfm_plain.specs.Rules.{fault_of}
use Rattle.vfm_laws.proofs.Conditions.{fail_met, met, moving_unfailed, open_way}
use Rattle.vfm_move_laws.proofs.OutwardArcs.{next_arc_is_on_the_way}

pub is_it : {X : Type 0} (y x : X) → Contains (y ∷ []) x → y ≡ x
is_it y x (zero, inside, same) = same
is_it y x (suc k, inside, same) = absurd (omega (arith, inside))

nothing_in : {X : Type 0} (x : X) → Contains [] x → ⊥
nothing_in x (k, inside, same) = absurd (omega (arith, inside))

-- ---- one arc

-- a move in which an arc failed has failed, unless it was given up since
failed_at : (entry : Entry) (past : List Entry) (d : ℕ) (to : MigState)
    → (Contains past (Fail d to) → is_aborted past ≡ false → is_failed past ≡ true)
    → Contains (entry ∷ []) (Fail d to) ⊎ Contains past (Fail d to) → is_aborted (entry ∷ past) ≡ false
    → is_failed (entry ∷ past) ≡ true
failed_at (Fail e into) past d to before has going = refl
failed_at Abort past d to before has going = absurd (true≢false going)
failed_at entry past d to before (inl first) going = let e = is_it entry (Fail d to) first in absurd cc
failed_at entry past d to before (inr rest) going = before rest going

pub failed_since : (past : List Entry) (d : ℕ) (to : MigState) → Contains past (Fail d to) → is_aborted past ≡ false
    → is_failed past ≡ true
failed_since [] d to has going = absurd (nothing_in (Fail d to) has)
failed_since (entry ∷ past) d to has going =
    failed_at entry past d to (failed_since past d to) (Contains-append_cases (entry ∷ []) past (Fail d to) has) going

none_later : (entry : Entry) (past : List Entry) → ((d : ℕ) (to : MigState) → Contains (entry ∷ past) (Fail d to) → ⊥)
    → (d : ℕ) (to : MigState) → Contains past (Fail d to) → ⊥
none_later entry past none d to has = none d to (Contains-append_right (entry ∷ []) past (Fail d to) has)

at_head : (entry : Entry) (past : List Entry) → Contains (entry ∷ past) entry
at_head entry past = (zero, omega arith, refl)

pub unfailed : (past : List Entry) → ((d : ℕ) (to : MigState) → Contains past (Fail d to) → ⊥) → is_failed past ≡ false
unfailed [] none = refl
unfailed (Fail d to ∷ past) none = absurd (none d to (at_head (Fail d to) past))
unfailed (Abort ∷ past) none = refl
unfailed (entry ∷ past) none = unfailed past (none_later entry past none)

none_before : (D : Desc) (past : List Entry) (d other : ℕ) (to into : MigState) → IsLegal D (Fail d to ∷ past)
    → Contains past (Fail other into) → ⊥
none_before D past d other to into legal has =
    let fails = fail_met D past d to legal.1 in
    true≢false (sym (failed_since past other into has fails.1) ∙ moving_unfailed past fails.0 fails.1 fails.2)

pub fails_once : (D : Desc) (past more : List Entry) (d other : ℕ) (to into : MigState)
    → IsLegal D (more ++ Fail d to ∷ past)
    → Contains past (Fail other into) → ⊥
fails_once D past [] d other to into legal has = none_before D past d other to into legal has
fails_once D past (entry ∷ more) d other to into legal has = fails_once D past more d other to into legal.2 has

-- by where both stand
same_places : (D : Desc) (entry : Entry) (past : List Entry) (d other : ℕ) (to into : MigState)
    → IsLegal D (entry ∷ past)
    → (Contains past (Fail d to) → Contains past (Fail other into) → (d ≡ other) × (to ≡ into))
    → Contains (entry ∷ []) (Fail d to) ⊎ Contains past (Fail d to)
    → Contains (entry ∷ []) (Fail other into) ⊎ Contains past (Fail other into)
    → (d ≡ other) × (to ≡ into)
same_places D entry past d other to into legal before (inl one) (inl two) =
    let a = is_it entry (Fail d to) one in
    let b = is_it entry (Fail other into) two in
    (cc, cc)
same_places D entry past d other to into legal before (inl one) (inr two) =
    absurd (none_before D past d other to into (subst (λ (e : Entry). IsLegal D (e ∷ past)) (is_it entry (Fail d to) one) legal) two)
same_places D entry past d other to into legal before (inr one) (inl two) =
    absurd (none_before D past other d into to (subst (λ (e : Entry). IsLegal D (e ∷ past)) (is_it entry (Fail other into) two) legal) one)
same_places D entry past d other to into legal before (inr one) (inr two) = before one two

pub same_fail : (D : Desc) (past : List Entry) (d other : ℕ) (to into : MigState) → IsLegal D past
    → Contains past (Fail d to)
    → Contains past (Fail other into) → (d ≡ other) × (to ≡ into)
same_fail D [] d other to into legal one two = absurd (nothing_in (Fail d to) one)
same_fail D (entry ∷ past) d other to into legal one two =
    same_places D entry past d other to into legal (same_fail D past d other to into legal.2)
    (Contains-append_cases (entry ∷ []) past (Fail d to) one) (Contains-append_cases (entry ∷ []) past (Fail other into) two)

-- ---- as it is described

-- the list up to a failed arc
record FailsThere (D : Desc) (d : ℕ) (to : MigState) : Type 0 where
  before : List Entry
  legal : IsLegal D (Fail d to ∷ before)

there_at : (D : Desc) (entry : Entry) (past : List Entry) (d : ℕ) (to : MigState) → IsLegal D (entry ∷ past)
    → (Contains past (Fail d to) → FailsThere D d to) → Contains (entry ∷ []) (Fail d to) ⊎ Contains past (Fail d to)
    → FailsThere D d to
there_at D entry past d to legal rest (inl first) =
    record { before = past; legal = subst (λ (e : Entry). IsLegal D (e ∷ past)) (is_it entry (Fail d to) first) legal }
there_at D entry past d to legal rest (inr later) = rest later

there : (D : Desc) (past : List Entry) (d : ℕ) (to : MigState) → IsLegal D past → Contains past (Fail d to)
    → FailsThere D d to
there D [] d to legal has = absurd (nothing_in (Fail d to) has)
there D (entry ∷ past) d to legal has =
    there_at D entry past d to legal (there D past d to legal.2) (Contains-append_cases (entry ∷ []) past (Fail d to) has)

pub fails_of_device : (D : Desc) (past : List Entry) (d : ℕ) (to : MigState) → IsLegal D past
    → Contains past (Fail d to) → d < device_count D
fails_of_device D past d to legal has = ltb-true d (device_count D) (there D past d to legal has).legal.0

-- the right arc to fail: a way is open, some arc is to fail, and it is this one
record RightFail (D : Desc) (d : ℕ) (to : MigState) (past : List Entry) : Type 0 where
  open_ : is_way_open D d to past ≡ true
  some : 0 < (shape_at D d).fails
  this : arc_count d past + 1 ≡ (shape_at D d).fails

right_fail : (D : Desc) (past : List Entry) (d : ℕ) (to : MigState) → fault_of D past (Fail d to) ≡ None
    → RightFail D d to past
right_fail D past d to unbroken =
    let order = met (may_take_arcs past) Order ((is_right_fail D d to past, Path) ∷ (is_quiet_for_arc D d to past, Quiet) ∷ []) unbroken in
    let right = met (is_right_fail D d to past) Path ((is_quiet_for_arc D d to past, Quiet) ∷ []) order.1 in
    let three = not (is_aborted past) && not (is_resumed past) && is_way_open D d to past in
    let four = and_parts (three && nat_lt 0 (shape_at D d).fails) (arc_count d past + 1 == (shape_at D d).fails) right.0 in
    let some = and_parts three (nat_lt 0 (shape_at D d).fails) four.0 in
    record {
      open_ = (and_parts (not (is_aborted past) && not (is_resumed past)) (is_way_open D d to past) some.0).1;
      some = ltb-true 0 (shape_at D d).fails some.1;
      this = eqb-true (arc_count d past + 1) (shape_at D d).fails four.1;
    }

pub fails_some : (D : Desc) (past : List Entry) (d : ℕ) (to : MigState) → IsLegal D past → Contains past (Fail d to)
    → 0 < (shape_at D d).fails
fails_some D past d to legal has = let f = there D past d to legal has in (right_fail D f.before d to f.legal.1).some

pub fails_on_the_way : (D : Desc) (past : List Entry) (d : ℕ) (to : MigState) → IsValid D → IsLegal D past
    → Contains past (Fail d to)
    → (shape_at D d).fails ≤ (if has_p2p (shape_at D d).flags then 3 else 2)
fails_on_the_way D past d to valid legal has =
    let f = there D past d to legal has in
    let fails = fail_met D f.before d to f.legal.1 in
    let right = right_fail D f.before d to f.legal.1 in
    let inside = ltb-true d (device_count D) f.legal.0 in
    let unfailed = moving_unfailed f.before fails.0 fails.1 fails.2 in
    subst (λ (n : ℕ). n ≤ (if has_p2p (shape_at D d).flags then 3 else 2)) right.this
    (next_arc_is_on_the_way D f.before d to valid f.legal.2 inside fails.1 fails.2 unfailed (open_way D f.before d to right.open_))
