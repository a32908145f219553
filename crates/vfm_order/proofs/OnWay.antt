-- What every legal list keeps of a device on its way: it has the state that it is in, and is held for its next one.
use Rattle.std.proofs.Common.{◌≡◌, ℕ, ◌+◌, ◌<◌, ◌==◌, ◌&&◌, ◌||◌, not, Bool, true, false, if◌then◌else◌, List, [], ◌∷◌, Option, Some, None, nat_lt, refl, ap, sym, ◌∙◌, subst, arith, eqb-true, ltb-true, ne_eqb}
use Rattle.std.proofs.lemmas.Bool.{and_parts, or_cases, or_right, false≢true, true≢false}
use Rattle.std.proofs.Common.{⊎_elim}
use Rattle.vfm_types.specs.declared.state.MigState.{MigState}
use Rattle.vfm_types.specs.declared.state.MigState.TheVariants.{Error, Stop, Running, StopCopy, Resuming, PreCopy}
use Rattle.vfm_types.specs.declared.entry.Entry.{Entry}
use Rattle.vfm_types.specs.declared.entry.Entry.TheVariants.{Hold, Arc, Pass, Abort, Resume}
use Rattle.vfm_types.specs.declared.entry.Rule.TheVariants.{Path, Quiet, Decide, Order}
use Rattle.vfm_types.specs.declared.desc.Desc.{Desc}
use Rattle.vfm_types.specs.State.{has_pre_copy}
use Rattle.vfm_types.specs.Desc.{device_count, shape_at}
use Rattle.vfm_types.specs.Paths.{same_state, supports, next_towards}
use Rattle.vfm_types.specs.Phases.{is_aborted, pass_count}
use Rattle.vfm_types.specs.Arcs.{state_of, hold_of, arc_count}
use Rattle.vfm_types.specs.Words.{is_decided, is_held_for, is_next_towards, is_way_open}
use Rattle.vfm_types.specs.Valid.{IsValid}
use Rattle.vfm_plain.specs.Rules.{fault_of}
use Rattle.vfm_plain.specs.ArcRules.{is_arc_home, is_right_arc}
use Rattle.vfm_plain.specs.HoldRules.{may_be_held, is_next_to_stop_copy, is_quiet_for_hold}
use Rattle.vfm_plain.specs.Legal.{IsLegal}
use Rattle.vfm_laws.proofs.Rising.{by_bool}
use Rattle.vfm_laws.proofs.Steps.{same_is}
use Rattle.vfm_laws.proofs.Walks.{some_none}
use Rattle.vfm_laws.proofs.Conditions.{met, hold_met, arc_met}
use Rattle.vfm_laws.proofs.KeptStates.{keeps_states}
use Rattle.vfm_order.specs.LookAfter.{is_over}
use Rattle.vfm_order.proofs.Numbers.{some_is}
use Rattle.vfm_order.proofs.Ways.{home_is_had, out_is_had, out_not_resuming}

-- the states of a device before the first pass
abbrev pub is_early : MigState → Bool
is_early Running = true
is_early PreCopy = true
is_early _ = false

-- the device has the state that it is in
abbrev pub Has : Desc → ℕ → List Entry → Type 0
Has D d past = supports (shape_at D d).flags (state_of d past) ≡ true

-- it is held for its next state towards STOP_COPY
abbrev pub HeldNext : Desc → ℕ → List Entry → Type 0
HeldNext D d past =
    is_over past ≡ false → (to : MigState) → hold_of d past ≡ Some to → to ≡ next_towards (state_of d past) StopCopy (shape_at D d).flags

-- before the first pass it isn't held, and is in RUNNING or PRE_COPY
abbrev pub Early : Desc → ℕ → List Entry → Type 0
Early D d past =
    is_over past ≡ false → nat_lt 0 D.rounds ≡ true → pass_count past ≡ 0 → (hold_of d past ≡ None) × (is_early (state_of d past) ≡ true)

-- it takes nothing in before the move is taken over
abbrev pub Giving : ℕ → List Entry → Type 0
Giving d past = is_over past ≡ false → same_state (state_of d past) Resuming ≡ false

abbrev pub OnWay : Desc → ℕ → List Entry → Type 0
OnWay D d past = Has D d past × HeldNext D d past × Early D d past × Giving d past

-- where passes are to be made and none has begun, it isn't decided that the devices are to stop
pub undecided_early : (D : Desc) (past : List Entry) → nat_lt 0 D.rounds ≡ true → pass_count past ≡ 0 → is_decided D past ≡ false
undecided_early D past rounds none =
    let some : D.rounds ≡ 0 → ⊥ = λ zero_. let more : 0 < D.rounds = ltb-true 0 D.rounds rounds in omega arith in
    rw (ne_eqb D.rounds 0 some, none) refl

-- a device is held where that is decided
hold_decided : (D : Desc) (past : List Entry) (e : ℕ) (to : MigState) → fault_of D past (Hold e to) ≡ None → is_decided D past ≡ true
hold_decided D past e to unbroken =
    let rest = met (may_be_held e past) Order ((is_decided D past, Decide) ∷ (is_next_to_stop_copy D e to past, Path) ∷ (is_quiet_for_hold D to past, Quiet) ∷ []) unbroken in
    (met (is_decided D past) Decide ((is_next_to_stop_copy D e to past, Path) ∷ (is_quiet_for_hold D to past, Quiet) ∷ []) rest.1).0

-- the ways that are open before a device stops, with what each asks for
pub data Way (D : Desc) (past : List Entry) (d : ℕ) (to : MigState) : Type 0 where
  entering : to ≡ PreCopy → has_pre_copy (shape_at D d).flags ≡ true → is_decided D past ≡ false → Way D past d to
  held : hold_of d past ≡ Some to → Way D past d to
  final : to ≡ StopCopy → state_of d past ≡ Stop → is_decided D past ≡ true → Way D past d to

held_state : (d : ℕ) (to : MigState) (past : List Entry) → is_held_for d to past ≡ true → hold_of d past ≡ Some to
held_state d to past test = go (hold_of d past) refl
  where
    go : (hold : Option MigState) → hold_of d past ≡ hold → hold_of d past ≡ Some to
    go None e = absurd (false≢true (rw e at test))
    go (Some state) e = e ∙ ap Some (same_is state to (rw e at test))

pub way_of : (D : Desc) (past : List Entry) (d : ℕ) (to : MigState) → is_way_open D d to past ≡ true → Way D past d to
way_of D past d to test =
    let from = state_of d past in
    let first = same_state from Running && same_state to PreCopy && has_pre_copy (shape_at D d).flags && nat_lt 0 D.rounds && pass_count past == 0 in
    let third = same_state from Stop && same_state to StopCopy && is_decided D past in
    ⊎_elim
    (λ (two : (first || is_held_for d to past) ≡ true).
    ⊎_elim
    (λ (one : first ≡ true).
    let four = and_parts (same_state from Running && same_state to PreCopy && has_pre_copy (shape_at D d).flags && nat_lt 0 D.rounds) (pass_count past == 0) one in
    let three = and_parts (same_state from Running && same_state to PreCopy && has_pre_copy (shape_at D d).flags) (nat_lt 0 D.rounds) four.0 in
    let parts = and_parts (same_state from Running && same_state to PreCopy) (has_pre_copy (shape_at D d).flags) three.0 in
    entering (same_is to PreCopy (and_parts (same_state from Running) (same_state to PreCopy) parts.0).1) parts.1
    (undecided_early D past three.1 (eqb-true (pass_count past) 0 four.1)))
    (λ (one : is_held_for d to past ≡ true). held (held_state d to past one)) (or_cases first (is_held_for d to past) two))
    (λ (two : third ≡ true).
    let parts = and_parts (same_state from Stop && same_state to StopCopy) (is_decided D past) two in
    let states = and_parts (same_state from Stop) (same_state to StopCopy) parts.0 in
    final (same_is to StopCopy states.1) (same_is from Stop states.0) parts.1)
    (or_cases (first || is_held_for d to past) third test)

-- what a device keeps that goes to this state before the move is over
way_keeps : (D : Desc) (past : List Entry) (d : ℕ) (to : MigState) → same_state (state_of d past) Error ≡ false → OnWay D d past
    → is_over past ≡ false → Way D past d to
    → (supports (shape_at D d).flags to ≡ true)
    × (nat_lt 0 D.rounds ≡ true → pass_count past ≡ 0 → is_early to ≡ true)
    × (same_state to Resuming ≡ false)
way_keeps D past d to known old open_ (entering pre has undecided) =
    (subst (λ (s : MigState). supports (shape_at D d).flags s ≡ true) (sym pre) has, λ rounds none. ap is_early pre, ap (λ (s : MigState). same_state s Resuming) pre)
way_keeps D past d to known old open_ (held hold) =
    let next = old.1 open_ to hold in (
      subst (λ (s : MigState). supports (shape_at D d).flags s ≡ true) (sym next) (out_is_had (state_of d past) (shape_at D d).flags known),
      λ rounds none. absurd (some_none to (sym hold ∙ (old.2 open_ rounds none).0)),
      ap (λ (s : MigState). same_state s Resuming) next ∙ out_not_resuming (state_of d past) (shape_at D d).flags known,
    )
way_keeps D past d to known old open_ (final last stopped decided) = (
  ap (supports (shape_at D d).flags) last,
  λ rounds none. absurd (true≢false (sym decided ∙ undecided_early D past rounds none)),
  ap (λ (s : MigState). same_state s Resuming) last,
)

arc_way : (D : Desc) (past : List Entry) (e : ℕ) (to : MigState) → same_state (state_of e past) Error ≡ false → OnWay D e past
    → is_right_arc D e to past ≡ true → (supports (shape_at D e).flags to ≡ true)
    × (is_over past ≡ false → nat_lt 0 D.rounds ≡ true → pass_count past ≡ 0 → is_early to ≡ true)
    × (is_over past ≡ false → same_state to Resuming ≡ false)
arc_way D past e to known old right =
    by_bool (is_over past)
    (λ b. is_over past ≡ b → (if b then is_arc_home D e to past else is_way_open D e to past && not (arc_count e past + 1 == (shape_at D e).fails)) ≡ true
    → (supports (shape_at D e).flags to ≡ true)
    × (is_over past ≡ false → nat_lt 0 D.rounds ≡ true → pass_count past ≡ 0 → is_early to ≡ true)
    × (is_over past ≡ false → same_state to Resuming ≡ false))
    (λ over f h.
    let next = same_is to (next_towards (state_of e past) Running (shape_at D e).flags)
    (and_parts (not (same_state (state_of e past) Running)) (is_next_towards D e Running to past) h).1 in (
      subst (λ (s : MigState). supports (shape_at D e).flags s ≡ true) (sym next) (home_is_had (state_of e past) (shape_at D e).flags known),
      λ open_. absurd (true≢false (sym f ∙ open_)),
      λ open_. absurd (true≢false (sym f ∙ open_)),
    ))
    (λ before f h.
    let kept = way_keeps D past e to known old f (way_of D past e to (and_parts (is_way_open D e to past) (not (arc_count e past + 1 == (shape_at D e).fails)) h).0) in
    (kept.0, λ open_. kept.1, λ open_. kept.2))
    refl right

none_some : {X : Type 0} (x : X) → None ≡ Some x → ⊥
none_some x same = cc

hold_on_way : (D : Desc) (past : List Entry) (e : ℕ) (to : MigState) → fault_of D past (Hold e to) ≡ None → (d : ℕ) → OnWay D d past
    → OnWay D d (Hold e to ∷ past)
hold_on_way D past e to unbroken d old = (
  old.0,
  λ open_ s.
      by_bool (e == d) (λ b. (e == d) ≡ b → (if b then Some to else hold_of d past) ≡ Some s → s ≡ next_towards (state_of d past) StopCopy (shape_at D d).flags)
      (λ same f h.
      sym (some_is to s h)
      ∙ subst (λ (k : ℕ). to ≡ next_towards (state_of k past) StopCopy (shape_at D k).flags) (eqb-true e d f) (hold_met D past e to unbroken).1)
      (λ other f h. old.1 open_ s h) refl,
  λ open_ rounds none. absurd (true≢false (sym (hold_decided D past e to unbroken) ∙ undecided_early D past rounds none)),
  old.3,
)

arc_on_way : (D : Desc) (past : List Entry) (e : ℕ) (to : MigState) → fault_of D past (Arc e to) ≡ None → (d : ℕ)
    → same_state (state_of d past) Error ≡ false → OnWay D d past → OnWay D d (Arc e to ∷ past)
arc_on_way D past e to unbroken d known old =
    by_bool (e == d)
    (λ b. (e == d) ≡ b
    → (supports (shape_at D d).flags (if b then to else state_of d past) ≡ true)
    × (is_over past ≡ false → (s : MigState) → (if b then None else hold_of d past) ≡ Some s
    → s ≡ next_towards (if b then to else state_of d past) StopCopy (shape_at D d).flags)
    × (is_over past ≡ false → nat_lt 0 D.rounds ≡ true → pass_count past ≡ 0
    → ((if b then None else hold_of d past) ≡ None) × (is_early (if b then to else state_of d past) ≡ true))
    × (is_over past ≡ false → same_state (if b then to else state_of d past) Resuming ≡ false))
    (λ same f.
    let right : is_right_arc D d to past ≡ true = subst (λ (k : ℕ). is_right_arc D k to past ≡ true) (eqb-true e d f) (arc_met D past e to unbroken).1 in
    let kept = arc_way D past d to known old right in
    (kept.0, λ open_ s h. absurd (none_some s h), λ open_ rounds none. (refl, kept.1 open_ rounds none), kept.2))
    (λ other f. old)
    refl

-- every legal list keeps it
pub on_way : (D : Desc) → IsValid D → (past : List Entry) → IsLegal D past → (d : ℕ) → d < device_count D → OnWay D d past
on_way D valid [] legal d inside = (refl, λ open_ to h. absurd (none_some to h), λ open_ rounds none. (refl, refl), λ open_. refl)
on_way D valid (Hold e to ∷ past) legal d inside = hold_on_way D past e to legal.1 d (on_way D valid past legal.2 d inside)
on_way D valid (Arc e to ∷ past) legal d inside =
    arc_on_way D past e to legal.1 d ((keeps_states D valid past legal.2).0 d inside).known (on_way D valid past legal.2 d inside)
on_way D valid (Pass k ∷ past) legal d inside =
    let old = on_way D valid past legal.2 d inside in
    (old.0, old.1, λ open_ rounds none. absurd (omega arith), old.3)
on_way D valid (Abort ∷ past) legal d inside =
    let old = on_way D valid past legal.2 d inside in
    (old.0, λ open_ to h. absurd (true≢false open_), λ open_ rounds none. absurd (true≢false open_), λ open_. absurd (true≢false open_))
on_way D valid (Resume ∷ past) legal d inside =
    let over : is_over (Resume ∷ past) ≡ true = or_right (is_aborted past) true refl in (
      refl,
      λ open_ to h. absurd (true≢false (sym over ∙ open_)),
      λ open_ rounds none. absurd (true≢false (sym over ∙ open_)),
      λ open_. absurd (true≢false (sym over ∙ open_)),
    )
on_way D valid (entry ∷ past) legal d inside = on_way D valid past legal.2 d inside
