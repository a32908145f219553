-- What a Hold keeps.
use Rattle.std.proofs.Common.{None, Some, ◌≡◌, ℕ, ◌<◌, ◌==◌, true, if◌then◌else◌, List, ◌∷◌, refl, sym, subst, eqb-true}
use Rattle.vfm_types.specs.declared.desc.Desc.{Desc}
use Rattle.vfm_types.specs.declared.entry.Entry.{Entry}
use Rattle.vfm_types.specs.declared.entry.Entry.TheVariants.{Hold}
use Rattle.vfm_types.specs.Desc.{device_count, shape_at}
use Rattle.vfm_types.specs.Outstanding.{outstanding_of}
use Rattle.vfm_plain.specs.Rules.{fault_of}
use Rattle.vfm_laws.proofs.Rising.{by_bool}
use Rattle.vfm_types.specs.declared.state.MigState.{MigState}
use Rattle.vfm_types.specs.Arcs.{state_of, hold_of}
use Rattle.vfm_laws.specs.Standing.{is_hold_step, StateKept, EachStands, KeepsStates}
use Rattle.vfm_laws.proofs.Conditions.{hold_met}
use Rattle.vfm_laws.proofs.Steps.{hold_step}

pub hold_keeps_states : (D : Desc) (past : List Entry) (e : ℕ) (to : MigState) → fault_of D past (Hold e to) ≡ None → KeepsStates D past
    → KeepsStates D (Hold e to ∷ past)
hold_keeps_states D past e to unbroken kept = (each, kept.1, kept.2)
  where
    some_is : (a b : MigState) → Some a ≡ Some b → a ≡ b
    some_is a b same = cc

    own : e < device_count D → is_hold_step (state_of e past) to ≡ true
    own inside =
        let conditions = hold_met D past e to unbroken in
        subst (λ (next : MigState). is_hold_step (state_of e past) next ≡ true) (sym conditions.1)
        (hold_step (state_of e past) (shape_at D e).flags conditions.0 (kept.0 e inside).known)

    each : EachStands D (Hold e to ∷ past)
    each d inside =
        let old = kept.0 d inside in
        by_bool (e == d) (λ b. (e == d) ≡ b → StateKept D d (state_of d past) (if b then Some to else hold_of d past) (outstanding_of D d past))
        (λ same f. record {
          known = old.known;
          held = λ next is_next.
              let equal : e ≡ d = eqb-true e d f in
              let step : is_hold_step (state_of d past) to ≡ true =
              subst (λ (k : ℕ). is_hold_step (state_of k past) to ≡ true) equal (own (subst (λ (k : ℕ). k < device_count D) (sym equal) inside)) in
              subst (λ (s : MigState). is_hold_step (state_of d past) s ≡ true) (some_is to next is_next) step;
          still = old.still;
          unbarred = old.unbarred;
        })
        (λ other f. old) refl
