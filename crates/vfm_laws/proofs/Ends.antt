-- What Joint, Abort and Resume keep.
use Rattle.std.proofs.Common.{None, Some, ◌≡◌, List, ◌∷◌, refl, ap, sym, ◌∙◌}
use Rattle.std.proofs.lemmas.Bool.{false≢true, true≢false}
use Rattle.vfm_types.specs.declared.desc.Desc.{Desc}
use Rattle.vfm_types.specs.declared.entry.Entry.{Entry}
use Rattle.vfm_types.specs.declared.entry.Entry.TheVariants.{Joint, Abort, Resume}
use Rattle.vfm_plain.specs.Rules.{fault_of}
use Rattle.vfm_types.specs.declared.state.MigState.{MigState}
use Rattle.vfm_types.specs.declared.state.MigState.TheVariants.{StopCopy}
use Rattle.vfm_types.specs.Arcs.{state_of, is_running, is_stopped}
use Rattle.vfm_laws.specs.Standing.{is_hold_step, EachStands, KeepsStates}
use Rattle.vfm_laws.proofs.Conditions.{joint_met, resume_met}

pub joint_keeps_states : (D : Desc) (past : List Entry) → fault_of D past Joint ≡ None → KeepsStates D past → KeepsStates D (Joint ∷ past)
joint_keeps_states D past unbroken kept = (kept.0, kept.1, (λ joint aborted resumed d inside. joint_met D past unbroken d inside))

pub abort_keeps_states : (D : Desc) (past : List Entry) → KeepsStates D past → KeepsStates D (Abort ∷ past)
abort_keeps_states D past kept = (each, kept.1, (λ joint aborted resumed d inside. absurd (true≢false aborted)))
  where
    none_some : (to : MigState) → None ≡ Some to → ⊥
    none_some to same = cc

    each : EachStands D (Abort ∷ past)
    each d inside =
        let old = kept.0 d inside in
        record { known = old.known; held = λ to same. absurd (none_some to same); still = old.still; unbarred = old.unbarred }

pub resume_keeps_states : (D : Desc) (past : List Entry) → fault_of D past Resume ≡ None → KeepsStates D past → KeepsStates D (Resume ∷ past)
resume_keeps_states D past unbroken kept =
    (each, (λ d e inside_d inside_e still. refl), (λ joint aborted resumed d inside. absurd (true≢false resumed)))
  where
    each : EachStands D (Resume ∷ past)
    each d inside =
        let old = kept.0 d inside in
        let conditions = resume_met D past unbroken in
        let stands : state_of d past ≡ StopCopy = kept.2 conditions.0 conditions.1 conditions.2 d inside in
        record {
          known = refl;
          held = λ to same. absurd (false≢true (ap (λ (s : MigState). is_hold_step s to) (sym stands) ∙ old.held to same));
          still = λ still. old.still (ap is_stopped stands);
          unbarred = λ slow. old.unbarred (ap is_running stands);
        }
