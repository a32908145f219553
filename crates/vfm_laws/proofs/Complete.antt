-- What a Complete keeps.
use Rattle.std.proofs.Common.{None, ◌≡◌, ℕ, ◌<◌, ◌==◌, true, List, ◌∷◌, refl, subst, eqb-true, Bool, false, [], ap, ◌∙◌}
use Rattle.vfm_types.specs.declared.desc.Desc.{Desc}
use Rattle.vfm_types.specs.declared.entry.Entry.{Entry}
use Rattle.vfm_types.specs.declared.entry.Entry.TheVariants.{Complete}
use Rattle.vfm_types.specs.Desc.{device_count, job_at}
use Rattle.vfm_types.specs.Machine.{device_of}
use Rattle.vfm_types.specs.Deliveries.{machine_of}
use Rattle.vfm_types.specs.Outstanding.{outstanding_of, complete_if, is_arrived}
use Rattle.vfm_plain.specs.Rules.{fault_of}
use Rattle.vfm_laws.specs.Queues.{QueueKept, KeepsQueues}
use Rattle.vfm_laws.proofs.Rising.{by_bool}
use Rattle.vfm_laws.proofs.Conditions.{complete_met}
use Rattle.vfm_laws.proofs.Queued.{queue_completed}
use Rattle.vfm_types.specs.Words.{is_barred}
use Rattle.vfm_laws.specs.Standing.{EachStands, KeepsStates}
use Rattle.vfm_laws.proofs.Waiting.{completed_test}

pub complete_keeps_queues : (D : Desc) (past : List Entry) (e n : ℕ) → fault_of D past (Complete e n) ≡ None → KeepsQueues D past → KeepsQueues D (Complete e n ∷ past)
complete_keeps_queues D past e n unbroken kept = (kept.0, each)
  where
    each : (d : ℕ) → d < device_count D → QueueKept D d (device_of (machine_of D past) d) (outstanding_of D d (Complete e n ∷ past))
    each d inside =
        let device = device_of (machine_of D past) d in
        let requests = outstanding_of D d past in
        by_bool (e == d) (λ b. (e == d) ≡ b → QueueKept D d device (complete_if b n requests))
        (λ same f. queue_completed D d n device requests (kept.1 d inside)
        (subst (λ (k : ℕ). is_arrived n (outstanding_of D k past) ≡ true) (eqb-true e d f) (complete_met D past e n unbroken)))
        (λ other f. kept.1 d inside) refl

complete_none : (b : Bool) (n : ℕ) → complete_if b n [] ≡ []
complete_none true n = refl
complete_none false n = refl

pub complete_keeps_states : (D : Desc) (past : List Entry) (e n : ℕ) → KeepsStates D past → KeepsStates D (Complete e n ∷ past)
complete_keeps_states D past e n kept = (each, kept.1, kept.2)
  where
    each : EachStands D (Complete e n ∷ past)
    each d inside =
        let old = kept.0 d inside in
        record {
          known = old.known;
          held = old.held;
          still = λ still. ap (complete_if (e == d) n) (old.still still) ∙ complete_none (e == d) n;
          unbarred = λ slow. completed_test (λ j. is_barred D d (job_at D d j)) (e == d) n (outstanding_of D d past) (old.unbarred slow);
        }
