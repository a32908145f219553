-- What an Issue keeps.
use Rattle.std.proofs.Common.{None, ◌≡◌, ℕ, ◌<◌, ◌==◌, List, ◌∷◌, refl, subst, eqb-true, Some, Option, Bool, true, false, not, ◌&&◌, ◌||◌, [], ◌++◌, ◌∙◌, ⊎_elim, unwrap_or}
use Rattle.vfm_types.specs.declared.desc.Desc.{Desc}
use Rattle.vfm_types.specs.declared.entry.Entry.{Entry}
use Rattle.vfm_types.specs.declared.entry.Entry.TheVariants.{Issue}
use Rattle.vfm_types.specs.Desc.{device_count, job_at}
use Rattle.vfm_types.specs.Machine.{device_of}
use Rattle.vfm_types.specs.Deliveries.{machine_of}
use Rattle.vfm_types.specs.Outstanding.{outstanding_of, issue_if, Outstanding}
use Rattle.vfm_plain.specs.Rules.{fault_of}
use Rattle.vfm_plain.specs.IssueRules.{is_request_allowed}
use Rattle.vfm_laws.specs.Queues.{QueueKept, KeepsQueues}
use Rattle.vfm_laws.proofs.Rising.{by_bool}
use Rattle.vfm_laws.proofs.Conditions.{HasTurn, issue_met}
use Rattle.vfm_laws.proofs.Queued.{issued, queue_issued}
use Rattle.std.proofs.lemmas.Bool.{or_cases, and_parts, not-true, or_from, both_ways}
use Rattle.std.proofs.lemmas.List.Folds.{list_any-append}
use Rattle.vfm_types.specs.declared.state.MigState.{MigState}
use Rattle.vfm_types.specs.Arcs.{state_of, hold_of, is_running, is_p2p, is_stopped}
use Rattle.vfm_types.specs.Words.{is_barred, has_barred}
use Rattle.vfm_laws.specs.Standing.{is_hold_step, StateKept, EachStands, KeepsStates}
use Rattle.vfm_laws.proofs.Steps.{hold_awake, hold_slow, running_awake, p2p_awake}

pub issue_keeps_queues : (D : Desc) (past : List Entry) (e n : ℕ) → fault_of D past (Issue e n) ≡ None → KeepsQueues D past → KeepsQueues D (Issue e n ∷ past)
issue_keeps_queues D past e n unbroken kept = (kept.0, each)
  where
    each : (d : ℕ) → d < device_count D → QueueKept D d (device_of (machine_of D past) d) (outstanding_of D d (Issue e n ∷ past))
    each d inside =
        let device = device_of (machine_of D past) d in
        let requests = outstanding_of D d past in
        by_bool (e == d) (λ b. (e == d) ≡ b → QueueKept D d device (issue_if b (issued n device) requests))
        (λ same f. queue_issued D d n device requests (kept.1 d inside)
        (subst (λ (k : ℕ). HasTurn D k n (device_of (machine_of D past) k) (outstanding_of D k past)) (eqb-true e d f) (issue_met D past e n unbroken).0))
        (λ other f. kept.1 d inside) refl

-- what the level allows, the state does: the device isn't stopped, and is in a running state where the job is barred
allowed_state : (state : MigState) (hold : Option MigState) (barred : Bool) → ((to : MigState) → hold ≡ Some to → is_hold_step state to ≡ true)
    → (is_running (unwrap_or hold state) || (is_p2p (unwrap_or hold state) && not barred)) ≡ true
    → (is_stopped state ≡ false) × (is_running state ≡ false → barred ≡ false)
allowed_state state None barred held allowed =
    ⊎_elim (λ (running : is_running state ≡ true). (running_awake state running, (λ slow. absurd (both_ways (is_running state) slow running))))
    (λ (tame : (is_p2p state && not barred) ≡ true).
    let parts = and_parts (is_p2p state) (not barred) tame in (p2p_awake state parts.0, (λ slow. not-true barred parts.1)))
    (or_cases (is_running state) (is_p2p state && not barred) allowed)
allowed_state state (Some to) barred held allowed =
    let step = held to refl in
    ⊎_elim (λ (running : is_running to ≡ true). absurd (both_ways (is_running to) (hold_slow state to step) running))
    (λ (tame : (is_p2p to && not barred) ≡ true).
    (hold_awake state to step, (λ slow. not-true barred (and_parts (is_p2p to) (not barred) tame).1)))
    (or_cases (is_running to) (is_p2p to && not barred) allowed)

pub issue_keeps_states : (D : Desc) (past : List Entry) (e n : ℕ) → fault_of D past (Issue e n) ≡ None → KeepsStates D past → KeepsStates D (Issue e n ∷ past)
issue_keeps_states D past e n unbroken kept = (each, kept.1, kept.2)
  where
    own : (d : ℕ) → d < device_count D → is_request_allowed D d n past ≡ true
        → StateKept D d (state_of d past) (hold_of d past) (outstanding_of D d past ++ issued n (device_of (machine_of D past) d) ∷ [])
    own d inside going =
        let old = kept.0 d inside in
        let request = issued n (device_of (machine_of D past) d) in
        let allowed = allowed_state (state_of d past) (hold_of d past) (is_barred D d (job_at D d request.job)) old.held going in
        record {
          known = old.known;
          held = old.held;
          still = λ still. absurd (both_ways (is_stopped (state_of d past)) allowed.0 still);
          unbarred = λ slow.
              list_any-append (λ (r : Outstanding). is_barred D d (job_at D d r.job)) (outstanding_of D d past) (request ∷ [])
              ∙ or_from (has_barred D d (outstanding_of D d past)) (is_barred D d (job_at D d request.job) || false) (old.unbarred slow)
              (or_from (is_barred D d (job_at D d request.job)) false (allowed.1 slow) refl);
        }

    each : EachStands D (Issue e n ∷ past)
    each d inside =
        by_bool (e == d)
        (λ b. (e == d) ≡ b → StateKept D d (state_of d past) (hold_of d past) (issue_if b (issued n (device_of (machine_of D past) d)) (outstanding_of D d past)))
        (λ same f. own d inside (subst (λ (k : ℕ). is_request_allowed D k n past ≡ true) (eqb-true e d f) (issue_met D past e n unbroken).1))
        (λ other f. kept.0 d inside) refl
