-- What a Deliver keeps.
use Rattle.std.proofs.Common.{None, ◌≡◌, ℕ, ◌<◌, ◌==◌, true, List, ◌∷◌, length, refl, sym, ◌∙◌, subst, eqb-true, ltb-true, Bool, false, [], ap}
use Rattle.std.proofs.lemmas.Bool.{eqb-false}
use Rattle.vfm_types.specs.declared.desc.Desc.{Desc}
use Rattle.vfm_types.specs.declared.entry.Entry.{Entry}
use Rattle.vfm_types.specs.declared.entry.Entry.TheVariants.{Deliver}
use Rattle.vfm_types.specs.Desc.{device_count, job_at}
use Rattle.vfm_types.specs.Machine.{DeviceState, Machine, device_of, with_device}
use Rattle.vfm_types.specs.Requests.{taken, job_of, do_request}
use Rattle.vfm_types.specs.Deliveries.{machine_of}
use Rattle.vfm_types.specs.Outstanding.{outstanding_of, deliver_if}
use Rattle.vfm_plain.specs.Legal.{is_entry_of}
use Rattle.vfm_plain.specs.Rules.{fault_of}
use Rattle.vfm_laws.specs.Queues.{QueueKept, KeepsQueues}
use Rattle.vfm_laws.proofs.Rising.{by_bool}
use Rattle.vfm_laws.proofs.Effects.{device_changed, device_other, device_count_kept, effect_grown, effect_count}
use Rattle.vfm_laws.proofs.Conditions.{deliver_met}
use Rattle.vfm_laws.proofs.Queued.{queue_taken, queue_grown}
use Rattle.vfm_types.specs.Words.{is_barred}
use Rattle.vfm_laws.specs.Standing.{EachStands, KeepsStates}
use Rattle.vfm_laws.proofs.Waiting.{delivered_test}

pub deliver_keeps_queues : (D : Desc) (past : List Entry) (e n : ℕ) → is_entry_of D (Deliver e n) ≡ true → fault_of D past (Deliver e n) ≡ None
    → KeepsQueues D past → KeepsQueues D (Deliver e n ∷ past)
deliver_keeps_queues D past e n entry unbroken kept = (count, each)
  where
    here : Machine
    here = machine_of D past

    before : DeviceState
    before = taken (device_of here e) n

    middle : Machine
    middle = with_device here e before

    after : Machine
    after = do_request D here e n

    count : length after.devices ≡ device_count D
    count = effect_count D middle e (job_of D here e n) ∙ device_count_kept here e before ∙ kept.0

    issuer : e < device_count D
    issuer = ltb-true e (device_count D) entry

    own : QueueKept D e (device_of after e) (deliver_if true n (outstanding_of D e past))
    own =
        let requests = outstanding_of D e past in
        let taken_kept = queue_taken D e n (device_of here e) requests (kept.1 e issuer) (deliver_met D past e n unbroken) in
        let placed = device_changed here e before (subst (λ (k : ℕ). e < k) (sym kept.0) issuer) in
        queue_grown D e (device_of middle e) (device_of after e) (deliver_if true n requests)
        (subst (λ (device : DeviceState). QueueKept D e device (deliver_if true n requests)) (sym placed) taken_kept)
        (effect_grown D middle e (job_of D here e n) e)

    each : (d : ℕ) → d < device_count D → QueueKept D d (device_of after d) (outstanding_of D d (Deliver e n ∷ past))
    each d inside =
        let requests = outstanding_of D d past in
        by_bool (e == d) (λ b. (e == d) ≡ b → QueueKept D d (device_of after d) (deliver_if b n requests))
        (λ same f. subst (λ (k : ℕ). QueueKept D k (device_of after k) (deliver_if true n (outstanding_of D k past))) (eqb-true e d f) own)
        (λ other f.
        let placed = device_other here e before d (λ equal. eqb-false e d f (sym equal)) in
        queue_grown D d (device_of middle d) (device_of after d) requests
        (subst (λ (device : DeviceState). QueueKept D d device requests) (sym placed) (kept.1 d inside))
        (effect_grown D middle e (job_of D here e n) d)) refl

deliver_none : (b : Bool) (n : ℕ) → deliver_if b n [] ≡ []
deliver_none true n = refl
deliver_none false n = refl

pub deliver_keeps_states : (D : Desc) (past : List Entry) (e n : ℕ) → KeepsStates D past → KeepsStates D (Deliver e n ∷ past)
deliver_keeps_states D past e n kept = (each, kept.1, kept.2)
  where
    each : EachStands D (Deliver e n ∷ past)
    each d inside =
        let old = kept.0 d inside in
        record {
          known = old.known;
          held = old.held;
          still = λ still. ap (deliver_if (e == d) n) (old.still still) ∙ deliver_none (e == d) n;
          unbarred = λ slow. delivered_test (λ j. is_barred D d (job_at D d j)) (e == d) n (outstanding_of D d past) ∙ old.unbarred slow;
        }
