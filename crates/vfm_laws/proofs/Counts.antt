-- How many requests were issued and completed, how many passes begun, how many arcs made.
use Rattle.std.proofs.Common.{◌≡◌, ℕ, suc, ◌+◌, ◌<◌, ◌≤◌, ◌==◌, true, false, not, ◌&&◌, ◌||◌, if◌then◌else◌, List, [], ◌∷◌, ◌++◌, length, nat_lt, nat_le, None, refl, ap, sym, ◌∙◌, subst, arith, eqb-true, ltb-true, ltb-false, leb-false}
use Rattle.std.proofs.lemmas.Bool.{and_parts, or_parts, or_left, not-true, and_from, both_ways, false≢true, true≢false, eqb-false}
use Rattle.std.proofs.lemmas.List.{length_push, length-append, get_or-map}
use Rattle.vfm_types.specs.declared.desc.Desc.{Desc}
use Rattle.vfm_types.specs.declared.entry.Entry.{Entry}
use Rattle.vfm_types.specs.declared.entry.Entry.TheVariants.{Issue, Deliver, Complete, Pass}
use Rattle.vfm_types.specs.State.{has_pre_copy}
use Rattle.vfm_types.specs.declared.state.MigState.TheVariants.{PreCopy}
use Rattle.vfm_types.specs.Paths.{same_state}
use Rattle.vfm_base.specs.Least.{all_below}
use Rattle.vfm_types.specs.Arcs.{state_of}
use Rattle.vfm_types.specs.Phases.{is_joint, is_last_begun, pass_count}
use Rattle.vfm_types.specs.Marks.{set_size}
use Rattle.vfm_types.specs.Blocks.{is_no_pass_open}
use Rattle.vfm_types.specs.Words.{is_decided}
use Rattle.vfm_plain.specs.Rules.{fault_of}
use Rattle.vfm_types.specs.Desc.{device_count, shape_at, no_shape}
use Rattle.vfm_types.specs.Machine.{DeviceState, Machine, device_of, no_device, with_device, described_device}
use Rattle.vfm_types.specs.Requests.{taken, without, do_request, job_of}
use Rattle.vfm_types.specs.Deliveries.{machine_of}
use Rattle.vfm_types.specs.Outstanding.{Outstanding, outstanding_of, issue_if, deliver_if, complete_if, is_undelivered, is_arrived, issue_count, complete_count}
use Rattle.vfm_types.specs.Valid.{IsValid}
use Rattle.vfm_plain.specs.Legal.{IsLegal}
use Rattle.vfm_laws.specs.Queues.{device_after, waiting}
use Rattle.vfm_laws.proofs.Rising.{by_bool, length_without}
use Rattle.vfm_laws.proofs.Waiting.{issued_waiting, delivered_waiting, completed_waiting, undelivered_listed, delivered_length}
use Rattle.vfm_laws.proofs.Effects.{device_changed, device_other, effect_grown}
use Rattle.vfm_laws.proofs.Conditions.{deliver_met, complete_met, pass_met}
use Rattle.vfm_laws.proofs.Queued.{issued}
use Rattle.vfm_laws.proofs.KeptQueues.{keeps_queues}

length_completed : (n : ℕ) (requests : List Outstanding) → is_arrived n requests ≡ true → length requests ≡ length (complete_if true n requests) + 1
length_completed n [] arrived = absurd (false≢true arrived)
length_completed n (r ∷ requests) arrived =
    by_bool (r.number == n)
    (λ c. (if c then r.is_delivered else is_arrived n requests) ≡ true → suc (length requests) ≡ length (if c then requests else r ∷ complete_if true n requests) + 1)
    (λ same h. omega arith)
    (λ other h. let rest : length requests ≡ length (complete_if true n requests) + 1 = length_completed n requests h in omega arith) arrived

-- issued requests are completed or outstanding
pub issued_completed : (D : Desc) (past : List Entry) (d : ℕ) → IsLegal D past → issue_count d past ≡ complete_count d past + length (outstanding_of D d past)
issued_completed D [] d legal = omega arith
issued_completed D (Issue e n ∷ past) d legal =
    let request = issued n (device_of (machine_of D past) d) in
    let requests = outstanding_of D d past in
    let before : issue_count d past ≡ complete_count d past + length requests = issued_completed D past d legal.2 in
    by_bool (e == d) (λ b. issue_count d past + (if b then 1 else 0) ≡ complete_count d past + length (issue_if b request requests))
    (λ same. let longer : length (requests ++ request ∷ []) ≡ length requests + 1 = length_push requests request in omega arith)
    (λ other. omega arith)
issued_completed D (Deliver e n ∷ past) d legal =
    issued_completed D past d legal.2 ∙ ap (λ (k : ℕ). complete_count d past + k) (sym (delivered_length (e == d) n (outstanding_of D d past)))
issued_completed D (Complete e n ∷ past) d legal =
    let requests = outstanding_of D d past in
    let before : issue_count d past ≡ complete_count d past + length requests = issued_completed D past d legal.2 in
    by_bool (e == d) (λ b. (e == d) ≡ b → issue_count d past ≡ complete_count d past + (if b then 1 else 0) + length (complete_if b n requests))
    (λ same f.
    let arrived = subst (λ (k : ℕ). is_arrived n (outstanding_of D k past) ≡ true) (eqb-true e d f) (complete_met D past e n legal.1) in
    let shorter : length requests ≡ length (complete_if true n requests) + 1 = length_completed n requests arrived in omega arith)
    (λ other f. omega arith) refl
issued_completed D (entry ∷ past) d legal = issued_completed D past d legal.2

-- the count of done requests after one of device e is done
done_after : (D : Desc) (m : Machine) (e n d : ℕ) → e < length m.devices
    → (device_of (do_request D m e n) d).done ≡ (device_of m d).done + (if e == d then 1 else 0)
done_after D m e n d inside =
    let middle = with_device m e (taken (device_of m e) n) in
    let kept : (device_of (do_request D m e n) d).done ≡ (device_of middle d).done = (effect_grown D middle e (job_of D m e n) d).done in
    kept ∙ by_bool (e == d) (λ b. (e == d) ≡ b → (device_of middle d).done ≡ (device_of m d).done + (if b then 1 else 0))
    (λ same f. subst (λ (k : ℕ). (device_of middle k).done ≡ (device_of m k).done + 1) (eqb-true e d f)
    (ap (λ (device : DeviceState). device.done) (device_changed m e (taken (device_of m e) n) inside)))
    (λ other f.
    let same : device_of middle d ≡ device_of m d = device_other m e (taken (device_of m e) n) d (λ equal. eqb-false e d f (sym equal)) in
    let done : (device_of middle d).done ≡ (device_of m d).done = ap (λ (device : DeviceState). device.done) same in omega arith) refl

-- nothing is done at the start
described_done : (D : Desc) → IsValid D → (d : ℕ) → d < device_count D → 0 ≡ (device_after D d []).done + 0
described_done D valid d inside =
    let same = get_or-map described_device D.devices d no_shape no_device inside in
    let none : (device_after D d []).done ≡ 0 = ap (λ (device : DeviceState). device.done) same in omega arith

-- issued requests are done or wait for their delivery
pub issued_done : (D : Desc) → IsValid D → (past : List Entry) (d : ℕ) → IsLegal D past → d < device_count D
    → issue_count d past ≡ (device_after D d past).done + length (waiting (outstanding_of D d past))
issued_done D valid [] d legal inside = described_done D valid d inside
issued_done D valid (Issue e n ∷ past) d legal inside =
    let request = issued n (device_of (machine_of D past) d) in
    let requests = outstanding_of D d past in
    let before : issue_count d past ≡ (device_after D d past).done + length (waiting requests) = issued_done D valid past d legal.2 inside in
    by_bool (e == d) (λ b. issue_count d past + (if b then 1 else 0) ≡ (device_after D d past).done + length (waiting (issue_if b request requests)))
    (λ same.
    let longer : length (waiting (requests ++ request ∷ [])) ≡ length (waiting requests) + 1 =
    ap (length {A = ℕ × ℕ}) (issued_waiting request requests refl) ∙ length_push (waiting requests) (request.number, request.job) in omega arith)
    (λ other. omega arith)
issued_done D valid (Deliver e n ∷ past) d legal inside =
    let requests = outstanding_of D d past in
    let after = device_of (do_request D (machine_of D past) e n) d in
    let before : issue_count d past ≡ (device_after D d past).done + length (waiting requests) = issued_done D valid past d legal.2 inside in
    let issuer : e < length (machine_of D past).devices =
    subst (λ (k : ℕ). e < k) (sym (keeps_queues D valid past legal.2).0) (ltb-true e (device_count D) legal.0) in
    let done = done_after D (machine_of D past) e n d issuer in
    by_bool (e == d)
    (λ b. (e == d) ≡ b → after.done ≡ (device_after D d past).done + (if b then 1 else 0) → issue_count d past ≡ after.done + length (waiting (deliver_if b n requests)))
    (λ same f g.
    let undelivered = subst (λ (k : ℕ). is_undelivered n (outstanding_of D k past) ≡ true) (eqb-true e d f) (deliver_met D past e n legal.1) in
    let shorter : length (waiting requests) ≡ length (without n (waiting requests)) + 1 = length_without n (waiting requests) (undelivered_listed n requests undelivered) in
    let taken_out : length (waiting (deliver_if true n requests)) ≡ length (without n (waiting requests)) =
    ap (length {A = ℕ × ℕ}) (delivered_waiting n requests undelivered) in omega arith)
    (λ other f g. omega arith) refl done
issued_done D valid (Complete e n ∷ past) d legal inside =
    let requests = outstanding_of D d past in
    let before : issue_count d past ≡ (device_after D d past).done + length (waiting requests) = issued_done D valid past d legal.2 inside in
    by_bool (e == d) (λ b. (e == d) ≡ b → issue_count d past ≡ (device_after D d past).done + length (waiting (complete_if b n requests)))
    (λ same f.
    let arrived = subst (λ (k : ℕ). is_arrived n (outstanding_of D k past) ≡ true) (eqb-true e d f) (complete_met D past e n legal.1) in
    let kept : length (waiting (complete_if true n requests)) ≡ length (waiting requests) = ap (length {A = ℕ × ℕ}) (completed_waiting n requests arrived) in omega arith)
    (λ other f. before) refl
issued_done D valid (entry ∷ past) d legal inside = issued_done D valid past d legal.2 inside

-- no more are issued than were accepted
pub issued_within : (D : Desc) (past : List Entry) (d : ℕ) → IsValid D → IsLegal D past → d < device_count D → issue_count d past ≤ (device_after D d past).accepted
issued_within D past d valid legal inside =
    let kept = (keeps_queues D valid past legal).1 d inside in
    let count : (device_after D d past).accepted ≡ (device_after D d past).done + length (device_after D d past).pending = kept.count in
    let split : length (device_after D d past).pending ≡ length (waiting (outstanding_of D d past)) + length kept.rest =
    ap (length {A = ℕ × ℕ}) kept.pending ∙ length-append (waiting (outstanding_of D d past)) kept.rest in
    let done : issue_count d past ≡ (device_after D d past).done + length (waiting (outstanding_of D d past)) = issued_done D valid past d legal inside in
    omega arith

-- Passes: at most `rounds` before the last, which is one more.
FewPasses : Desc → List Entry → Type 0
FewPasses D past = (is_last_begun past ≡ false → pass_count past ≤ D.rounds) × (pass_count past ≤ D.rounds + 1)

undecided_more : (D : Desc) (past : List Entry) → is_no_pass_open D past ≡ true → is_decided D past ≡ false → pass_count past + 1 ≤ D.rounds
undecided_more D past ended undecided =
    let parts = or_parts (D.rounds == 0) (nat_lt 0 (pass_count past) && is_no_pass_open D past && (nat_le D.rounds (pass_count past) || nat_le (set_size D past) D.threshold)) undecided in
    let some : D.rounds ≡ 0 → ⊥ = eqb-false D.rounds 0 parts.0 in
    by_bool (nat_lt 0 (pass_count past)) (λ b. nat_lt 0 (pass_count past) ≡ b → pass_count past + 1 ≤ D.rounds)
    (λ begun f.
    by_bool (nat_le D.rounds (pass_count past)) (λ c. nat_le D.rounds (pass_count past) ≡ c → pass_count past + 1 ≤ D.rounds)
    (λ enough g. absurd (both_ways
    (nat_lt 0 (pass_count past) && is_no_pass_open D past && (nat_le D.rounds (pass_count past) || nat_le (set_size D past) D.threshold)) parts.1
    (and_from (nat_lt 0 (pass_count past) && is_no_pass_open D past) (nat_le D.rounds (pass_count past) || nat_le (set_size D past) D.threshold)
    (and_from (nat_lt 0 (pass_count past)) (is_no_pass_open D past) f ended) (or_left (nat_le D.rounds (pass_count past)) (nat_le (set_size D past) D.threshold) g))))
    (λ more g. let above : pass_count past < D.rounds = leb-false D.rounds (pass_count past) g in omega arith) refl)
    (λ none f. let first : pass_count past ≤ 0 = ltb-false 0 (pass_count past) f in grind (arith, some, first)) refl

pass_keeps : (D : Desc) (past : List Entry) (k : ℕ) → fault_of D past (Pass k) ≡ None → FewPasses D past → FewPasses D (Pass k ∷ past)
unfolding FewPasses
pass_keeps D past k unbroken few =
    let wanted = (pass_met D past k unbroken).1 in
    let ended = (pass_met D past k unbroken).0 in
    by_bool (is_joint past)
    (λ b. (if b then not (is_last_begun past) else not (is_decided D past)
    && (not (k == 1) || all_below (device_count D) (λ d. not (has_pre_copy (shape_at D d).flags) || same_state (state_of d past) PreCopy))) ≡ true
    → (b ≡ false → pass_count past + 1 ≤ D.rounds) × (pass_count past + 1 ≤ D.rounds + 1))
    (λ joint h.
    let before : pass_count past ≤ D.rounds = few.0 (not-true (is_last_begun past) h) in
    ((λ never. absurd (true≢false never)), omega arith))
    (λ open_ h.
    let more : pass_count past + 1 ≤ D.rounds = undecided_more D past ended
    (not-true (is_decided D past) (and_parts (not (is_decided D past))
    (not (k == 1) || all_below (device_count D) (λ d. not (has_pre_copy (shape_at D d).flags) || same_state (state_of d past) PreCopy)) h).0) in
    ((λ same. more), omega arith)) wanted

few_passes : (D : Desc) (past : List Entry) → IsLegal D past → FewPasses D past
unfolding FewPasses
few_passes D [] legal = ((λ same. omega arith), omega arith)
few_passes D (Pass k ∷ past) legal = pass_keeps D past k legal.1 (few_passes D past legal.2)
few_passes D (entry ∷ past) legal = few_passes D past legal.2

pub passes_before_last : (D : Desc) (past : List Entry) → IsLegal D past → is_last_begun past ≡ false → pass_count past ≤ D.rounds
unfolding FewPasses
passes_before_last D past legal = (few_passes D past legal).0

pub passes_in_all : (D : Desc) (past : List Entry) → IsLegal D past → pass_count past ≤ D.rounds + 1
unfolding FewPasses
passes_in_all D past legal = (few_passes D past legal).1
