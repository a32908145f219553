-- A request that waits for its delivery is enabled in the plain machine, so the plain machine of a legal list exists.
use Rattle.std.proofs.Common.{◌<◌, ◌≡◌, ℕ, zero, suc, ◌≤◌, ◌==◌, Bool, true, false, not, ◌||◌, if◌then◌else◌, List, [], ◌∷◌, ◌++◌, length, reverse, Some, None, refl, ap, sym, ◌∙◌, subst, arith, ltb-true}
use Rattle.std.proofs.lemmas.Bool.{or_parts, or_right, not_from_false, false≢true, cond-true}
use Rattle.std.proofs.lemmas.List.{append-nil}
use Rattle.std.proofs.lemmas.Grind.{reverse_onto}
use Rattle.std.specs.List.{list_any}
use Rattle.vfm_types.specs.declared.desc.Desc.{Desc}
use Rattle.vfm_types.specs.declared.entry.Entry.{Entry}
use Rattle.vfm_types.specs.declared.entry.Entry.TheVariants.{Deliver}
use Rattle.vfm_types.specs.Desc.{device_count, shape_at}
use Rattle.vfm_types.specs.Machine.{DeviceState, Machine, device_of, described}
use Rattle.vfm_types.specs.Requests.{fences, is_free, is_enabled, do_request, plain_from, plain}
use Rattle.vfm_types.specs.Deliveries.{machine_of, delivers}
use Rattle.vfm_types.specs.Outstanding.{Outstanding, outstanding_of, is_undelivered}
use Rattle.vfm_types.specs.Words.{has_fence}
use Rattle.vfm_types.specs.Valid.{IsValid}
use Rattle.vfm_plain.specs.Legal.{IsLegal}
use Rattle.vfm_plain.specs.Shape.{IsSound}
use Rattle.vfm_plain.proofs.Effects.{sound_plain}
use Rattle.vfm_laws.specs.Queues.{waiting, is_listed, QueueKept}
use Rattle.vfm_laws.proofs.Rising.{by_bool}
use Rattle.vfm_laws.proofs.Waiting.{undelivered_listed, waiting_length, waiting_test}
use Rattle.vfm_laws.proofs.Conditions.{deliver_met}
use Rattle.vfm_laws.proofs.KeptQueues.{keeps_queues}

-- among requests without a fence each is free
free_among : (fence : ℕ → Bool) (first : Bool) (window : ℕ) (requests rest : List (ℕ × ℕ)) (n : ℕ) → is_listed n requests ≡ true
    → list_any (λ (p : ℕ × ℕ). fence p.1) requests ≡ false → length requests ≤ window → is_free fence first window (requests ++ rest) n ≡ true
free_among fence first window [] rest n listed none fits = absurd (false≢true listed)
free_among fence first zero (p ∷ requests) rest n listed none fits = absurd (omega arith)
free_among fence first (suc window) (p ∷ requests) rest n listed none fits =
    let parts = or_parts (fence p.1) (list_any (λ (q : ℕ × ℕ). fence q.1) requests) none in
    by_bool (p.0 == n)
    (λ b. (b || is_listed n requests) ≡ true
    → (if b then first || not (fence p.1) else (if fence p.1 then false else is_free fence false window (requests ++ rest) n)) ≡ true)
    (λ same h. or_right first (not (fence p.1)) (not_from_false (fence p.1) parts.0))
    (λ other h. ap (λ (b : Bool). if b then false else is_free fence false window (requests ++ rest) n) parts.0
    ∙ free_among fence false window requests rest n h parts.1 (omega arith)) listed

-- the only one is free
free_alone : (fence : ℕ → Bool) (window : ℕ) (requests rest : List (ℕ × ℕ)) (n : ℕ) → is_listed n requests ≡ true
    → length requests ≤ 1 → length requests ≤ window → is_free fence true window (requests ++ rest) n ≡ true
free_alone fence window [] rest n listed short fits = absurd (false≢true listed)
free_alone fence zero (p ∷ requests) rest n listed short fits = absurd (omega arith)
free_alone fence (suc window) (p ∷ q ∷ requests) rest n listed short fits = absurd (omega arith)
free_alone fence (suc window) (p ∷ []) rest n listed short fits =
    by_bool (p.0 == n)
    (λ b. (b || false) ≡ true → (if b then true else (if fence p.1 then false else is_free fence false window rest n)) ≡ true)
    (λ same h. refl) (λ other h. absurd (false≢true h)) listed

pub queue_enabled : (D : Desc) (d n : ℕ) (device : DeviceState) (requests : List Outstanding) → QueueKept D d device requests
    → is_undelivered n requests ≡ true → is_free (fences D d) true (shape_at D d).window device.pending n ≡ true
queue_enabled D d n device requests kept undelivered =
    ap (λ (pending : List (ℕ × ℕ)). is_free (fences D d) true (shape_at D d).window pending n) kept.pending
    ∙ by_bool (has_fence D d requests)
    (λ b. has_fence D d requests ≡ b → is_free (fences D d) true (shape_at D d).window (waiting requests ++ kept.rest) n ≡ true)
    (λ fenced f. let short : length requests ≤ 1 = kept.alone f in
    free_alone (fences D d) (shape_at D d).window (waiting requests) kept.rest n listed (omega (arith, few)) (omega (arith, few, window)))
    (λ open_ f. free_among (fences D d) true (shape_at D d).window (waiting requests) kept.rest n listed (waiting_test (fences D d) requests f) (omega (arith, few, window))) refl
  where
    listed : is_listed n (waiting requests) ≡ true
    listed = undelivered_listed n requests undelivered

    few : length (waiting requests) ≤ length requests
    few = waiting_length requests

    window : length requests ≤ (shape_at D d).window
    window = kept.window

-- each undelivered request is enabled
pub undelivered_enabled : (D : Desc) (past : List Entry) (d : ℕ) → IsValid D → IsLegal D past → d < device_count D
    → (n : ℕ) → is_undelivered n (outstanding_of D d past) ≡ true → is_enabled D (machine_of D past) d n ≡ true
undelivered_enabled D past d valid legal inside n undelivered =
    queue_enabled D d n (device_of (machine_of D past) d) (outstanding_of D d past) ((keeps_queues D valid past legal).1 d inside) undelivered

pub deliver_enabled : (D : Desc) → IsValid D → (past : List Entry) (d n : ℕ) → IsLegal D (Deliver d n ∷ past) → is_enabled D (machine_of D past) d n ≡ true
deliver_enabled D valid past d n legal =
    undelivered_enabled D past d valid legal.2 (ltb-true d (device_count D) legal.0) n (deliver_met D past d n legal.1)

-- requests done in order, and then one more
more_plain : (D : Desc) (m after : Machine) (requests : List (ℕ × ℕ)) (d n : ℕ) → plain_from D m requests ≡ Some after → is_enabled D after d n ≡ true
    → plain_from D m (requests ++ (d, n) ∷ []) ≡ Some (do_request D after d n)
more_plain D m after [] d n done enabled =
    let same : m ≡ after = cc in
    subst (λ (k : Machine). (if is_enabled D k d n then Some (do_request D k d n) else None) ≡ Some (do_request D after d n)) (sym same)
    (cond-true (is_enabled D after d n) (Some (do_request D after d n)) None enabled)
more_plain D m after (r ∷ requests) d n done enabled =
    by_bool (is_enabled D m r.0 r.1)
    (λ b. (if b then plain_from D (do_request D m r.0 r.1) requests else None) ≡ Some after
    → (if b then plain_from D (do_request D m r.0 r.1) (requests ++ (d, n) ∷ []) else None) ≡ Some (do_request D after d n))
    (λ free h. more_plain D (do_request D m r.0 r.1) after requests d n h enabled)
    (λ stuck h. absurd (none_some after h)) done
  where
    none_some : (k : Machine) → None ≡ Some k → ⊥
    none_some k e = cc

delivers_append : (first second : List Entry) → delivers (first ++ second) ≡ delivers first ++ delivers second
delivers_append [] second = refl
delivers_append (Deliver d n ∷ first) second = ap (λ (xs : List (ℕ × ℕ)). (d, n) ∷ xs) (delivers_append first second)
delivers_append (entry ∷ first) second = delivers_append first second

delivers_more : (past : List Entry) (entry : Entry) → delivers (reverse (entry ∷ past)) ≡ delivers (reverse past) ++ delivers (entry ∷ [])
delivers_more past entry = ap delivers (reverse_onto past entry []) ∙ delivers_append (reverse past) (entry ∷ [])

-- an entry that delivers nothing leaves what was delivered
delivers_same : (past : List Entry) (entry : Entry) → delivers (entry ∷ []) ≡ [] → delivers (reverse (entry ∷ past)) ≡ delivers (reverse past)
delivers_same past entry nothing =
    delivers_more past entry ∙ ap (λ (xs : List (ℕ × ℕ)). delivers (reverse past) ++ xs) nothing ∙ append-nil (delivers (reverse past))

pub plain_exists : (D : Desc) → IsValid D → (past : List Entry) → IsLegal D past → plain D (delivers (reverse past)) ≡ Some (machine_of D past)
plain_exists D valid [] legal = refl
plain_exists D valid (Deliver d n ∷ past) legal =
    ap (plain D) (delivers_more past (Deliver d n))
    ∙ more_plain D (described D) (machine_of D past) (delivers (reverse past)) d n (plain_exists D valid past legal.2) (deliver_enabled D valid past d n legal)
plain_exists D valid (entry ∷ past) legal = ap (plain D) (delivers_same past entry refl) ∙ plain_exists D valid past legal.2

pub machine_sound : (D : Desc) → IsValid D → (past : List Entry) → IsLegal D past → IsSound D (machine_of D past)
machine_sound D valid past legal = sound_plain D (delivers (reverse past)) (machine_of D past) valid (plain_exists D valid past legal)
