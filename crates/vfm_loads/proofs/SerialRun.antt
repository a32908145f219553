-- The serial run of a valid description: each turn does an enabled request, and its turns suffice.
use Rattle.std.proofs.Common.{◌≡◌, ℕ, zero, suc, ◌+◌, ◌<◌, ◌≤◌, ◌==◌, Bool, true, false, if◌then◌else◌, nat_lt, List, [], ◌∷◌, length, get_or, map, filter, take, Option, Some, None, refl, ap, sym, ◌∙◌, subst, arith, eq-eqb, ⊎_elim}
use Rattle.std.proofs.lemmas.Bool.{cond-true, and_from, and_parts, true≢false, false_from_ne_true, cases_eq}
use Rattle.std.proofs.lemmas.List.{nil_from_length}
use Rattle.std.proofs.lemmas.List.Sums.{sum_by-cons}
use Rattle.std.specs.List.{sum_by, list_all}
use Rattle.vfm_types.specs.declared.desc.DevShape.{DevShape}
use Rattle.vfm_types.specs.declared.desc.Desc.{Desc}
use Rattle.vfm_types.specs.Desc.{device_count, shape_at, all_budgets, no_shape}
use Rattle.vfm_types.specs.Machine.{DeviceState, Machine, device_of, no_device, described}
use Rattle.vfm_types.specs.Requests.{is_free, fences, is_enabled, do_request, plain_from, plain}
use Rattle.vfm_types.specs.Serial.{least_of, least_enabled, or_else, of_device, next_serial, after_found, serial_from, serial}
use Rattle.vfm_types.specs.Valid.{IsValid}
use Rattle.vfm_plain.specs.Shape.{IsSound, all_done}
use Rattle.vfm_plain.proofs.Effects.{enabled_device, all_done-do_request, sound-do_request, described_sound}
use Rattle.vfm_laws.proofs.Rising.{by_bool}
use Rattle.vfm_loads.specs.Still.{IsStill}

-- ---- the least number of some that pass a test

some_cond : (b : Bool) (x y : ℕ) → Some (if b then x else y) ≡ (if b then Some x else Some y)
some_cond true x y = refl
some_cond false x y = refl

least_step : (n k : ℕ) (ks : List ℕ) → least_of (n ∷ k ∷ ks) ≡ (if nat_lt k n then least_of (k ∷ ks) else least_of (n ∷ ks))
least_step n k ks = some_cond (nat_lt k n) _ _

least_passes : (test : ℕ → Bool) (ks : List ℕ) (n r : ℕ) → test n ≡ true → list_all test ks ≡ true → least_of (n ∷ ks) ≡ Some r → test r ≡ true
least_passes test [] n r first rest is = let same : n ≡ r = cc in subst (λ (x : ℕ). test x ≡ true) same first
least_passes test (k ∷ ks) n r first rest is =
    let parts = and_parts (test k) (list_all test ks) rest in
    by_bool (nat_lt k n) (λ b. (if b then least_of (k ∷ ks) else least_of (n ∷ ks)) ≡ Some r → test r ≡ true)
    (λ less h. least_passes test ks k r parts.0 parts.1 h) (λ more h. least_passes test ks n r first parts.1 h) (sym (least_step n k ks) ∙ is)

filter_passes : (test : ℕ → Bool) (xs : List ℕ) → list_all test (filter test xs) ≡ true
filter_passes test [] = refl
filter_passes test (x ∷ xs) =
    by_bool (test x) (λ b. test x ≡ b → list_all test (if b then x ∷ filter test xs else filter test xs) ≡ true)
    (λ passes e. and_from (test x) (list_all test (filter test xs)) e (filter_passes test xs)) (λ fails e. filter_passes test xs) refl

none_some : {X : Type 0} (x : X) → None ≡ Some x → ⊥
none_some x e = cc

least_of_passing : (test : ℕ → Bool) (xs : List ℕ) (r : ℕ) → list_all test xs ≡ true → least_of xs ≡ Some r → test r ≡ true
least_of_passing test [] r all is = absurd (none_some r is)
least_of_passing test (x ∷ xs) r all is = let parts = and_parts (test x) (list_all test xs) all in least_passes test xs x r parts.0 parts.1 is

-- ---- the next request

least_is_enabled : (D : Desc) (m : Machine) (d n : ℕ) → least_enabled D m d ≡ Some n → is_enabled D m d n ≡ true
least_is_enabled D m d n is =
    let numbers = map (λ (request : ℕ × ℕ). request.0) (take (shape_at D d).window (device_of m d).pending) in
    least_of_passing (is_enabled D m d) (filter (is_enabled D m d) numbers) n (filter_passes (is_enabled D m d) numbers) is

next_is_enabled : (D : Desc) (m : Machine) (count d : ℕ) (r : ℕ × ℕ) → next_serial D m d count ≡ Some r → is_enabled D m r.0 r.1 ≡ true
next_is_enabled D m zero d r is = absurd (none_some r is)
next_is_enabled D m (suc count) d r is = at (least_enabled D m d) refl is (next_is_enabled D m count (d + 1) r)
  where
    at : (o : Option ℕ) → least_enabled D m d ≡ o → or_else (of_device d o) (next_serial D m (d + 1) count) ≡ Some r
        → (next_serial D m (d + 1) count ≡ Some r → is_enabled D m r.0 r.1 ≡ true) → is_enabled D m r.0 r.1 ≡ true
    at None e h later = later h
    at (Some n) e h later = let same : (d, n) ≡ r = cc in subst (λ (x : ℕ × ℕ). is_enabled D m x.0 x.1 ≡ true) same (least_is_enabled D m d n e)

next_none : (D : Desc) (m : Machine) (count d : ℕ) → next_serial D m d count ≡ None → (e : ℕ) → d ≤ e → e < d + count → least_enabled D m e ≡ None
next_none D m zero d none e low high = absurd (omega arith)
next_none D m (suc count) d none e low high = at (least_enabled D m d) refl none (λ h other. next_none D m count (d + 1) h e (grind (arith, other)) (omega arith))
  where
    at : (o : Option ℕ) → least_enabled D m d ≡ o → or_else (of_device d o) (next_serial D m (d + 1) count) ≡ None
        → (next_serial D m (d + 1) count ≡ None → (e ≡ d → ⊥) → least_enabled D m e ≡ None) → least_enabled D m e ≡ None
    at None here h later =
        ⊎_elim (λ (same : e ≡ d). subst (λ (k : ℕ). least_enabled D m k ≡ None) (sym same) here)
        (λ (other : e ≡ d → ⊥). later h other) (cases_eq e d)
    at (Some n) here h later = absurd (none_some (d, n) (sym h))

-- the first pending request is enabled
first_free : (fence : ℕ → Bool) (window : ℕ) (r : ℕ × ℕ) (rest : List (ℕ × ℕ)) → is_free fence true (suc window) (r ∷ rest) r.0 ≡ true
first_free fence window r rest = cond-true (r.0 == r.0) _ _ (eq-eqb r.0 r.0 refl)

none_pending : (fence : ℕ → Bool) (window : ℕ) (pending : List (ℕ × ℕ)) → 1 ≤ window
    → least_of (filter (is_free fence true window pending) (map (λ request. request.0) (take window pending))) ≡ None → pending ≡ []
none_pending fence window [] some none = refl
none_pending fence zero (r ∷ rest) some none = absurd (omega arith)
none_pending fence (suc window) (r ∷ rest) some none =
    let test = is_free fence true (suc window) (r ∷ rest) in
    let others = filter test (map (λ (request : ℕ × ℕ). request.0) (take window rest)) in
    let found : filter test (map (λ (request : ℕ × ℕ). request.0) (take (suc window) (r ∷ rest))) ≡ r.0 ∷ others =
    cond-true (test r.0) (r.0 ∷ others) others (first_free fence window r rest) in
    absurd (least_none r.0 others (sym (ap least_of found) ∙ none))
  where
    least_none : (x : ℕ) (xs : List ℕ) → least_of (x ∷ xs) ≡ None → ⊥
    least_none x xs e = cc

-- ---- machines with nothing pending

-- no device has a pending request
abbrev pub IsIdle : Desc → Machine → Type 0
IsIdle D m = (d : ℕ) → d < device_count D → (device_of m d).pending ≡ []

none_free : (fence : ℕ → Bool) (window : ℕ) (pending : List (ℕ × ℕ)) (n : ℕ) → pending ≡ [] → is_free fence true window pending n ≡ false
none_free fence zero pending n none = refl
none_free fence (suc window) pending n none = rw none refl

pub idle_still : (D : Desc) (m : Machine) → IsIdle D m → IsStill D m
idle_still D m idle d n =
    false_from_ne_true (is_enabled D m d n) (λ yes_.
    let none = none_free (fences D d) (shape_at D d).window (device_of m d).pending n (idle d (enabled_device D m d n yes_)) in
    absurd (true≢false (sym yes_ ∙ none)))

still_pending : (fence : ℕ → Bool) (window : ℕ) (pending : List (ℕ × ℕ)) → 1 ≤ window → ((n : ℕ) → is_free fence true window pending n ≡ false) → pending ≡ []
still_pending fence window [] some still = refl
still_pending fence zero (r ∷ rest) some still = absurd (omega arith)
still_pending fence (suc window) (r ∷ rest) some still = absurd (true≢false (sym (first_free fence window r rest) ∙ still r.0))

pub still_idle : (D : Desc) (m : Machine) → IsValid D → IsStill D m → IsIdle D m
still_idle D m valid still d inside =
    still_pending (fences D d) (shape_at D d).window (device_of m d).pending (valid.in_range.devices d inside).window_low (λ n. still d n)

-- ---- as many done as all budgets together allow

sum_within : (shapes : List DevShape) (devices : List DeviceState) → length devices ≡ length shapes
    → ((k : ℕ) → k < length shapes → (get_or devices k no_device).done ≤ (get_or shapes k no_shape).budget)
    → sum_by (λ (device : DeviceState). device.done) devices ≤ sum_by (λ (shape : DevShape). shape.budget) shapes
sum_within [] [] same each = omega arith
sum_within [] (device ∷ devices) same each = absurd (omega arith)
sum_within (shape ∷ shapes) [] same each = absurd (omega arith)
sum_within (shape ∷ shapes) (device ∷ devices) same each =
    omega (arith, each 0 (omega arith), sum_within shapes devices (omega arith) (λ k h. each (suc k) (omega arith)), sum_by-cons (λ (x : DeviceState). x.done) device devices, sum_by-cons (λ (x : DevShape). x.budget) shape shapes)

sum_met : (shapes : List DevShape) (devices : List DeviceState) → length devices ≡ length shapes
    → ((k : ℕ) → k < length shapes → (get_or devices k no_device).done ≤ (get_or shapes k no_shape).budget)
    → sum_by (λ (shape : DevShape). shape.budget) shapes ≤ sum_by (λ (device : DeviceState). device.done) devices
    → (k : ℕ) → k < length shapes → (get_or shapes k no_shape).budget ≤ (get_or devices k no_device).done
sum_met [] devices same each all k below = absurd (omega arith)
sum_met (shape ∷ shapes) [] same each all k below = absurd (omega arith)
sum_met (shape ∷ shapes) (device ∷ devices) same each all zero below =
    omega (arith, all, sum_within shapes devices (omega arith) (λ k h. each (suc k) (omega arith)), sum_by-cons (λ (x : DeviceState). x.done) device devices, sum_by-cons (λ (x : DevShape). x.budget) shape shapes)
sum_met (shape ∷ shapes) (device ∷ devices) same each all (suc k) below =
    sum_met shapes devices (omega arith) (λ k h. each (suc k) (omega arith))
    (omega (arith, all, each 0 (omega arith), sum_by-cons (λ (x : DeviceState). x.done) device devices, sum_by-cons (λ (x : DevShape). x.budget) shape shapes)) k (omega arith)

all_idle : (D : Desc) (m : Machine) → IsSound D m → all_budgets D ≤ all_done m → IsIdle D m
all_idle D m sound all d inside =
    let met = sum_met D.devices m.devices sound.shape.devices (λ k h. omega (arith, (sound.counts k h).accepted, (sound.counts k h).within)) all d inside in
    let none : length (device_of m d).pending ≡ 0 = omega (arith, met, (sound.counts d inside).accepted, (sound.counts d inside).within) in
    nil_from_length (device_of m d).pending none

-- ---- the run

-- a machine that comes of this one by enabled requests, and has nothing pending
record RunsTo (D : Desc) (m after : Machine) : Type 0 where
  requests : List (ℕ × ℕ)
  reached : plain_from D m requests ≡ Some after
  idle : IsIdle D after

serial_runs : (D : Desc) (turns : ℕ) (m : Machine) → IsValid D → IsSound D m → all_budgets D ≤ all_done m + turns → RunsTo D m (serial_from D turns m)
serial_runs D zero m valid sound enough =
    record { requests = []; reached = refl; idle = all_idle D m sound (omega arith) }
serial_runs D (suc turns) m valid sound enough =
    at (next_serial D m 0 (device_count D)) refl (λ next sound_next enough_next. serial_runs D turns next valid sound_next enough_next)
  where
    at : (o : Option (ℕ × ℕ)) → next_serial D m 0 (device_count D) ≡ o
        → ((next : Machine) → IsSound D next → all_budgets D ≤ all_done next + turns → RunsTo D next (serial_from D turns next))
        → RunsTo D m (after_found D (λ next. serial_from D turns next) m o)
    at None e later =
        record { requests = []; reached = refl; idle = λ d inside. none_pending (fences D d) (shape_at D d).window (device_of m d).pending (valid.in_range.devices d inside).window_low (next_none D m (device_count D) 0 e d (omega arith) (omega arith)) }
    at (Some r) e later =
        let free = next_is_enabled D m (device_count D) 0 r e in
        let inside = enabled_device D m r.0 r.1 free in
        let one = all_done-do_request D m r.0 r.1 valid inside free sound.shape in
        let rest = later (do_request D m r.0 r.1) (sound-do_request D m r.0 r.1 valid free sound) (omega (arith, one, enough)) in
        record { requests = r ∷ rest.requests; reached = cond-true (is_enabled D m r.0 r.1) _ _ free ∙ rest.reached; idle = rest.idle }

module _ (D : Desc) (valid : IsValid D) where
  whole : RunsTo D (described D) (serial D)
  whole = serial_runs D (all_budgets D) (described D) valid (described_sound D valid) (omega arith)

  pub serial_reached : (requests : List (ℕ × ℕ)) × (plain D requests ≡ Some (serial D))
  serial_reached = (whole.requests, whole.reached)

  pub serial_idle : IsIdle D (serial D)
  serial_idle = whole.idle

  pub serial_still : IsStill D (serial D)
  serial_still = idle_still D (serial D) serial_idle
