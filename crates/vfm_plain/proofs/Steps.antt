-- What a step of the machine keeps: its shape, and whatever each device keeps.
use Rattle.std.proofs.Common.{◌≡◌, ℕ, suc, zero, ◌+◌, ◌<◌, ◌≤◌, ◌==◌, ◌&&◌, ◌||◌, not, Bool, true, false, if◌then◌else◌, nat_lt, IsTrue, List, [], ◌∷◌, ◌++◌, length, take, drop, remove, slice_index_or, slice_set, ◌⊎◌, inl, inr, ⊎_elim, refl, sym, ap, ◌∙◌, subst, arith}
use Rattle.std.specs.List.{All}
use Rattle.std.specs.Int.{w64, from_le_bytes}
use Rattle.std.proofs.lemmas.Bool.{false≢true, ltb-true, cases_eq, cases_lt}
use Rattle.std.proofs.lemmas.List.{get_or-set_same, get_or-set_other, set_past, length-set, length-append, length-take, length-take-le, length-drop}
use Rattle.std.proofs.lemmas.List.Elements.{All-tail, All-head, All-cons, All-push}
use Rattle.vfm_types.specs.declared.job.Job.{Job}
use Rattle.vfm_types.specs.declared.job.Job.TheVariants.{Write, Read, Store, Add}
use Rattle.vfm_types.specs.declared.job.Region.{Region}
use Rattle.vfm_types.specs.declared.job.Region.TheVariants.{Page, Bar}
use Rattle.vfm_types.specs.declared.job.Place.{Place}
use Rattle.vfm_types.specs.declared.desc.DevShape.{DevShape}
use Rattle.vfm_types.specs.declared.desc.Desc.{Desc}
use Rattle.vfm_types.specs.Desc.{device_count, shape_at}
use Rattle.vfm_types.specs.Job.{length_of, place_of, owner_or_zero, is_bell}
use Rattle.vfm_types.specs.Machine.{DeviceState, Machine, no_device, device_of, with_device, bytes_in, with_bytes, splice, bytes_at, put_at, with_front, with_accepted_request, with_lost_request, with_bell_rung, ring, write_at, added, effect}
use Rattle.vfm_types.specs.Requests.{is_free, is_enabled, job_or_zero, job_of, without, taken, do_request}
use Rattle.vfm_types.specs.Valid.{IsValid, IsSoundJob, is_job_in_range}
use Rattle.vfm_plain.specs.Shape.{DeviceHasShape, HasShape, LiesIn, Lies}
use Rattle.vfm_plain.proofs.Sound.{both, sound_job, job_in_range, lies_of_job, some_bytes}

-- what each of n devices has after one changed, if each had what it says before
pub each_changed : (P Q : ℕ → DeviceState → Type 0) (m : Machine) (d : ℕ) (dev : DeviceState) (n : ℕ) → ((e : ℕ) (x : DeviceState) → P e x → Q e x) → (P d (device_of m d) → Q d dev) → ((e : ℕ) → e < n → P e (device_of m e)) → (e : ℕ) → e < n → Q e (device_of (with_device m d dev) e)
each_changed P Q m d dev n weaker changes each e h = ⊎_elim same other (cases_eq e d)
  where
    past : e ≡ d → (d < length m.devices) ⊎ (length m.devices ≤ d) → Q e (device_of (with_device m d dev) e)
    past is (inl within) =
        let changed : Q d dev = changes (subst (λ (k : ℕ). P k (device_of m k)) is (each e h)) in
        let here : Q d (device_of (with_device m d dev) d) = subst (Q d) (sym (get_or-set_same m.devices d dev no_device within)) changed in
        subst (λ (k : ℕ). Q k (device_of (with_device m d dev) k)) (sym is) here
    past is (inr out) =
        subst (λ (xs : List DeviceState). Q e (slice_index_or xs e no_device)) (sym (set_past m.devices d dev out)) (weaker e (device_of m e) (each e h))

    same : e ≡ d → Q e (device_of (with_device m d dev) e)
    same is = past is (cases_lt d (length m.devices))

    other : (e ≡ d → ⊥) → Q e (device_of (with_device m d dev) e)
    other not =
        subst (Q e) (sym (get_or-set_other m.devices d e dev no_device not)) (weaker e (device_of m e) (each e h))

-- ---- the shape

pub length-splice : (old : List ℕ) (offset : ℕ) (bytes : List ℕ) → offset + length bytes ≤ length old → length (splice old offset bytes) ≡ length old
length-splice old offset bytes h =
    omega (arith, length-append (take offset old ++ bytes) (drop (offset + length bytes) old), length-append (take offset old) bytes, length-take offset old, length-drop (offset + length bytes) old)

-- another device of the same shape
pub shape-with_device : (D : Desc) (m : Machine) (d : ℕ) (dev : DeviceState) → (DeviceHasShape (shape_at D d) (device_of m d) → DeviceHasShape (shape_at D d) dev) → HasShape D m → HasShape D (with_device m d dev)
shape-with_device D m d dev keeps shape =
    record {
      pages = shape.pages;
      page = shape.page;
      devices = length-set m.devices d dev ∙ shape.devices;
      device = each_changed (λ e x. DeviceHasShape (shape_at D e) x) (λ e x. DeviceHasShape (shape_at D e) x) m d dev (device_count D) (λ e x h. h) keeps shape.device;
    }

-- a region's bytes reach at least as far as what lies in it
pub within_region : (D : Desc) (m : Machine) (region : Region) (offset len : ℕ) → HasShape D m → LiesIn D region offset len → offset + len ≤ length (bytes_in m region)
within_region D m (Page p) offset len shape lies = omega (arith, shape.page p lies.0, lies.1)
within_region D m (Bar d) offset len shape lies = omega (arith, (shape.device d lies.0).bar, lies.1)

-- as many other bytes in a region
pub shape-with_bytes : (D : Desc) (m : Machine) (region : Region) (bytes : List ℕ) → length bytes ≡ length (bytes_in m region) → HasShape D m → HasShape D (with_bytes m region bytes)
shape-with_bytes D m (Page p) bytes same shape =
    record { pages = length-set m.pages p bytes ∙ shape.pages; page = λ q h. page q h (cases_eq q p); devices = shape.devices; device = shape.device }
  where
    page : (q : ℕ) → q < D.pages → (q ≡ p) ⊎ (q ≡ p → ⊥) → length (slice_index_or (slice_set m.pages p bytes) q []) ≡ D.page
    page q h (inl is) =
        let there : p < length m.pages = omega (arith, shape.pages) in
        ap (λ (k : ℕ). length (slice_index_or (slice_set m.pages p bytes) k [])) is
        ∙ ap length (get_or-set_same m.pages p bytes [] there)
        ∙ same
        ∙ shape.page p (omega arith)
    page q h (inr not) = ap length (get_or-set_other m.pages p q bytes [] not) ∙ shape.page q h
shape-with_bytes D m (Bar d) bytes same shape =
    shape-with_device D m d (record (device_of m d) { bar = bytes }) (λ here. record { bar = same ∙ here.bar; buf = here.buf; jobs = here.jobs }) shape

pub shape-put_at : (D : Desc) (m : Machine) (place : Place) (bytes : List ℕ) → Lies D place (length bytes) → HasShape D m → HasShape D (put_at m place bytes)
shape-put_at D m place bytes lies shape =
    shape-with_bytes D m place.region (splice (bytes_in m place.region) place.offset bytes) (length-splice (bytes_in m place.region) place.offset bytes (within_region D m place.region place.offset (length bytes) shape lies)) shape

pub shape-with_front : (D : Desc) (m : Machine) (d : ℕ) (bytes : List ℕ) → length bytes ≤ 64 → HasShape D m → HasShape D (with_front m d bytes)
shape-with_front D m d bytes few shape =
    shape-with_device D m d (record (device_of m d) { buf = splice (device_of m d).buf 0 bytes }) (λ here. record { bar = here.bar; buf = length-splice (device_of m d).buf 0 bytes (omega (arith, here.buf)) ∙ here.buf; jobs = here.jobs }) shape

-- the doorbell's two outcomes
pub rung_keeps : (P : DeviceState → Type 0) (shape : DevShape) (dev : DeviceState) (number : ℕ) → (number < length shape.jobs → dev.accepted < shape.budget → P (with_accepted_request dev number)) → P (with_lost_request dev) → P (with_bell_rung shape dev number)
rung_keeps P shape dev number taken lost = at (nat_lt number (length shape.jobs) && nat_lt dev.accepted shape.budget) refl
  where
    at : (b : Bool) → (nat_lt number (length shape.jobs) && nat_lt dev.accepted shape.budget) ≡ b → P (if b then with_accepted_request dev number else with_lost_request dev)
    at true e = let h = both _ _ e in taken (ltb-true _ _ h.0) (ltb-true _ _ h.1)
    at false e = lost

pub shape-ring : (D : Desc) (m : Machine) (d number : ℕ) → HasShape D m → HasShape D (ring D m d number)
shape-ring D m d number shape =
    shape-with_device D m d (with_bell_rung (shape_at D d) (device_of m d) number) (λ here. rung_keeps (DeviceHasShape (shape_at D d)) (shape_at D d) (device_of m d) number (λ there spare. record { bar = here.bar; buf = here.buf; jobs = All-push (λ request. request.1 < length (shape_at D d).jobs) (device_of m d).pending ((device_of m d).accepted, number) here.jobs there }) (record { bar = here.bar; buf = here.buf; jobs = here.jobs })) shape

pub shape-write_at : (D : Desc) (m : Machine) (place : Place) (bytes : List ℕ) → Lies D place (length bytes) → HasShape D m → HasShape D (write_at D m place bytes)
shape-write_at D m place bytes lies shape =
    elim (is_bell place (length bytes)) as (λ b. HasShape D (if b then ring D m (owner_or_zero place.region) (from_le_bytes w64 bytes) else put_at m place bytes)) [ true ↦ shape-ring D m (owner_or_zero place.region) (from_le_bytes w64 bytes) shape | false ↦ shape-put_at D m place bytes lies shape ]

-- at most len bytes are taken
few-take : (len : ℕ) (bytes : List ℕ) → length (take len bytes) ≤ len
few-take len bytes = omega (arith, length-take len bytes)

-- the whole effect of a job that is aimed at one place
pub shape-effect : (D : Desc) (m : Machine) (d : ℕ) (job : Job) → Lies D (place_of D job) (length_of job) → length_of job ≤ 64 → d < device_count D → HasShape D m → HasShape D (effect D m d job)
shape-effect D m d (Write at bytes) lies few within shape = shape-write_at D m (place_of D (Write at bytes)) bytes lies shape
shape-effect D m d (Read at len) lies few within shape =
    let count = few-take len (drop (place_of D (Read at len)).offset (bytes_in m (place_of D (Read at len)).region)) in
    shape-with_front D m d (bytes_at m (place_of D (Read at len)) len) (omega arith) shape
shape-effect D m d (Store at len) lies few within shape =
    let count : length (take len (device_of m d).buf) ≡ len = length-take-le len (device_of m d).buf (omega (arith, (shape.device d within).buf)) in
    shape-write_at D m (place_of D (Store at len)) (take len (device_of m d).buf) (subst (Lies D (place_of D (Store at len))) (sym count) lies) shape
shape-effect D m d (Add at value) lies few within shape =
    let place = place_of D (Add at value) in
    let old = bytes_at m place 8 in
    let count = few-take 8 (drop place.offset (bytes_in m place.region)) in
    shape-with_front D (put_at m place (added old value)) d old (omega arith) (shape-put_at D m place (added old value) lies shape)

-- what each pending request keeps, one keeps less
pub All-without : (P : ℕ × ℕ → Type 0) (n : ℕ) (requests : List (ℕ × ℕ)) → All P requests → All P (without n requests)
All-without P n [] h = h
All-without P n (request ∷ requests) h =
    elim (request.0 == n) as (λ b. All P (if b then requests else request ∷ without n requests)) [ true ↦ All-tail P request requests h | false ↦ All-cons P request (without n requests) (All-head P request requests h) (All-without P n requests (All-tail P request requests h)) ]

pub shape-taken : (D : Desc) (m : Machine) (d n : ℕ) → HasShape D m → HasShape D (with_device m d (taken (device_of m d) n))
shape-taken D m d n shape =
    shape-with_device D m d (taken (device_of m d) n) (λ here. record { bar = here.bar; buf = here.buf; jobs = All-without (λ request. request.1 < length (shape_at D d).jobs) n (device_of m d).pending here.jobs }) shape

-- what holds of each of the requests holds of a free one's job
pub free_job : (fence : ℕ → Bool) (first : Bool) (window : ℕ) (requests : List (ℕ × ℕ)) (n bound : ℕ) → All (λ request. request.1 < bound) requests → is_free fence first window requests n ≡ true → job_or_zero n requests < bound
free_job fence first zero requests n bound jobs free = absurd (false≢true free)
free_job fence first (suc window) [] n bound jobs free = absurd (false≢true free)
free_job fence first (suc window) (request ∷ requests) n bound jobs free =
    at (request.0 == n) (fence request.1) (free_job fence false window requests n bound (All-tail (λ r. r.1 < bound) request requests jobs)) free
  where
    here : request.1 < bound
    here = All-head (λ r. r.1 < bound) request requests jobs

    at : (b c : Bool) → (is_free fence false window requests n ≡ true → job_or_zero n requests < bound) → (if b then first || not (fence request.1) else (if c then false else is_free fence false window requests n)) ≡ true → (if b then request.1 else job_or_zero n requests) < bound
    at true c later e = here
    at false true later e = absurd (false≢true e)
    at false false later e = later e

-- doing an enabled request keeps the shape
pub shape-do_request : (D : Desc) (m : Machine) (d n : ℕ) → IsValid D → d < device_count D → IsTrue (is_enabled D m d n) → HasShape D m → HasShape D (do_request D m d n)
shape-do_request D m d n valid within free shape =
    let there = free_job _ _ _ (device_of m d).pending n (length (shape_at D d).jobs) (shape.device d within).jobs free in
    let sound = sound_job D d (job_or_zero n (device_of m d).pending) valid within there in
    let range = some_bytes (job_of D m d n) (job_in_range D d (job_or_zero n (device_of m d).pending) valid within there) in
    shape-effect D _ d (job_of D m d n) (lies_of_job D d (job_of D m d n) valid sound range.0) range.1 within (shape-taken D m d n shape)

-- the request at place k taken away
pub shape-took : (D : Desc) (m after : Machine) (d n k : ℕ) → remove (device_of m d).pending k ≡ without n (device_of m d).pending → after ≡ with_device m d (record (device_of m d) { pending = remove (device_of m d).pending k; done = (device_of m d).done + 1 }) → HasShape D m → HasShape D after
shape-took D m after d n k rest is shape =
    subst (HasShape D) (sym (is ∙ ap (λ (p : List (ℕ × ℕ)). with_device m d (record (device_of m d) { pending = p; done = (device_of m d).done + 1 })) rest)) (shape-taken D m d n shape)

-- and its job done
pub shape-made : (D : Desc) (m after : Machine) (d : ℕ) (job : Job) → IsValid D → d < device_count D → IsSoundJob D d job → IsTrue (is_job_in_range job) → after ≡ effect D m d job → HasShape D m → HasShape D after
shape-made D m after d job valid within sound range is shape =
    let bytes = some_bytes job range in
    subst (HasShape D) (sym is) (shape-effect D m d job (lies_of_job D d job valid sound bytes.0) bytes.1 within shape)
