-- What an effect leaves of each device, and what each machine that comes of a description has.
use Rattle.std.proofs.Common.{◌≡◌, ℕ, suc, zero, ◌+◌, ◌<◌, ◌≤◌, ◌==◌, ◌&&◌, ◌||◌, not, Bool, true, false, if◌then◌else◌, nat_lt, IsTrue, List, [], ◌∷◌, ◌++◌, length, map, take, drop, replicate, remove, slice_index_or, filter, ap₂, Some, None, ◌⊎◌, inl, inr, refl, sym, ap, ◌∙◌, subst, arith}
use Rattle.std.specs.List.{All, sum_by, list_all}
use Rattle.std.specs.Int.{w64, from_le_bytes}
use Rattle.std.proofs.lemmas.Bool.{false≢true, ltb-true, leb-true, ltb-false, cases_lt}
use Rattle.std.proofs.lemmas.List.{get_or-map, get_or-replicate, length-map, length-replicate, length-set, length-append, length-take, length-take-le, length_push, take-append-le, take-take, take-replicate, get_or_past}
use Rattle.std.proofs.lemmas.List.Elements.{All-nil, All-cons, All-from_get_or}
use Rattle.std.proofs.lemmas.List.Sums.{sum_by-set, sum_by-le, sum_by-cons}
use Rattle.vfm_types.specs.declared.job.Job.{Job}
use Rattle.vfm_types.specs.declared.job.Job.TheVariants.{Write, Read, Store, Add}
use Rattle.vfm_types.specs.declared.job.Region.{Region}
use Rattle.vfm_types.specs.declared.job.Region.TheVariants.{Page, Bar}
use Rattle.vfm_types.specs.declared.job.Place.{Place}
use Rattle.vfm_types.specs.declared.desc.DevShape.{DevShape}
use Rattle.vfm_types.specs.declared.desc.Desc.{Desc}
use Rattle.vfm_types.specs.Desc.{no_shape, device_count, shape_at, job_at, all_budgets, bar_bytes}
use Rattle.vfm_types.proofs.BarSizes.{all_bars}
use Rattle.vfm_types.specs.Job.{length_of, place_of, owner_or_zero, is_bar, is_bell}
use Rattle.vfm_types.specs.DescFault.{is_bell_misused}
use Rattle.vfm_types.specs.Machine.{DeviceState, Machine, no_device, device_of, with_device, numbered, described_device, described, bytes_in, with_bytes, splice, bytes_at, put_at, with_front, with_bell_rung, ring, write_at, added, effect}
use Rattle.vfm_types.specs.Requests.{fences, is_free, is_enabled, job_or_zero, job_of, without, taken, do_request, plain_from, plain}
use Rattle.vfm_types.specs.Serial.{least_of, next_serial, after_found, serial_from, serial}
use Rattle.vfm_types.specs.Valid.{IsValid}
use Rattle.vfm_plain.specs.Shape.{DeviceHasShape, HasShape, DeviceHasCounts, HasCounts, HasZeroBells, CanLose, IsSound, all_done}
use Rattle.vfm_plain.proofs.Sound.{both, sound_job, job_in_range, some_bytes}
use Rattle.vfm_plain.proofs.Steps.{each_changed, rung_keeps, free_job, shape-taken, shape-do_request}

-- ---- what each of n devices has after an effect that rings at most once

pub record Survives (D : Desc) (P Q : ℕ → DeviceState → Type 0) : Type 1 where
  pub bar : (e : ℕ) (x : DeviceState) (bytes : List ℕ) → P e x → P e (record x { bar = bytes })
  pub buf : (e : ℕ) (x : DeviceState) (bytes : List ℕ) → P e x → P e (record x { buf = bytes })
  pub with_bell_rung : (e : ℕ) (x : DeviceState) (number : ℕ) → P e x → Q e (with_bell_rung (shape_at D e) x number)
  pub weaker : (e : ℕ) (x : DeviceState) → P e x → Q e x

-- n devices have it
abbrev Each : (ℕ → DeviceState → Type 0) → ℕ → Machine → Type 0
Each P n m = (e : ℕ) → e < n → P e (device_of m e)

each-weaker : (P Q : ℕ → DeviceState → Type 0) (n : ℕ) (m : Machine) → ((e : ℕ) (x : DeviceState) → P e x → Q e x) → Each P n m → Each Q n m
each-weaker P Q n m weaker each e h = weaker e (device_of m e) (each e h)

each-with_bytes : (D : Desc) (P Q : ℕ → DeviceState → Type 0) (n : ℕ) (m : Machine) (region : Region) (bytes : List ℕ) → Survives D P Q → Each P n m → Each P n (with_bytes m region bytes)
each-with_bytes D P Q n m (Page p) bytes survives each = each
each-with_bytes D P Q n m (Bar d) bytes survives each =
    each_changed P P m d (record (device_of m d) { bar = bytes }) n (λ e x h. h) (survives.bar d (device_of m d) bytes) each

each-with_front : (D : Desc) (P Q : ℕ → DeviceState → Type 0) (n : ℕ) (m : Machine) (d : ℕ) (bytes : List ℕ) → Survives D P Q → Each P n m → Each P n (with_front m d bytes)
each-with_front D P Q n m d bytes survives each =
    each_changed P P m d (record (device_of m d) { buf = splice (device_of m d).buf 0 bytes }) n (λ e x h. h) (survives.buf d (device_of m d) (splice (device_of m d).buf 0 bytes)) each

each-write_at : (D : Desc) (P Q : ℕ → DeviceState → Type 0) (n : ℕ) (m : Machine) (place : Place) (bytes : List ℕ) → Survives D P Q → Each P n m → Each Q n (write_at D m place bytes)
each-write_at D P Q n m place bytes survives each =
    elim (is_bell place (length bytes)) as (λ b. Each Q n (if b then ring D m (owner_or_zero place.region) (from_le_bytes w64 bytes) else put_at m place bytes)) [
      | true ↦ each_changed P Q m (owner_or_zero place.region) (with_bell_rung (shape_at D (owner_or_zero place.region)) (device_of m (owner_or_zero place.region)) (from_le_bytes w64 bytes)) n survives.weaker (survives.with_bell_rung (owner_or_zero place.region) (device_of m (owner_or_zero place.region)) (from_le_bytes w64 bytes)) each
      | false ↦ each-weaker P Q n (put_at m place bytes) survives.weaker (each-with_bytes D P Q n m place.region (splice (bytes_in m place.region) place.offset bytes) survives each)
    ]

pub each-effect : (D : Desc) (P Q : ℕ → DeviceState → Type 0) (n : ℕ) (m : Machine) (d : ℕ) (job : Job) → Survives D P Q → Each P n m → Each Q n (effect D m d job)
each-effect D P Q n m d (Write at bytes) survives each = each-write_at D P Q n m (place_of D (Write at bytes)) bytes survives each
each-effect D P Q n m d (Read at len) survives each =
    each-weaker P Q n (effect D m d (Read at len)) survives.weaker (each-with_front D P Q n m d (bytes_at m (place_of D (Read at len)) len) survives each)
each-effect D P Q n m d (Store at len) survives each =
    each-write_at D P Q n m (place_of D (Store at len)) (take len (device_of m d).buf) survives each
each-effect D P Q n m d (Add at value) survives each =
    let place = place_of D (Add at value) in
    let old = bytes_at m place 8 in
    let written : Each P n (put_at m place (added old value)) = each-with_bytes D P Q n m place.region (splice (bytes_in m place.region) place.offset (added old value)) survives each in
    each-weaker P Q n (effect D m d (Add at value)) survives.weaker (each-with_front D P Q n (put_at m place (added old value)) d old survives written)

-- ---- counts

-- a free request is taken away
length-without : (fence : ℕ → Bool) (first : Bool) (window : ℕ) (requests : List (ℕ × ℕ)) (n : ℕ) → is_free fence first window requests n ≡ true → length (without n requests) + 1 ≡ length requests
length-without fence first zero requests n free = absurd (false≢true free)
length-without fence first (suc window) [] n free = absurd (false≢true free)
length-without fence first (suc window) (request ∷ requests) n free =
    at (request.0 == n) (fence request.1) (length-without fence false window requests n) free
  where
    at : (b c : Bool) → (is_free fence false window requests n ≡ true → length (without n requests) + 1 ≡ length requests) → (if b then first || not (fence request.1) else (if c then false else is_free fence false window requests n)) ≡ true → length (if b then requests else request ∷ without n requests) + 1 ≡ length (request ∷ requests)
    at true c later e = omega arith
    at false true later e = absurd (false≢true e)
    at false false later e = omega (arith, later e)

counts-survive : (D : Desc) → Survives D (λ e x. DeviceHasCounts (shape_at D e) x) (λ e x. DeviceHasCounts (shape_at D e) x)
counts-survive D =
    record {
      bar = λ e x bytes h. record { accepted = h.accepted; within = h.within };
      buf = λ e x bytes h. record { accepted = h.accepted; within = h.within };
      with_bell_rung = λ e x number h. rung_keeps (DeviceHasCounts (shape_at D e)) (shape_at D e) x number (λ there spare. record { accepted = omega (arith, h.accepted, length_push x.pending (x.accepted, number)); within = omega arith }) (record { accepted = h.accepted; within = h.within });
      weaker = λ e x h. h;
    }

pub counts-do_request : (D : Desc) (m : Machine) (d n : ℕ) → IsTrue (is_enabled D m d n) → HasCounts D m → HasCounts D (do_request D m d n)
counts-do_request D m d n free counts =
    let P : ℕ → DeviceState → Type 0 = λ e x. DeviceHasCounts (shape_at D e) x in
    let one = length-without (fences D d) true (shape_at D d).window (device_of m d).pending n free in
    each-effect D P P (device_count D) (with_device m d (taken (device_of m d) n)) d (job_of D m d n) (counts-survive D) (each_changed P P m d (taken (device_of m d) n) (device_count D) (λ e x h. h) (λ h. record { accepted = omega (arith, h.accepted, one); within = h.within }) counts)

-- ---- losses

done_survives : (D : Desc) (m : Machine) → Survives D (λ e x. x.done ≡ (device_of m e).done) (λ e x. x.done ≡ (device_of m e).done)
done_survives D m =
    record {
      bar = λ e x bytes h. h;
      buf = λ e x bytes h. h;
      with_bell_rung = λ e x number h. rung_keeps (λ y. y.done ≡ (device_of m e).done) (shape_at D e) x number (λ there spare. h) h;
      weaker = λ e x h. h;
    }

lost_survives : (D : Desc) (k : ℕ) → Survives D (λ e x. x.lost ≤ k) (λ e x. x.lost ≤ k + 1)
lost_survives D k =
    record {
      bar = λ e x bytes h. h;
      buf = λ e x bytes h. h;
      with_bell_rung = λ e x number h. rung_keeps (λ y. y.lost ≤ k + 1) (shape_at D e) x number (λ there spare. omega arith) (omega arith);
      weaker = λ e x h. omega arith;
    }

-- devices that did as many each did as many together
same_done : (xs ys : List DeviceState) → length xs ≡ length ys → ((k : ℕ) → k < length ys → (slice_index_or xs k no_device).done ≡ (slice_index_or ys k no_device).done) → sum_by (λ dev. dev.done) xs ≡ sum_by (λ dev. dev.done) ys
same_done [] [] same each = refl
same_done [] (y ∷ ys) same each = absurd (omega arith)
same_done (x ∷ xs) [] same each = absurd (omega arith)
same_done (x ∷ xs) (y ∷ ys) same each =
    omega (arith, each 0 (omega arith), same_done xs ys (omega arith) (λ k h. each (suc k) (omega arith)), sum_by-cons (λ (dev : DeviceState). dev.done) x xs, sum_by-cons (λ (dev : DeviceState). dev.done) y ys)

-- one request done is counted
pub all_done-do_request : (D : Desc) (m : Machine) (d n : ℕ) → IsValid D → d < device_count D → IsTrue (is_enabled D m d n) → HasShape D m → all_done (do_request D m d n) ≡ all_done m + 1
all_done-do_request D m d n valid within free shape =
    let took : Machine = with_device m d (taken (device_of m d) n) in
    let shape-after = shape-do_request D m d n valid within free shape in
    let count : length took.devices ≡ device_count D = length-set m.devices d (taken (device_of m d) n) ∙ shape.devices in
    let each = each-effect D (λ e x. x.done ≡ (device_of took e).done) (λ e x. x.done ≡ (device_of took e).done) (device_count D) took d (job_of D m d n) (done_survives D took) (λ e h. refl) in
    let after : all_done (do_request D m d n) ≡ all_done took = same_done (do_request D m d n).devices took.devices (shape-after.devices ∙ sym count) (λ k h. each k (omega (arith, count))) in
    let one = sum_by-set (λ (dev : DeviceState). dev.done) m.devices d (taken (device_of m d) n) no_device (omega (arith, shape.devices)) in
    omega (arith, after, one)

losses-do_request : (D : Desc) (m : Machine) (d n k : ℕ) → Each (λ e x. x.lost ≤ k) (device_count D) m → Each (λ e x. x.lost ≤ k + 1) (device_count D) (do_request D m d n)
losses-do_request D m d n k each =
    each-effect D (λ e x. x.lost ≤ k) (λ e x. x.lost ≤ k + 1) (device_count D) (with_device m d (taken (device_of m d) n)) d (job_of D m d n) (lost_survives D k) (each_changed (λ e x. x.lost ≤ k) (λ e x. x.lost ≤ k) m d (taken (device_of m d) n) (device_count D) (λ e x h. h) (λ h. h) each)

-- what all devices did is within all budgets
all_done-le : (D : Desc) (m : Machine) → IsValid D → HasShape D m → HasCounts D m → all_done m ≤ 400000
all_done-le D m valid shape counts =
    let few : All (λ (dev : DeviceState). dev.done ≤ 50000) m.devices =
    All-from_get_or (λ dev. dev.done ≤ 50000) m.devices no_device (λ d h. let within : d < device_count D = omega (arith, shape.devices) in omega (arith, (counts d within).accepted, (counts d within).within, (valid.in_range.devices d within).budget)) in
    omega (arith, sum_by-le (λ (dev : DeviceState). dev.done) 50000 m.devices few, shape.devices, valid.in_range.count_high)

-- a sound machine can count one more loss
pub can_lose : (D : Desc) (m : Machine) → IsValid D → IsSound D m → CanLose D m
can_lose D m valid sound d within =
    omega (arith, sound.losses d within, all_done-le D m valid sound.shape sound.counts)

-- ---- bells

-- bytes put after the first 8 leave these
take8-splice : (old : List ℕ) (offset : ℕ) (bytes : List ℕ) → 8 ≤ offset → take 8 old ≡ replicate 8 0 → take 8 (splice old offset bytes) ≡ replicate 8 0
take8-splice old offset bytes far zeros =
    let long : 8 ≤ length old = omega (arith, length-take 8 old, ap length zeros) in
    let front : 8 ≤ length (take offset old) = omega (arith, length-take offset old) in
    take-append-le 8 (take offset old ++ bytes) (drop (offset + length bytes) old) (omega (arith, length-append (take offset old) bytes))
    ∙ take-append-le 8 (take offset old) bytes front
    ∙ take-take 8 offset old far
    ∙ zeros

bells-put_at : (D : Desc) (m : Machine) (place : Place) (bytes : List ℕ) → (is_bar place.region ≡ true → 8 ≤ place.offset) → HasZeroBells D m → HasZeroBells D (put_at m place bytes)
bells-put_at D m place bytes far bells = at place.region far
  where
    at : (region : Region) → (is_bar region ≡ true → 8 ≤ place.offset) → HasZeroBells D (with_bytes m region (splice (bytes_in m region) place.offset bytes))
    at (Page p) far' = bells
    at (Bar d) far' =
        each_changed (λ e x. take 8 x.bar ≡ replicate 8 0) (λ e x. take 8 x.bar ≡ replicate 8 0) m d (record (device_of m d) { bar = splice (device_of m d).bar place.offset bytes }) (device_count D) (λ e x h. h) (take8-splice (device_of m d).bar place.offset bytes (far' refl)) bells

bells-ring : (D : Desc) (m : Machine) (d number : ℕ) → HasZeroBells D m → HasZeroBells D (ring D m d number)
bells-ring D m d number bells =
    each_changed (λ e x. take 8 x.bar ≡ replicate 8 0) (λ e x. take 8 x.bar ≡ replicate 8 0) m d (with_bell_rung (shape_at D d) (device_of m d) number) (device_count D) (λ e x h. h) (λ h. rung_keeps (λ x. take 8 x.bar ≡ replicate 8 0) (shape_at D d) (device_of m d) number (λ there spare. h) h) bells

-- a write that spoils no doorbell rings it, or lies in memory, or after it
not_spoiled : (bar low bell : Bool) → (bar && low && not bell) ≡ false → bell ≡ false → bar ≡ true → low ≡ false
not_spoiled true true false e f g = absurd (cc)
not_spoiled true true true e f g = absurd (cc)
not_spoiled true false bell e f g = refl
not_spoiled false low bell e f g = absurd (cc)

bells-write_at : (D : Desc) (m : Machine) (place : Place) (bytes : List ℕ) → (is_bar place.region && nat_lt place.offset 8 && not (is_bell place (length bytes))) ≡ false → HasZeroBells D m → HasZeroBells D (write_at D m place bytes)
bells-write_at D m place bytes kind bells = at (is_bell place (length bytes)) refl
  where
    at : (b : Bool) → is_bell place (length bytes) ≡ b → HasZeroBells D (if b then ring D m (owner_or_zero place.region) (from_le_bytes w64 bytes) else put_at m place bytes)
    at true e = bells-ring D m (owner_or_zero place.region) (from_le_bytes w64 bytes) bells
    at false e =
        bells-put_at D m place bytes (λ bar. ltb-false place.offset 8 (not_spoiled (is_bar place.region) (nat_lt place.offset 8) (is_bell place (length bytes)) kind e bar)) bells

bells-with_front : (D : Desc) (m : Machine) (d : ℕ) (bytes : List ℕ) → HasZeroBells D m → HasZeroBells D (with_front m d bytes)
bells-with_front D m d bytes bells =
    each_changed (λ e x. take 8 x.bar ≡ replicate 8 0) (λ e x. take 8 x.bar ≡ replicate 8 0) m d (record (device_of m d) { buf = splice (device_of m d).buf 0 bytes }) (device_count D) (λ e x h. h) (λ h. h) bells

bells-effect : (D : Desc) (m : Machine) (d : ℕ) (job : Job) → is_bell_misused D job ≡ false → DeviceHasShape (shape_at D d) (device_of m d) → length_of job ≤ 64 → HasZeroBells D m → HasZeroBells D (effect D m d job)
bells-effect D m d (Write at bytes) kind shape few bells = bells-write_at D m (place_of D (Write at bytes)) bytes kind bells
bells-effect D m d (Read at len) kind shape few bells = bells-with_front D m d (bytes_at m (place_of D (Read at len)) len) bells
bells-effect D m d (Store at len) kind shape few bells =
    let place : Place = place_of D (Store at len) in
    let count : length (take len (device_of m d).buf) ≡ len = length-take-le len (device_of m d).buf (omega (arith, shape.buf)) in
    bells-write_at D m place (take len (device_of m d).buf) (ap (λ (k : ℕ). is_bar place.region && nat_lt place.offset 8 && not (is_bell place k)) count ∙ kind) bells
bells-effect D m d (Add at value) kind shape few bells =
    let place : Place = place_of D (Add at value) in
    let old : List ℕ = bytes_at m place 8 in
    bells-with_front D (put_at m place (added old value)) d old (bells-put_at D m place (added old value) (λ bar. ltb-false place.offset 8 (not_spoiled (is_bar place.region) (nat_lt place.offset 8) false kind refl bar)) bells)

-- ---- doing a request

-- an enabled request is one of a device that there is
pub enabled_device : (D : Desc) (m : Machine) (d n : ℕ) → IsTrue (is_enabled D m d n) → d < device_count D
enabled_device D m d n free = at (cases_lt d (device_count D)) free
  where
    at : (d < device_count D) ⊎ (device_count D ≤ d) → is_free (fences D d) true (shape_at D d).window (device_of m d).pending n ≡ true → d < device_count D
    at (inl within) e = within
    at (inr past) e =
        let none : (shape_at D d).window ≡ 0 = ap (λ (s : DevShape). s.window) (get_or_past D.devices d no_shape past) in
        absurd (false≢true (subst (λ (w : ℕ). is_free (fences D d) true w (device_of m d).pending n ≡ true) none e))

pub sound-do_request : (D : Desc) (m : Machine) (d n : ℕ) → IsValid D → IsTrue (is_enabled D m d n) → IsSound D m → IsSound D (do_request D m d n)
sound-do_request D m d n valid free sound =
    let within = enabled_device D m d n free in
    let there = free_job (fences D d) true (shape_at D d).window (device_of m d).pending n (length (shape_at D d).jobs) (sound.shape.device d within).jobs free in
    let number = job_or_zero n (device_of m d).pending in
    let job = sound_job D d number valid within there in
    let few = some_bytes (job_of D m d n) (job_in_range D d number valid within there) in
    let took = shape-taken D m d n sound.shape in
    let bells : HasZeroBells D (with_device m d (taken (device_of m d) n)) = each_changed (λ e x. take 8 x.bar ≡ replicate 8 0) (λ e x. take 8 x.bar ≡ replicate 8 0) m d (taken (device_of m d) n) (device_count D) (λ e x h. h) (λ h. h) sound.bells in
    let one = all_done-do_request D m d n valid within free sound.shape in
    record {
      shape = shape-do_request D m d n valid within free sound.shape;
      counts = counts-do_request D m d n free sound.counts;
      losses = subst (λ (k : ℕ). Each (λ e x. x.lost ≤ k) (device_count D) (do_request D m d n)) (sym one) (losses-do_request D m d n (all_done m) sound.losses);
      bells = bells-effect D (with_device m d (taken (device_of m d) n)) d (job_of D m d n) job.bell (took.device d within) few.1 bells;
    }

-- ---- the described machine

-- device d as described
described-device : (D : Desc) (d : ℕ) → d < device_count D → device_of (described D) d ≡ described_device (shape_at D d)
described-device D d within = get_or-map described_device D.devices d no_shape no_device within

length-numbered : (n : ℕ) (jobs : List ℕ) → length (numbered n jobs) ≡ length jobs
length-numbered n [] = refl
length-numbered n (job ∷ jobs) = ap suc (length-numbered (n + 1) jobs)

All-numbered : (bound n : ℕ) (jobs : List ℕ) → list_all (λ j. nat_lt j bound) jobs ≡ true → All (λ request. request.1 < bound) (numbered n jobs)
All-numbered bound n [] h = All-nil (λ request. request.1 < bound)
All-numbered bound n (job ∷ jobs) h =
    let t = both (nat_lt job bound) (list_all (λ j. nat_lt j bound) jobs) h in
    All-cons (λ request. request.1 < bound) (n, job) (numbered (n + 1) jobs) (ltb-true job bound t.0) (All-numbered bound (n + 1) jobs t.1)

pub described_sound : (D : Desc) → IsValid D → IsSound D (described D)
described_sound D valid =
    record {
      shape = record {
        pages = length-replicate D.pages (replicate D.page 0);
        page = λ p h. ap length (get_or-replicate D.pages p (replicate D.page 0) [] h) ∙ length-replicate D.page 0;
        devices = length-map D.devices described_device;
        device = λ d h. subst (DeviceHasShape (shape_at D d)) (sym (described-device D d h)) (shape d h);
      };
      counts = λ d h. subst (DeviceHasCounts (shape_at D d)) (sym (described-device D d h)) (record { accepted = omega (arith, length-numbered 0 (shape_at D d).queue); within = (valid.in_range.devices d h).queue_length });
      losses = λ d h. subst (λ (x : DeviceState). x.lost ≤ all_done (described D)) (sym (described-device D d h)) (omega arith);
      bells = λ d h. subst (λ (x : DeviceState). take 8 x.bar ≡ replicate 8 0) (sym (described-device D d h)) (take-replicate 8 (bar_bytes (shape_at D d)) 0 (long d h));
    }
  where
    long : (d : ℕ) → d < device_count D → 8 ≤ bar_bytes (shape_at D d)
    long d h =
        let low : 64 ≤ bar_bytes (shape_at D d) = (all_bars (shape_at D d) (valid.in_range.devices d h).bars).low in
        omega arith

    shape : (d : ℕ) → d < device_count D → DeviceHasShape (shape_at D d) (described_device (shape_at D d))
    shape d h = record { bar = length-replicate (bar_bytes (shape_at D d)) 0; buf = refl; jobs = All-numbered (length (shape_at D d).jobs) 0 (shape_at D d).queue (valid.in_range.devices d h).queue }

-- what comes of the described machine is sound
sound_from : (D : Desc) (m : Machine) (requests : List (ℕ × ℕ)) (after : Machine) → IsValid D → IsSound D m → plain_from D m requests ≡ Some after → IsSound D after
sound_from D m [] after valid sound e = let same : m ≡ after = cc in subst (IsSound D) same sound
sound_from D m (request ∷ requests) after valid sound e =
    at (is_enabled D m request.0 request.1) refl e (λ next. sound_from D (do_request D m request.0 request.1) requests after valid next)
  where
    at : (b : Bool) → is_enabled D m request.0 request.1 ≡ b → (if b then plain_from D (do_request D m request.0 request.1) requests else None) ≡ Some after → (IsSound D (do_request D m request.0 request.1) → plain_from D (do_request D m request.0 request.1) requests ≡ Some after → IsSound D after) → IsSound D after
    at true free f later = later (sound-do_request D m request.0 request.1 valid free sound) f
    at false free f later = absurd (cc)

pub sound_plain : (D : Desc) (requests : List (ℕ × ℕ)) (after : Machine) → IsValid D → plain D requests ≡ Some after → IsSound D after
sound_plain D requests after valid e = sound_from D (described D) requests after valid (described_sound D valid) e

-- ---- a doorbell, and a machine without requests

bytes-ring : (D : Desc) (m : Machine) (d number : ℕ) (region : Region) → bytes_in (ring D m d number) region ≡ bytes_in m region
bytes-ring D m d number (Page p) = refl
bytes-ring D m d number (Bar e) =
    let P : ℕ → DeviceState → Type 0 = λ k x. x.bar ≡ (device_of m k).bar in
    each_changed P P m d (with_bell_rung (shape_at D d) (device_of m d) number) (e + 1) (λ k x h. h) (λ h. rung_keeps (P d) (shape_at D d) (device_of m d) number (λ there spare. refl) refl) (λ k h. refl) e (omega arith)

buf-ring : (D : Desc) (m : Machine) (d number e : ℕ) → (device_of (ring D m d number) e).buf ≡ (device_of m e).buf
buf-ring D m d number e =
    let P : ℕ → DeviceState → Type 0 = λ k x. x.buf ≡ (device_of m k).buf in
    each_changed P P m d (with_bell_rung (shape_at D d) (device_of m d) number) (e + 1) (λ k x h. h) (λ h. rung_keeps (P d) (shape_at D d) (device_of m d) number (λ there spare. refl) refl) (λ k h. refl) e (omega arith)

pub bell-bytes : (D : Desc) (m : Machine) (place : Place) (bytes : List ℕ) (region : Region) → IsTrue (is_bell place (length bytes)) → bytes_in (write_at D m place bytes) region ≡ bytes_in m region
bell-bytes D m place bytes region bell =
    ap (λ (b : Bool). bytes_in (if b then ring D m (owner_or_zero place.region) (from_le_bytes w64 bytes) else put_at m place bytes) region) bell
    ∙ bytes-ring D m (owner_or_zero place.region) (from_le_bytes w64 bytes) region

pub bell-buf : (D : Desc) (m : Machine) (place : Place) (bytes : List ℕ) (e : ℕ) → IsTrue (is_bell place (length bytes)) → (device_of (write_at D m place bytes) e).buf ≡ (device_of m e).buf
bell-buf D m place bytes e bell =
    ap (λ (b : Bool). (device_of (if b then ring D m (owner_or_zero place.region) (from_le_bytes w64 bytes) else put_at m place bytes) e).buf) bell
    ∙ buf-ring D m (owner_or_zero place.region) (from_le_bytes w64 bytes) e

-- none of no requests is the least
none_least : (test : ℕ → Bool) (window : ℕ) (pending : List (ℕ × ℕ)) → pending ≡ [] → least_of (filter test (map (λ request. request.0) (take window pending))) ≡ None
none_least test zero pending e = refl
none_least test (suc window) pending e = rw e

none_next : (D : Desc) (m : Machine) (d count : ℕ) → ((e : ℕ) → (device_of m e).pending ≡ []) → next_serial D m d count ≡ None
none_next D m d zero idle = refl
none_next D m d (suc count) idle =
    rw (none_least (is_enabled D m d) (shape_at D d).window (device_of m d).pending (idle d)) (none_next D m (d + 1) count idle)

serial-idle : (D : Desc) (turns : ℕ) (m : Machine) → ((e : ℕ) → (device_of m e).pending ≡ []) → serial_from D turns m ≡ m
serial-idle D zero m idle = refl
serial-idle D (suc turns) m idle =
    ap (after_found D (λ next. serial_from D turns next) m) (none_next D m 0 (device_count D) idle)

-- a description with empty queues has no pending request
idle-described : (D : Desc) → ((d : ℕ) → d < device_count D → (shape_at D d).queue ≡ []) → (e : ℕ) → (device_of (described D) e).pending ≡ []
idle-described D empty e = at (cases_lt e (device_count D))
  where
    at : (e < device_count D) ⊎ (device_count D ≤ e) → (device_of (described D) e).pending ≡ []
    at (inl within) = ap (λ (x : DeviceState). x.pending) (described-device D e within) ∙ ap (numbered 0) (empty e within)
    at (inr past) =
        ap (λ (x : DeviceState). x.pending) (get_or_past (map described_device D.devices) e no_device (omega (arith, length-map D.devices described_device)))

pub serial-no_requests : (D : Desc) → ((d : ℕ) → d < device_count D → (shape_at D d).queue ≡ []) → serial D ≡ described D
serial-no_requests D empty = serial-idle D (all_budgets D) (described D) (idle-described D empty)

-- ---- as the calls make it

pub sound_made : (D : Desc) (pages : List (List ℕ)) (devices : List DeviceState) → IsValid D → pages ≡ replicate D.pages (replicate D.page 0) → devices ≡ map described_device D.devices → IsSound D (record { pages = pages; devices = devices })
sound_made D pages devices valid same_pages same_devices =
    let e : described D ≡ record { pages = pages; devices = devices } = cc in
    subst (IsSound D) e (described_sound D valid)

pub sound_applied : (D : Desc) (m took after : Machine) (d n k number : ℕ) (job : Job) → IsValid D → true ≡ is_enabled D m d n → remove (device_of m d).pending k ≡ without n (device_of m d).pending → took ≡ with_device m d (record (device_of m d) { pending = remove (device_of m d).pending k; done = (device_of m d).done + 1 }) → number ≡ (slice_index_or (device_of m d).pending k (0, 0)).1 → (slice_index_or (device_of m d).pending k (0, 0)).1 ≡ job_or_zero n (device_of m d).pending → job ≡ job_at D d number → after ≡ effect D took d job → IsSound D m → IsSound D after
sound_applied D m took after d n k number job valid free rest is_took is_number is_job job_is is_after sound =
    let start : took ≡ with_device m d (taken (device_of m d) n) = is_took ∙ ap (λ (p : List (ℕ × ℕ)). with_device m d (record (device_of m d) { pending = p; done = (device_of m d).done + 1 })) rest in
    let its : job ≡ job_of D m d n = job_is ∙ ap (job_at D d) (is_number ∙ is_job) in
    let e : after ≡ do_request D m d n = is_after ∙ ap₂ (λ (x : Machine) (j : Job). effect D x d j) start its in
    subst (IsSound D) (sym e) (sound-do_request D m d n valid (sym free) sound)
