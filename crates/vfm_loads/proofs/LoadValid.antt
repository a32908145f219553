-- A generated load is valid: its devices are in their ranges, and each job is sound.
use Rattle.std.proofs.Common.{◌≡◌, ℕ, zero, suc, ◌+◌, ◌-◌, ◌*◌, ◌%◌, ◌^◌, ◌<◌, ◌==◌, ◌&&◌, not, Bool, true, false, if◌then◌else◌, nat_lt, List, [], ◌∷◌, length, get_or, map, Option, Some, None, is_none, unwrap_or, refl, ap, ap₂, sym, ◌∙◌, subst, arith}
use Rattle.std.proofs.lemmas.Bool.{cond-false, le-ltb, le-leb, ne_eqb, and_from, or_left, or_right, and_left}
use Rattle.std.proofs.lemmas.List.FromFn.{get_or-map-range_with_len}
use Rattle.std.specs.List.{list_all, range_with_len}
use Rattle.std.specs.Option.{option_or}
use Rattle.vfm_types.specs.declared.job.Job.{Job}
use Rattle.vfm_types.specs.declared.job.Region.TheVariants.{Page, Bar}
use Rattle.vfm_types.specs.declared.job.Place.{Place}
use Rattle.vfm_types.specs.declared.desc.DevShape.{DevShape}
use Rattle.vfm_types.specs.declared.desc.Desc.{Desc}
use Rattle.vfm_types.specs.declared.fault.FieldName.TheVariants.{At, Value}
use Rattle.vfm_types.specs.declared.fault.DescFault.{DescFault}
use Rattle.vfm_types.specs.Bytes.{is_name, is_name_byte}
use Rattle.vfm_types.specs.Ranges.{takes}
use Rattle.vfm_types.specs.Desc.{device_count, shape_at, no_shape, no_job}
use Rattle.vfm_types.specs.Region.{region_of}
use Rattle.vfm_types.specs.Job.{address_of, length_of, place_of, page_zero_if_nowhere, is_bar, is_bar_of, is_bell, is_writer, may_ring}
use Rattle.vfm_types.specs.DescFault.{form_fault, job_fault, jobs_fault, devices_fault, name_twice, lacks_p2p, is_bell_misused}
use Rattle.vfm_types.specs.Valid.{IsValid, InRange, ShapeInRange, IsSoundJob, is_job_in_range}
use Rattle.vfm_loads.specs.Generated.{peer_of, own_pages, peer_bar, count_job, bell_job, rung_job, block_job, load_job, load_queue, load_shape, generated}
use Rattle.vfm_loads.proofs.Parts.{devices_are, shape_is, count_is, bell_is, rung_is, block_is, each_kind}
use Rattle.vfm_loads.proofs.Places.{page_place, bar_place}

-- ---- where each job is aimed

pub count_place : (N d j : ℕ) → d < 8 → j < 32
    → region_of (generated N) ((own_pages d + j) * 4096 + 8 * ((N + j) % 512)) 8 ≡ Some (record { region = Page (own_pages d + j); offset = 8 * ((N + j) % 512) })
count_place N d j device below = page_place N (own_pages d + j) (8 * ((N + j) % 512)) 8 (omega arith) (omega arith) (omega arith)

pub rung_place : (N d : ℕ) → d < 8 → region_of (generated N) (own_pages d * 4096) 8 ≡ Some (record { region = Page (own_pages d); offset = 0 })
rung_place N d device =
    let same : own_pages d * 4096 ≡ own_pages d * 4096 + 0 = omega arith in
    ap (λ (at : ℕ). region_of (generated N) at 8) same ∙ page_place N (own_pages d) 0 8 (omega arith) (omega arith) (omega arith)

pub bell_place : (N d : ℕ) → d < 8 → region_of (generated N) (peer_bar d) 8 ≡ Some (record { region = Bar (peer_of d); offset = 0 })
bell_place N d device =
    let same : peer_bar d ≡ peer_bar d + 0 = omega arith in
    ap (λ (at : ℕ). region_of (generated N) at 8) same ∙ bar_place N (peer_of d) 0 8 (omega arith) (omega arith)

pub block_place : (N d : ℕ) → d < 8
    → region_of (generated N) (peer_bar d + (64 + 64 * (N % 32))) 64 ≡ Some (record { region = Bar (peer_of d); offset = 64 + 64 * (N % 32) })
block_place N d device = bar_place N (peer_of d) (64 + 64 * (N % 32)) 64 (omega arith) (omega arith)

-- ---- each job is sound

-- what the description says of a job, with the place that it is aimed at
abbrev misuses : Job → Place → Bool
misuses job place = is_writer job && is_bar place.region && nat_lt place.offset 8 && not (may_ring job && is_bell place (length_of job))

-- a job is sound where the place that it is aimed at is not its own device's, and where it rings each doorbell that it touches
sound_at : (D : Desc) (d : ℕ) (job : Job) (place : Place) → region_of D (address_of job) (length_of job) ≡ Some place
    → is_bar_of d place.region ≡ false → misuses job place ≡ false → IsSoundJob D d job
sound_at D d job place placed other bell =
    let is : place_of D job ≡ place = ap (λ (o : Option Place). unwrap_or o page_zero_if_nowhere) placed in
    record { placed = placed ∙ ap Some (sym is); not_own = ap (λ (p : Place). is_bar_of d p.region) is ∙ other; bell = ap (misuses job) is ∙ bell }

not_own : (d : ℕ) → d < 8 → (peer_of d == d) ≡ false
not_own d device = ne_eqb (peer_of d) d (λ (same : peer_of d ≡ d). omega arith)

pub sound_load_job : (N d : ℕ) → d < 8 → (j : ℕ) → j < 35 → IsSoundJob (generated N) d (load_job N d j)
sound_load_job N d device = each_kind (λ (j : ℕ). IsSoundJob (generated N) d (load_job N d j)) counts bell rung block
  where
    counts : (j : ℕ) → j < 32 → IsSoundJob (generated N) d (load_job N d j)
    counts j below =
        subst (IsSoundJob (generated N) d) (sym (count_is N d j below)) (sound_at (generated N) d (count_job N d j) _ (count_place N d j device below) refl refl)

    bell : IsSoundJob (generated N) d (load_job N d 32)
    bell = subst (IsSoundJob (generated N) d) (sym (bell_is N d)) (sound_at (generated N) d (bell_job d) _ (bell_place N d device) (not_own d device) refl)

    rung : IsSoundJob (generated N) d (load_job N d 33)
    rung = subst (IsSoundJob (generated N) d) (sym (rung_is N d)) (sound_at (generated N) d (rung_job d) _ (rung_place N d device) refl refl)

    block : IsSoundJob (generated N) d (load_job N d 34)
    block =
        let after : nat_lt (64 + 64 * (N % 32)) 8 ≡ false = le-ltb _ _ (omega arith) in
        subst (IsSoundJob (generated N) d) (sym (block_is N d))
        (sound_at (generated N) d (block_job N d) _ (block_place N d device) (not_own d device) (and_left _ _ after))

-- a sound job has no fault
no_fault : (D : Desc) (d j : ℕ) (job : Job) → IsSoundJob D d job → job_fault D d j job ≡ None
no_fault D d j job sound =
    cond-false (is_none (region_of D (address_of job) (length_of job))) _ _ (ap is_none sound.placed)
    ∙ cond-false (is_bar_of d (place_of D job).region) _ _ sound.not_own
    ∙ cond-false (is_bell_misused D job) _ _ sound.bell

no_jobs_fault : (D : Desc) (d k : ℕ) (jobs : List Job) → ((j : ℕ) → j < length jobs → IsSoundJob D d (get_or jobs j no_job)) → jobs_fault D d k jobs ≡ None
no_jobs_fault D d k [] sound = refl
no_jobs_fault D d k (job ∷ jobs) sound =
    ap (λ (o : Option DescFault). option_or o (jobs_fault D d (k + 1) jobs)) (no_fault D d k job (sound 0 (omega arith)))
    ∙ no_jobs_fault D d (k + 1) jobs (λ j below. sound (suc j) (omega arith))

no_devices_fault : (D : Desc) (k : ℕ) (shapes : List DevShape)
    → ((d : ℕ) → d < length shapes → jobs_fault D (k + d) 0 (get_or shapes d no_shape).jobs ≡ None) → devices_fault D k shapes ≡ None
no_devices_fault D k [] none = refl
no_devices_fault D k (shape ∷ shapes) none =
    let first : k + 0 ≡ k = omega arith in
    let shift : (d : ℕ) → k + 1 + d ≡ k + suc d = λ d. omega arith in
    ap (λ (o : Option DescFault). option_or o (devices_fault D (k + 1) shapes)) (ap (λ (d : ℕ). jobs_fault D d 0 shape.jobs) (sym first) ∙ none 0 (omega arith))
    ∙ no_devices_fault D (k + 1) shapes (λ d below. ap (λ (e : ℕ). jobs_fault D e 0 (get_or shapes d no_shape).jobs) (shift d) ∙ none (suc d) (omega arith))

-- ---- and in its ranges

in_range_job : (N d : ℕ) → N < 2 ^ 32 → d < 8 → (j : ℕ) → j < 35 → is_job_in_range (load_job N d j) ≡ true
in_range_job N d small device = each_kind (λ (j : ℕ). is_job_in_range (load_job N d j) ≡ true) counts bell rung block
  where
    takes_at : (at : ℕ) → at < 2 ^ 33 → takes At at ≡ true
    takes_at at below = and_from _ _ (and_from _ _ (le-leb 0 at (omega arith)) (le-leb at (2 ^ 64 - 1) (omega arith))) refl

    takes_value : (value : ℕ) → value < 2 ^ 33 → takes Value value ≡ true
    takes_value value below = and_from _ _ (and_from _ _ (le-leb 0 value (omega arith)) (le-leb value (2 ^ 64 - 1) (omega arith))) refl

    counts : (j : ℕ) → j < 32 → is_job_in_range (load_job N d j) ≡ true
    counts j below = ap is_job_in_range (count_is N d j below) ∙ and_from _ _ (takes_at (address_of (count_job N d j)) (omega arith)) (takes_value (N + d + j + 1) (omega arith))

    bell : is_job_in_range (load_job N d 32) ≡ true
    bell = ap is_job_in_range (bell_is N d) ∙ and_from _ _ (takes_at (peer_bar d) (omega arith)) refl

    rung : is_job_in_range (load_job N d 33) ≡ true
    rung = ap is_job_in_range (rung_is N d) ∙ and_from _ _ (takes_at (own_pages d * 4096) (omega arith)) refl

    block : is_job_in_range (load_job N d 34) ≡ true
    block = ap is_job_in_range (block_is N d) ∙ and_from _ _ (takes_at (address_of (block_job N d)) (omega arith)) refl

-- a test that each item of a list of so many numbers passes
each_of_range : {X : Type 0} (test : X → Bool) (f : ℕ → X) (a n : ℕ) → ((j : ℕ) → j < a + n → test (f j) ≡ true) → list_all test (map f (range_with_len a n)) ≡ true
each_of_range test f a zero each = refl
each_of_range test f a (suc n) each = and_from _ _ (each a (omega arith)) (each_of_range test f (a + 1) n (λ j below. each j (omega arith)))

shape_in_range : (N d : ℕ) → N < 2 ^ 32 → d < 8 → ShapeInRange (load_shape N d)
unfolding load_shape load_queue
shape_in_range N d small device = record {
  name = name;
  flags = refl;
  bars = refl;
  window_low = omega arith;
  window_high = omega arith;
  budget = omega arith;
  fails = omega arith;
  job_count = omega arith;
  jobs = each_of_range is_job_in_range (load_job N d) 0 35 (λ j below. in_range_job N d small device j (omega arith));
  queue_length = omega arith;
  queue = refl;
}
  where
    name : is_name (100 ∷ (48 + d) ∷ []) ≡ true
    name =
        let digit : is_name_byte (48 + d) ≡ true = or_left _ _ (or_right _ _ (and_from _ _ (le-leb 48 (48 + d) (omega arith)) (le-leb (48 + d) 57 (omega arith)))) in
        and_from _ _ refl (and_from _ _ refl (and_from _ _ digit refl))

in_range : (N : ℕ) → N < 2 ^ 32 → InRange (generated N)
unfolding generated
in_range N small = record {
  session = omega arith;
  page = refl;
  pages_low = omega arith;
  pages_high = omega arith;
  channels_low = omega arith;
  channels_high = omega arith;
  version_low = omega arith;
  version_high = omega arith;
  begin = omega arith;
  rounds = omega arith;
  threshold = omega arith;
  count_low = omega arith;
  count_high = omega arith;
  devices = λ d inside. subst ShapeInRange (sym (shape_is N d inside)) (shape_in_range N d small inside);
}

names_differ : (N : ℕ) → name_twice [] 0 (generated N).devices ≡ None
unfolding generated load_shape
names_differ N = refl

all_have_p2p : (N : ℕ) → (if nat_lt 1 (device_count (generated N)) then lacks_p2p 0 (generated N).devices else None) ≡ None
unfolding generated load_shape
all_have_p2p N = refl

jobs_sound : (N : ℕ) → devices_fault (generated N) 0 (generated N).devices ≡ None
unfolding load_shape
jobs_sound N = no_devices_fault (generated N) 0 (generated N).devices each
  where
    each : (d : ℕ) → d < length (generated N).devices → jobs_fault (generated N) (0 + d) 0 (shape_at (generated N) d).jobs ≡ None
    each d below =
        let device : d < 8 = subst (λ (n : ℕ). d < n) (devices_are N) below in
        let start : 0 + d ≡ d = omega arith in
        ap₂ (λ (e : ℕ) (s : DevShape). jobs_fault (generated N) e 0 s.jobs) start (shape_is N d device)
        ∙ no_jobs_fault (generated N) d 0 (load_shape N d).jobs
        (λ j within. subst (IsSoundJob (generated N) d) (sym (get_or-map-range_with_len (load_job N d) 0 35 j j no_job within (omega arith))) (sound_load_job N d device j within))

no_form_fault : (N : ℕ) → form_fault (generated N) ≡ None
unfolding form_fault
no_form_fault N =
    ap (λ (o : Option DescFault). option_or o (option_or (devices_fault (generated N) 0 (generated N).devices) (if nat_lt 1 (device_count (generated N)) then lacks_p2p 0 (generated N).devices else None))) (names_differ N)
    ∙ ap (λ (o : Option DescFault). option_or o (if nat_lt 1 (device_count (generated N)) then lacks_p2p 0 (generated N).devices else None)) (jobs_sound N)
    ∙ all_have_p2p N

pub generated_valid : (N : ℕ) → N < 2 ^ 32 → IsValid (generated N)
generated_valid N small = record { in_range = in_range N small; sound = no_form_fault N }
