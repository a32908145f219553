-- What a valid description says of each of its jobs, and where a job's bytes lie.
use Rattle.std.proofs.Common.{◌≡◌, ℕ, suc, zero, ◌+◌, ◌*◌, ◌/◌, ◌%◌, ◌<◌, ◌≤◌, ◌&&◌, Bool, true, false, cond, nat_le, nat_lt, IsTrue, List, [], ◌∷◌, length, get_or, Option, Some, None, is_none, unwrap_or, mul_comm, ◌⊎◌, inl, inr, ⊎_elim, ◌^◌, refl, sym, ap, ◌∙◌, subst, arith}
use Rattle.std.proofs.Math.Nat.{div-lt_iff_lt-mul}
use Rattle.std.proofs.lemmas.Bool.{false≢true, leb-true, ltb-true}
use Rattle.std.proofs.lemmas.List.{get_or_default}
use Rattle.std.specs.Option.{option_or}
use Rattle.vfm_types.specs.declared.job.Job.{Job}
use Rattle.vfm_types.specs.declared.job.Job.TheVariants.{Write, Read, Store, Add}
use Rattle.vfm_types.specs.declared.job.Region.TheVariants.{Page, Bar}
use Rattle.vfm_types.specs.declared.job.Place.{Place}
use Rattle.vfm_types.specs.declared.desc.DevShape.{DevShape}
use Rattle.vfm_types.specs.declared.desc.Desc.{Desc}
use Rattle.vfm_types.specs.declared.fault.DescFault.{DescFault}
use Rattle.vfm_types.specs.declared.fault.FieldName.TheVariants.{At, Len}
use Rattle.vfm_types.specs.Ranges.{is_page_size, takes}
use Rattle.vfm_types.specs.Desc.{device_count, shape_at, bar_size, job_at, no_shape, no_job}
use Rattle.vfm_types.specs.Region.{region_of, is_in_page, is_in_bar, bar_base, bar_owner, bar_number, bar_offset, offset_in_bars}
use Rattle.vfm_types.specs.Job.{address_of, length_of, place_of, page_zero_if_nowhere, is_bar_of}
use Rattle.vfm_types.specs.DescFault.{form_fault, job_fault, jobs_fault, devices_fault, is_bell_misused, name_twice}
use Rattle.vfm_types.specs.Valid.{IsValid, IsSoundJob, is_job_in_range}
use Rattle.vfm_types.proofs.BarSizes.{bar_within}
use Rattle.vfm_types.proofs.FormFault.{list_all_one}
use Rattle.vfm_plain.specs.Shape.{Lies}

-- neither of two answers is there
first_none : {A : Type 0} (o p : Option A) → option_or o p ≡ None → o ≡ None
first_none None p e = refl
first_none (Some x) p e = e

then_none : {A : Type 0} (o p : Option A) → option_or o p ≡ None → p ≡ None
then_none None p e = e
then_none (Some x) p e = cc

-- no job of these has a fault
each_job : (D : Desc) (d k : ℕ) (jobs : List Job) → jobs_fault D d k jobs ≡ None → (j : ℕ) → j < length jobs → job_fault D d (k + j) (get_or jobs j no_job) ≡ None
each_job D d k [] none j h = absurd (omega arith)
each_job D d k (job ∷ jobs) none zero h =
    let e : k + 0 ≡ k = omega arith in
    ap (λ (i : ℕ). job_fault D d i job) e ∙ first_none (job_fault D d k job) (jobs_fault D d (k + 1) jobs) none
each_job D d k (job ∷ jobs) none (suc j) h =
    let e : k + suc j ≡ k + 1 + j = omega arith in
    ap (λ (i : ℕ). job_fault D d i (get_or jobs j no_job)) e
    ∙ each_job D d (k + 1) jobs (then_none (job_fault D d k job) (jobs_fault D d (k + 1) jobs) none) j (omega arith)

-- no device of these has a job with a fault
each_device : (D : Desc) (k : ℕ) (shapes : List DevShape) → devices_fault D k shapes ≡ None → (d : ℕ) → d < length shapes → jobs_fault D (k + d) 0 (get_or shapes d no_shape).jobs ≡ None
each_device D k [] none d h = absurd (omega arith)
each_device D k (shape ∷ shapes) none zero h =
    let e : k + 0 ≡ k = omega arith in
    ap (λ (i : ℕ). jobs_fault D i 0 shape.jobs) e ∙ first_none (jobs_fault D k 0 shape.jobs) (devices_fault D (k + 1) shapes) none
each_device D k (shape ∷ shapes) none (suc d) h =
    let e : k + suc d ≡ k + 1 + d = omega arith in
    ap (λ (i : ℕ). jobs_fault D i 0 (get_or shapes d no_shape).jobs) e
    ∙ each_device D (k + 1) shapes (then_none (jobs_fault D k 0 shape.jobs) (devices_fault D (k + 1) shapes) none) d (omega arith)

-- three tests of a job, none of which found a fault
no_cause : (o : Option Place) (b c : Bool) (x y z : DescFault) → cond (is_none o) (Some x) (cond b (Some y) (cond c (Some z) None)) ≡ None → (o ≡ Some (unwrap_or o page_zero_if_nowhere)) × (b ≡ false) × (c ≡ false)
no_cause None b c x y z e = absurd (cc)
no_cause (Some place) true c x y z e = absurd (cc)
no_cause (Some place) false true x y z e = absurd (cc)
no_cause (Some place) false false x y z e = (refl, refl, refl)

-- a job without a fault is sound
no_fault_sound : (D : Desc) (d j : ℕ) (job : Job) → job_fault D d j job ≡ None → IsSoundJob D d job
no_fault_sound D d j job none =
    let h = no_cause (region_of D (address_of job) (length_of job)) (is_bar_of d (place_of D job).region) (is_bell_misused D job) _ _ _ none in
    record { placed = h.0; not_own = h.1; bell = h.2 }

devices_none : (D : Desc) → form_fault D ≡ None → devices_fault D 0 D.devices ≡ None
unfolding form_fault
devices_none D none = first_none _ _ (then_none (name_twice [] 0 D.devices) _ none)

-- each job of a valid description is sound
pub sound_job : (D : Desc) (d j : ℕ) → IsValid D → d < device_count D → j < length (shape_at D d).jobs → IsSoundJob D d (job_at D d j)
sound_job D d j valid within there =
    let at : (k : ℕ) → 0 + k ≡ k = λ k. omega arith in
    let device : jobs_fault D d 0 (shape_at D d).jobs ≡ None =
    ap (λ (i : ℕ). jobs_fault D i 0 (shape_at D d).jobs) (sym (at d)) ∙ each_device D 0 D.devices (devices_none D valid.sound) d within in
    no_fault_sound D d j (job_at D d j) (ap (λ (i : ℕ). job_fault D d i (job_at D d j)) (sym (at j)) ∙ each_job D d 0 (shape_at D d).jobs device j there)

-- each job of a valid description is in its ranges
pub job_in_range : (D : Desc) (d j : ℕ) → IsValid D → d < device_count D → j < length (shape_at D d).jobs → IsTrue (is_job_in_range (job_at D d j))
job_in_range D d j valid within there =
    list_all_one is_job_in_range (shape_at D d).jobs j (job_at D d j) there (get_or_default (shape_at D d).jobs j no_job (job_at D d j) there) (valid.in_range.devices d within).jobs

-- a page has bytes
pub some_page : (n : ℕ) → IsTrue (is_page_size n) → 0 < n
some_page zero h = absurd (false≢true h)
some_page (suc n) h = omega arith

-- both of two tests pass
pub both : (b c : Bool) → (b && c) ≡ true → (b ≡ true) × (c ≡ true)
both true c h = (refl, h)
both false c h = absurd (false≢true h)

-- which of two places was found
found_at : (b c : Bool) (p q place : Place) → cond b (Some p) (cond c (Some q) None) ≡ Some place → ((b ≡ true) × (p ≡ place)) ⊎ ((c ≡ true) × (q ≡ place))
found_at true c p q place e = inl (refl, cc)
found_at false true p q place e = inr (refl, cc)
found_at false false p q place e = absurd (cc)

-- the bytes of a place lie in its region
pub lies_of_region : (D : Desc) (at len : ℕ) (place : Place) → IsTrue (is_page_size D.page) → 1 ≤ len → region_of D at len ≡ Some place → Lies D place len
lies_of_region D at len place size some e =
    ⊎_elim page bar (found_at (is_in_page D at len) (is_in_bar D at len) (record { region = Page (at / D.page); offset = at % D.page }) (record { region = Bar (bar_owner at); offset = offset_in_bars D at }) place e)
  where
    page : (is_in_page D at len ≡ true) × (record { region = Page (at / D.page); offset = at % D.page } ≡ place) → Lies D place len
    page h =
        let tests = both (nat_le (at + len) (D.page * D.pages)) (nat_le (at % D.page + len) D.page) h.0 in
        let end : at + len ≤ D.page * D.pages = leb-true _ _ tests.0 in
        let size' = mul_comm D.page D.pages in
        subst (λ (x : Place). Lies D x len) h.1 ((div-lt_iff_lt-mul (some_page D.page size)).1 (omega arith), leb-true _ _ tests.1)

    bar : (is_in_bar D at len ≡ true) × (record { region = Bar (bar_owner at); offset = offset_in_bars D at } ≡ place) → Lies D place len
    bar h =
        let shape = shape_at D (bar_owner at) in
        let tests = both (nat_le bar_base at && nat_lt (bar_owner at) (device_count D)) (nat_le (bar_offset at + len) (bar_size shape (bar_number at))) h.0 in
        let owner = both (nat_le bar_base at) (nat_lt (bar_owner at) (device_count D)) tests.0 in
        let end : bar_offset at + len ≤ bar_size shape (bar_number at) = leb-true _ _ tests.1 in
        subst (λ (x : Place). Lies D x len) h.1 (ltb-true _ _ owner.1, omega (arith, end, bar_within shape (bar_number at)))

-- what a sound job touches lies in one region
pub lies_of_job : (D : Desc) (d : ℕ) (job : Job) → IsValid D → IsSoundJob D d job → 1 ≤ length_of job → Lies D (place_of D job) (length_of job)
lies_of_job D d job valid sound some =
    lies_of_region D (address_of job) (length_of job) (place_of D job) valid.in_range.page some sound.placed

-- a length in its range
length_in_range : (len : ℕ) → IsTrue (takes Len len) → (1 ≤ len) × (len ≤ 64)
length_in_range len is =
    let range = both (nat_le 1 len) (nat_le len 64) (both (nat_le 1 len && nat_le len 64) true is).0 in
    (leb-true _ _ range.0, leb-true _ _ range.1)

-- a job in its ranges touches 1 to 64 bytes
pub some_bytes : (job : Job) → IsTrue (is_job_in_range job) → (1 ≤ length_of job) × (length_of job ≤ 64)
some_bytes (Write at bytes) h = length_in_range (length bytes) (both (takes At at) (takes Len (length bytes)) h).1
some_bytes (Read at len) h = length_in_range len (both (takes At at) (takes Len len) h).1
some_bytes (Store at len) h = length_in_range len (both (takes At at) (takes Len len) h).1
some_bytes (Add at value) h = (omega arith, omega arith)
