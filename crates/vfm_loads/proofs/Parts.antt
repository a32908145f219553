-- What a generated load has: sizes, devices and jobs, by number.
use Rattle.std.proofs.Common.{◌≡◌, ℕ, ◌<◌, ◌≤◌, nat_lt, length, get_or, refl, ap, ◌∙◌, arith, ◌⊎◌, ⊎_elim, inl, inr, subst, sym}
use Rattle.std.proofs.lemmas.Bool.{cond-true, lt-ltb, cases_lt, cases_eq}
use Rattle.std.proofs.lemmas.List.FromFn.{get_or-map-range_with_len}
use Rattle.vfm_types.specs.declared.desc.DevShape.{DevShape}
use Rattle.vfm_types.specs.Desc.{device_count, shape_at, job_at, bar_size, no_shape, no_job}
use Rattle.vfm_loads.specs.Generated.{count_job, bell_job, rung_job, block_job, load_job, load_shape, generated}

pub page_size : (N : ℕ) → (generated N).page ≡ 4096
unfolding generated
page_size N = refl

pub page_count : (N : ℕ) → (generated N).pages ≡ 256
unfolding generated
page_count N = refl

pub devices_are : (N : ℕ) → device_count (generated N) ≡ 8
unfolding generated
devices_are N = refl

pub shape_is : (N d : ℕ) → d < 8 → shape_at (generated N) d ≡ load_shape N d
unfolding generated
shape_is N d inside = get_or-map-range_with_len (load_shape N) 0 8 d d no_shape inside (omega arith)

pub window_is : (N d : ℕ) → d < 8 → (shape_at (generated N) d).window ≡ 4
unfolding load_shape
window_is N d inside = ap (λ (s : DevShape). s.window) (shape_is N d inside)

pub budget_is : (N d : ℕ) → d < 8 → (shape_at (generated N) d).budget ≡ 2000
unfolding load_shape
budget_is N d inside = ap (λ (s : DevShape). s.budget) (shape_is N d inside)

pub bar_is : (N d : ℕ) → d < 8 → bar_size (shape_at (generated N) d) 0 ≡ 4096
unfolding load_shape
bar_is N d inside = ap (λ (s : DevShape). bar_size s 0) (shape_is N d inside)

pub job_count : (N d : ℕ) → d < 8 → length (shape_at (generated N) d).jobs ≡ 35
unfolding load_shape
job_count N d inside = ap (λ (s : DevShape). length s.jobs) (shape_is N d inside)

pub job_is : (N d j : ℕ) → d < 8 → j < 35 → job_at (generated N) d j ≡ load_job N d j
unfolding load_shape
job_is N d j inside below =
    ap (λ (s : DevShape). get_or s.jobs j no_job) (shape_is N d inside)
    ∙ get_or-map-range_with_len (load_job N d) 0 35 j j no_job below (omega arith)

-- ---- the kinds of jobs

pub count_is : (N d j : ℕ) → j < 32 → load_job N d j ≡ count_job N d j
unfolding load_job
count_is N d j below = cond-true (nat_lt j 32) _ _ (lt-ltb j 32 below)

pub bell_is : (N d : ℕ) → load_job N d 32 ≡ bell_job d
unfolding load_job
bell_is N d = refl

pub rung_is : (N d : ℕ) → load_job N d 33 ≡ rung_job d
unfolding load_job
rung_is N d = refl

pub block_is : (N d : ℕ) → load_job N d 34 ≡ block_job N d
unfolding load_job
block_is N d = refl

-- a fact of each of the 35 jobs
pub each_kind : (Fact : ℕ → Type 0) → ((j : ℕ) → j < 32 → Fact j) → Fact 32 → Fact 33 → Fact 34 → (j : ℕ) → j < 35 → Fact j
each_kind Fact counts bell rung block j below = ⊎_elim (counts j) (λ (high : 32 ≤ j). at (cases_eq j 32) (cases_eq j 33) high) (cases_lt j 32)
  where
    at : (j ≡ 32) ⊎ (j ≡ 32 → ⊥) → (j ≡ 33) ⊎ (j ≡ 33 → ⊥) → 32 ≤ j → Fact j
    at (inl same) other high = subst Fact (sym same) bell
    at (inr no_) (inl same) high = subst Fact (sym same) rung
    at (inr no_) (inr not) high =
        let last : 34 ≡ j = grind (arith, no_, not) in subst Fact last block
