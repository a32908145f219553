-- Lists made item by item, and what is made of them.
use Rattle.std.proofs.Common.{◌≡◌, ℕ, ◌+◌, ◌%◌, ◌==◌, List, [], ◌∷◌, ◌++◌, map, refl, ap, ap₂, sym, ◌∙◌, arith}
use Rattle.std.specs.List.{range_with_len}
use Rattle.std.proofs.lemmas.List.FromFn.{map-range_with_len_more}
use Rattle.vfm_types.specs.declared.job.Job.{Job}
use Rattle.vfm_types.specs.declared.desc.DevShape.{DevShape}
use Rattle.vfm_loads.specs.Generated.{queued_job, load_job, load_queue, load_shape, generated}

-- one item more of a list by numbers
pub made_more : {X : Type 0} (f : ℕ → X) (xs : List X) (x : X) (n : ℕ) → xs ≡ map f (range_with_len 0 n) → x ≡ f n
    → xs ++ x ∷ [] ≡ map f (range_with_len 0 (n + 1))
made_more f xs x n before is =
    ap₂ (λ (ys : List _) (y : _). ys ++ y ∷ []) before is ∙ sym (map-range_with_len_more f 0 n n (omega arith))

pub queue_made : (queue : List ℕ) (n : ℕ) → n ≡ 1088 → queue ≡ map queued_job (range_with_len 0 n) → queue ≡ load_queue
unfolding load_queue
queue_made queue n end is = is ∙ ap (λ (k : ℕ). map queued_job (range_with_len 0 k)) end

pub shape_made : (N d : ℕ) (name : List ℕ) (flags : ℕ) (bars : List ℕ) (jobs : List Job) (queue : List ℕ) → name ≡ 100 ∷ (48 + d) ∷ [] → flags ≡ 7
    → bars ≡ 4096 ∷ [] → jobs ≡ map (load_job N d) (range_with_len 0 35) → queue ≡ load_queue
    → record { name = name; flags = flags; bars = bars; window = 4; tells = d % 2 == 0; budget = 2000; fails = 0; jobs = jobs; queue = queue } ≡ load_shape N d
unfolding load_shape
shape_made N d name flags bars jobs queue is_name is_flags is_bars is_jobs is_queue = rw (is_name, is_flags, is_bars, is_jobs, is_queue) refl

pub load_made : (N session : ℕ) (devices : List DevShape) → session ≡ N → devices ≡ map (load_shape N) (range_with_len 0 8)
    → record { session = session; page = 4096; pages = 256; channels = 8; version = 1; begin = 16; rounds = 3; threshold = 8; devices = devices } ≡ generated N
unfolding generated
load_made N session devices is_session is_devices = rw (is_session, is_devices) refl
