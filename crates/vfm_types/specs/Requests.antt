-- Which requests of the plain machine are enabled, and what it is to do one, or many.
use Rattle.std.specs.Prelude.{ℕ, zero, suc, ◌+◌, ◌==◌, ◌||◌, not, Bool, true, false, if◌then◌else◌, List, [], ◌∷◌, Option, Some, None}
use Rattle.vfm_types.specs.declared.job.Job.{Job}
use Rattle.vfm_types.specs.declared.desc.Desc.{Desc}
use Rattle.vfm_types.specs.Desc.{shape_at, job_at}
use Rattle.vfm_types.specs.Job.{is_fence}
use Rattle.vfm_types.specs.Machine.{DeviceState, Machine, device_of, with_device, described, effect}

-- the job of the request with this number among pending ones
abbrev pub job_or_zero : ℕ → List (ℕ × ℕ) → ℕ
job_or_zero n [] = 0
job_or_zero n (request ∷ requests) = if request.0 == n then request.1 else job_or_zero n requests

-- pending requests without the one of this number
abbrev pub without : ℕ → List (ℕ × ℕ) → List (ℕ × ℕ)
without n [] = []
without n (request ∷ requests) = if request.0 == n then requests else request ∷ without n requests

-- request n stands among the first `window` of these, after none that fences it off; a fence only where it is first
abbrev pub is_free : (ℕ → Bool) → Bool → ℕ → List (ℕ × ℕ) → ℕ → Bool
is_free fence first zero requests n = false
is_free fence first (suc window) [] n = false
is_free fence first (suc window) (request ∷ requests) n =
    if request.0 == n then first || not (fence request.1)
    else (if fence request.1 then false else is_free fence false window requests n)

-- job j of device d is a fence
abbrev pub fences : Desc → ℕ → ℕ → Bool
fences D d j = is_fence (job_at D d j)

-- Request n of device d is enabled: among the device's first `window` pending requests, with no fence before it, and
-- first where it is a fence itself.
abbrev pub is_enabled : Desc → Machine → ℕ → ℕ → Bool
is_enabled D m d n = is_free (fences D d) true (shape_at D d).window (device_of m d).pending n

-- the job of request n of device d
abbrev pub job_of : Desc → Machine → ℕ → ℕ → Job
job_of D m d n = job_at D d (job_or_zero n (device_of m d).pending)

-- the device with request n taken from its pending ones, and one more done
abbrev pub taken : DeviceState → ℕ → DeviceState
taken dev n = record dev { pending = without n dev.pending; done = dev.done + 1 }

-- the machine after request n of device d is done: taken, counted, and its whole effect made, in one step
abbrev pub do_request : Desc → Machine → ℕ → ℕ → Machine
do_request D m d n = effect D (with_device m d (taken (device_of m d) n)) d (job_of D m d n)

-- the machine after these requests are done in order, if each is enabled in its turn
abbrev pub plain_from : Desc → Machine → List (ℕ × ℕ) → Option Machine
plain_from D m [] = Some m
plain_from D m (request ∷ requests) =
    if is_enabled D m request.0 request.1 then plain_from D (do_request D m request.0 request.1) requests else None

-- the described machine after these requests
abbrev pub plain : Desc → List (ℕ × ℕ) → Option Machine
plain D requests = plain_from D (described D) requests
