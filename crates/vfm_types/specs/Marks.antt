-- Which pages a copying pass is over: what each device's dirty log marks, what its last report gave, and the sets of
-- the passes.
use Rattle.std.specs.Prelude.{ℕ, ◌==◌, ◌&&◌, ◌||◌, not, Bool, false, nat_lt, if◌then◌else◌, List, [], ◌∷◌, Option}
use Rattle.vfm_types.specs.declared.entry.Entry.{Entry}
use Rattle.vfm_types.specs.declared.entry.Entry.TheVariants.{Complete, Report, Pass, Copy, Begin}
use Rattle.vfm_types.specs.declared.job.Job.{Job}
use Rattle.vfm_types.specs.declared.desc.Desc.{Desc}
use Rattle.vfm_types.specs.Desc.{device_count, job_at}
use Rattle.vfm_types.specs.Job.{is_writer, place_of, is_page}
use Rattle.vfm_base.specs.Least.{any_below, count_below, least_below}
use Rattle.vfm_types.specs.Phases.{is_begun}
use Rattle.vfm_types.specs.Outstanding.{outstanding_of, outstanding_job_or_zero}

-- the job writes page p
abbrev pub writes_page : Desc → ℕ → Job → Bool
writes_page D p job = is_writer job && is_page p (place_of D job).region

-- the job of the outstanding request n of device d
abbrev pub outstanding_job : Desc → ℕ → ℕ → List Entry → Job
outstanding_job D d n past = job_at D d (outstanding_job_or_zero n (outstanding_of D d past))

-- Page p is marked in the log of device d: since the move began and since the device's last report, a request of its
-- that wrote the page was completed.
abbrev pub is_marked : Desc → ℕ → ℕ → List Entry → Bool
is_marked D d p [] = false
is_marked D d p (Complete e n ∷ past) =
    (e == d && is_begun past && writes_page D p (outstanding_job D e n past)) || is_marked D d p past
is_marked D d p (Report e ∷ past) = not (e == d) && is_marked D d p past
is_marked D d p (Begin ∷ past) = false
is_marked D d p (entry ∷ past) = is_marked D d p past

-- page p was in the last report of device d
abbrev pub was_reported : Desc → ℕ → ℕ → List Entry → Bool
was_reported D d p [] = false
was_reported D d p (Report e ∷ past) = if e == d then is_marked D d p past else was_reported D d p past
was_reported D d p (entry ∷ past) = was_reported D d p past

-- device d has reported since the newest pass began
abbrev pub has_reported : ℕ → List Entry → Bool
has_reported d [] = false
has_reported d (Report e ∷ past) = e == d || has_reported d past
has_reported d (Pass k ∷ past) = false
has_reported d (entry ∷ past) = has_reported d past

-- page p is in the set of the newest pass: every page in the first, and what the last reports gave in a later one
abbrev pub is_in_set : Desc → ℕ → List Entry → Bool
is_in_set D p [] = false
is_in_set D p (Pass k ∷ past) =
    if k == 1 then nat_lt p D.pages else any_below (device_count D) (λ d. was_reported D d p past)
is_in_set D p (entry ∷ past) = is_in_set D p past

-- page p was copied in the newest pass
abbrev pub is_copied : ℕ → List Entry → Bool
is_copied p [] = false
is_copied p (Copy q ∷ past) = q == p || is_copied p past
is_copied p (Pass k ∷ past) = false
is_copied p (entry ∷ past) = is_copied p past

-- the least page of the newest pass that isn't copied yet
abbrev pub next_copy : Desc → List Entry → Option ℕ
next_copy D past = least_below D.pages (λ p. is_in_set D p past && not (is_copied p past))

-- how many pages the newest pass is over
abbrev pub set_size : Desc → List Entry → ℕ
set_size D past = count_below D.pages (λ p. is_in_set D p past)
