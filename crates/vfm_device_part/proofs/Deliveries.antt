-- A request that waits for its delivery: it is pending, and aimed at a region that is there.
use Rattle.std.proofs.Common.{◌≡◌, ℕ, ◌+◌, ◌<◌, ◌≤◌, Bool, true, false, if◌then◌else◌, [], ◌∷◌, Some, None, length, refl, sym, subst, ap, ◌∙◌}
use Rattle.std.proofs.lemmas.Option.{none-some, same_Some}
use Rattle.vfm_base.specs.Tests.{first_failed}
use Rattle.vfm_types.specs.declared.desc.Desc.{Desc}
use Rattle.vfm_types.specs.declared.job.Region.{Region}
use Rattle.vfm_types.specs.declared.job.Region.TheVariants.{Page, Bar}
use Rattle.vfm_types.specs.declared.entry.Rule.TheVariants.{Turn}
use Rattle.vfm_types.specs.Desc.{bar_bytes, device_count, shape_at}
use Rattle.vfm_types.specs.Job.{is_bar_of, length_of, place_of}
use Rattle.vfm_types.specs.Outstanding.{is_undelivered}
use Rattle.vfm_types.specs.Requests.{job_or_zero}
use Rattle.vfm_types.specs.Valid.{IsValid}
use Rattle.vfm_plain.specs.Shape.{LiesIn}
use Rattle.vfm_laws.specs.Queues.{is_listed, waiting}
use Rattle.vfm_laws.proofs.Rising.{listed_front}
use Rattle.vfm_laws.proofs.Waiting.{undelivered_listed}
use Rattle.vfm_parts.specs.Parts.{Dev}
use Rattle.vfm_parts.specs.Fits.{DevFits}
use Rattle.vfm_parts.specs.DeliverStep.{deliver_conditions_in, job_in, region_of_job}
use Rattle.vfm_parts_laws.proofs.FittingQueues.{job_exists, job_lies, job_sound}
use Rattle.vfm_device_part.specs.DeviceSteps.{IsTarget, target_in}

pub waits_fine : (n : ℕ) (dev : Dev) → is_undelivered n dev.requests ≡ true → first_failed (deliver_conditions_in n dev) ≡ None
waits_fine n dev waits = rw waits refl

pub waits_listed : (D : Desc) (d n : ℕ) (dev : Dev) → DevFits D d dev → is_undelivered n dev.requests ≡ true → is_listed n dev.plain.pending ≡ true
waits_listed D d n dev fits waits =
    ap (is_listed n) fits.queue.pending ∙ listed_front n (waiting dev.requests) fits.queue.rest (undelivered_listed n dev.requests waits)

pub waits_known : (D : Desc) (d n : ℕ) (dev : Dev) → DevFits D d dev → is_undelivered n dev.requests ≡ true
    → job_or_zero n dev.plain.pending < length (shape_at D d).jobs
waits_known D d n dev fits waits = job_exists D d n dev fits (waits_fine n dev waits)

is_target : (D : Desc) (d offset len : ℕ) (region : Region) → LiesIn D region offset len → is_bar_of d region ≡ false → IsTarget D d region
is_target D d offset len (Page p) lies other = lies.0
is_target D d offset len (Bar t) lies other = (lies.0, other)

pub waits_target : (D : Desc) (d n : ℕ) (dev : Dev) → IsValid D → d < device_count D → DevFits D d dev → is_undelivered n dev.requests ≡ true
    → IsTarget D d (region_of_job D (job_in D d n dev))
waits_target D d n dev valid inside fits waits =
    let job = job_in D d n dev in
    is_target D d (place_of D job).offset (length_of job) (place_of D job).region (job_lies D d n dev valid inside fits (waits_fine n dev waits))
    (job_sound D d n dev valid inside fits (waits_fine n dev waits)).not_own

-- what lies in a region that is the BARs of device t, or page p
pub lies_in_bar : (D : Desc) (t offset len : ℕ) (region : Region) → region ≡ Bar t → LiesIn D region offset len → offset + len ≤ bar_bytes (shape_at D t)
lies_in_bar D t offset len region is lies = (subst (λ (r : Region). LiesIn D r offset len) is lies).1

pub lies_in_page : (D : Desc) (p offset len : ℕ) (region : Region) → region ≡ Page p → LiesIn D region offset len → offset + len ≤ D.page
lies_in_page D p offset len region is lies = (subst (λ (r : Region). LiesIn D r offset len) is lies).1

pub aimed_is : (D : Desc) (d n : ℕ) (dev : Dev) (region : Region) → target_in D d n dev ≡ Some region → region_of_job D (job_in D d n dev) ≡ region
aimed_is D d n dev region is = go (is_undelivered n dev.requests) is
  where
    go : (b : Bool) → (if b then Some (region_of_job D (job_in D d n dev)) else None) ≡ Some region → region_of_job D (job_in D d n dev) ≡ region
    go true h = same_Some (region_of_job D (job_in D d n dev)) region h
    go false h = absurd (none-some region h)

pub aimless_turn : (D : Desc) (d n : ℕ) (dev : Dev) → target_in D d n dev ≡ None → first_failed (deliver_conditions_in n dev) ≡ Some Turn
aimless_turn D d n dev is = go (is_undelivered n dev.requests) is
  where
    go : (b : Bool) → (if b then Some (region_of_job D (job_in D d n dev)) else None) ≡ None → first_failed ((b, Turn) ∷ []) ≡ Some Turn
    go true h = absurd (none-some (region_of_job D (job_in D d n dev)) (sym h))
    go false h = refl
