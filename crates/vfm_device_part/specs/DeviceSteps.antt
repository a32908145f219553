-- The entries of one device: what they ask of its part, and what they make of it.
use Rattle.std.specs.Prelude.{◌≡◌, ℕ, ◌<◌, ◌==◌, Bool, false, if◌then◌else◌, List, [], Option, None, Some}
use Rattle.vfm_base.specs.Tests.{first_failed}
use Rattle.vfm_types.specs.declared.desc.Desc.{Desc}
use Rattle.vfm_types.specs.declared.entry.Entry.{Entry}
use Rattle.vfm_types.specs.declared.entry.Entry.TheVariants.{Issue, Deliver, Complete}
use Rattle.vfm_types.specs.declared.entry.Rule.{Rule}
use Rattle.vfm_types.specs.declared.job.Job.{Job}
use Rattle.vfm_types.specs.declared.job.Region.{Region}
use Rattle.vfm_types.specs.declared.job.Region.TheVariants.{Page, Bar}
use Rattle.vfm_types.specs.Desc.{device_count, no_job}
use Rattle.vfm_types.specs.Outstanding.{is_undelivered}
use Rattle.vfm_plain.specs.Condition.{Condition}
use Rattle.vfm_parts.specs.Parts.{Dev}
use Rattle.vfm_parts.specs.IssueStep.{issue_conditions_in, issued_dev}
use Rattle.vfm_parts.specs.DeliverStep.{deliver_conditions_in, delivered_dev, job_in, region_of_job}
use Rattle.vfm_parts.specs.CompleteStep.{complete_conditions_in, completed_dev}

-- the entry is an Issue or a Complete of device d
abbrev pub is_own_of : ℕ → Entry → Bool
is_own_of d (Issue e n) = e == d
is_own_of d (Complete e n) = e == d
is_own_of d entry = false

-- the entry is a Deliver of device d
abbrev pub is_delivery_of : ℕ → Entry → Bool
is_delivery_of d (Deliver e n) = e == d
is_delivery_of d entry = false

-- the entry is one of device d: an Issue, a Deliver or a Complete
abbrev pub is_step_of : ℕ → Entry → Bool
is_step_of d (Issue e n) = e == d
is_step_of d (Deliver e n) = e == d
is_step_of d (Complete e n) = e == d
is_step_of d entry = false

-- the conditions of an entry of a device, in the order in which they are tested, read off its part; other entries have none
abbrev pub own_conditions_in : Desc → Entry → Dev → List Condition
own_conditions_in D (Issue d n) dev = issue_conditions_in D d n dev
own_conditions_in D (Deliver d n) dev = deliver_conditions_in n dev
own_conditions_in D (Complete d n) dev = complete_conditions_in n dev
own_conditions_in D entry dev = []

-- the first rule that it breaks
abbrev pub own_fault : Desc → Entry → Dev → Option Rule
own_fault D entry dev = first_failed (own_conditions_in D entry dev)

-- the device's part after its Issue or Complete
abbrev pub own_after : Desc → Entry → Dev → Dev
own_after D (Issue d n) dev = issued_dev n dev
own_after D (Complete d n) dev = completed_dev D d n dev
own_after D entry dev = dev

-- the job of a delivery
abbrev pub delivered_job : Desc → Entry → Dev → Job
delivered_job D (Deliver d n) dev = job_in D d n dev
delivered_job D entry dev = no_job

-- the issuing device's part after its delivery, where the target had these bytes
abbrev pub issuer_after : Desc → Entry → List ℕ → Dev → Dev
issuer_after D (Deliver d n) target dev = delivered_dev D d n target dev
issuer_after D entry target dev = dev

-- where request n of device d is aimed, if it waits for its delivery
abbrev pub target_in : Desc → ℕ → ℕ → Dev → Option Region
target_in D d n dev = if is_undelivered n dev.requests then Some (region_of_job D (job_in D d n dev)) else None

-- a region is there, and isn't the BARs of device d itself
abbrev pub IsTarget : Desc → ℕ → Region → Type 0
IsTarget D d (Page p) = p < D.pages
IsTarget D d (Bar t) = (t < device_count D) × ((t == d) ≡ false)

-- the delivery, where it is allowed, is aimed at this region
abbrev pub IsAimed : Desc → Entry → Dev → Region → Type 0
IsAimed D entry dev region = own_fault D entry dev ≡ None → region_of_job D (delivered_job D entry dev) ≡ region

-- page p with these bytes, and every other one as it was
abbrev pub with_page : ℕ → List ℕ → (ℕ → List ℕ) → ℕ → List ℕ
with_page p bytes pages q = if p == q then bytes else pages q
