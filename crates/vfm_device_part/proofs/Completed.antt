-- A completed request: its job is known, and the page that it wrote is marked as the entry marks it.
use Rattle.std.proofs.Common.{◌≡◌, ℕ, ◌+◌, ◌<◌, ◌==◌, ◌||◌, Bool, true, false, if◌then◌else◌, List, [], ◌∷◌, Option, None, Some, refl, sym, ap, ◌∙◌}
use Rattle.std.specs.Prelude.{All}
use Rattle.std.proofs.lemmas.Bool.{false≢true}
use Rattle.std.proofs.lemmas.List.Elements.{All-head, All-tail}
use Rattle.vfm_base.specs.Tests.{first_failed}
use Rattle.vfm_types.specs.declared.desc.Desc.{Desc}
use Rattle.vfm_types.specs.Desc.{job_at}
use Rattle.vfm_types.specs.Outstanding.{Outstanding, complete_if, is_arrived, is_outstanding, outstanding_job_or_zero}
use Rattle.vfm_types.specs.Valid.{IsValid}
use Rattle.vfm_parts.specs.Parts.{Dev}
use Rattle.vfm_parts.specs.Fits.{DevFits}
use Rattle.vfm_parts.specs.CompleteStep.{complete_conditions_in, completed_dev}
use Rattle.vfm_dirty.specs.LogState.{Log}
use Rattle.vfm_dirty.specs.LogOfParts.{IsPageOf, log_of, with_log, with_page_marked, written_page}
use Rattle.vfm_dirty.proofs.OfParts.{completed_marks}

pub arrived_outstanding : (n : ℕ) (requests : List Outstanding) → is_arrived n requests ≡ true → is_outstanding n requests ≡ true
arrived_outstanding n [] arrived = absurd (false≢true arrived)
arrived_outstanding n (r ∷ requests) arrived =
    go (r.number == n) arrived (arrived_outstanding n requests)
  where
    go : (b : Bool) → (if b then r.is_delivered else is_arrived n requests) ≡ true → (is_arrived n requests ≡ true → is_outstanding n requests ≡ true)
        → (b || is_outstanding n requests) ≡ true
    go true h rest = refl
    go false h rest = rest h

pub arrived_fine : (n : ℕ) (dev : Dev) → is_arrived n dev.requests ≡ true → first_failed (complete_conditions_in n dev) ≡ None
arrived_fine n dev arrived = rw arrived refl

pub known_job : (jobs n : ℕ) (requests : List Outstanding) → All (λ (r : Outstanding). r.job < jobs) requests → is_arrived n requests ≡ true
    → outstanding_job_or_zero n requests < jobs
known_job jobs n [] all arrived = absurd (false≢true arrived)
known_job jobs n (r ∷ requests) all arrived =
    go (r.number == n) arrived (known_job jobs n requests (All-tail (λ (x : Outstanding). x.job < jobs) r requests all))
  where
    go : (b : Bool) → (if b then r.is_delivered else is_arrived n requests) ≡ true → (is_arrived n requests ≡ true → outstanding_job_or_zero n requests < jobs)
        → (if b then r.job else outstanding_job_or_zero n requests) < jobs
    go true h rest = All-head (λ (x : Outstanding). x.job < jobs) r requests all
    go false h rest = rest h

-- a mark neither starts nor stops a log
still_started : (page : Option ℕ) (log : Log) → (with_page_marked page log).started ≡ log.started
still_started None log = refl
still_started (Some p) log = go log.started refl
  where
    go : (b : Bool) → log.started ≡ b → (with_page_marked (Some p) log).started ≡ log.started
    go true is = rw is refl
    go false is = rw is refl

pub completed_is : (D : Desc) (d n : ℕ) (dev : Dev) → IsValid D → DevFits D d dev
    → IsPageOf D (written_page D (job_at D d (outstanding_job_or_zero n dev.requests)))
    → record (with_log (with_page_marked (written_page D (job_at D d (outstanding_job_or_zero n dev.requests))) (log_of dev)) dev) {
      requests = complete_if true n dev.requests;
      completes = dev.completes + 1;
    } ≡ completed_dev D d n dev
completed_is D d n dev valid fits inside =
    let page = written_page D (job_at D d (outstanding_job_or_zero n dev.requests)) in
    ap (λ (b : Bool). record dev { requests = complete_if true n dev.requests; completes = dev.completes + 1; logging = b; marks = (with_page_marked page (log_of dev)).marked })
    (still_started page (log_of dev))
    ∙ ap (λ (marks : List ℕ). record dev { requests = complete_if true n dev.requests; completes = dev.completes + 1; marks = marks })
    (sym (completed_marks D d n dev valid fits.marks inside))
