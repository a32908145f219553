-- The mark of a completed request, as the entry makes it of a device's part.
use Rattle.std.proofs.Common.{◌≡◌, ℕ, ◌<◌, ◌≤◌, ◌==◌, ◌&&◌, ◌||◌, Bool, true, false, if◌then◌else◌, List, None, refl, sym, ap, ◌∙◌, arith}
use Rattle.vfm_base.specs.PageSet.{contains_page, pages_where}
use Rattle.vfm_base.proofs.NumbersWhere.{contains-numbers_where_above}
use Rattle.vfm_types.specs.declared.desc.Desc.{Desc}
use Rattle.vfm_types.specs.declared.job.Job.{Job}
use Rattle.vfm_types.specs.declared.job.Region.{Region}
use Rattle.vfm_types.specs.declared.job.Region.TheVariants.{Page, Bar}
use Rattle.vfm_types.specs.Desc.{job_at}
use Rattle.vfm_types.specs.Job.{is_page, is_writer, place_of}
use Rattle.vfm_types.specs.Outstanding.{outstanding_job_or_zero}
use Rattle.vfm_types.specs.Valid.{IsValid}
use Rattle.vfm_parts.specs.Parts.{Dev, numbers_below}
use Rattle.vfm_parts.specs.Fits.{IsSetBelow}
use Rattle.vfm_parts.specs.CompleteStep.{marks_after_complete}
use Rattle.vfm_parts.proofs.Sets.{below_same, pages_below}
use Rattle.vfm_dirty.specs.LogOfParts.{IsPageOf, log_of, page_in, with_page_marked, written_page}

-- no page is written
unwritten : (n : ℕ) (marks : List ℕ) (test : ℕ → Bool) → IsSetBelow n marks → ((q : ℕ) → test q ≡ false) → numbers_below n (λ q. test q || contains_page marks q) ≡ marks
unwritten n marks test fits none =
    below_same n (λ q. test q || contains_page marks q) (contains_page marks) (λ q low. ap (λ (b : Bool). b || contains_page marks q) (none q)) ∙ sym fits

turned : (held : Bool) (p q : ℕ) → ((p == q) || held) ≡ (held || q == p)
turned held p q = grind arith

neither : (held : Bool) (p q : ℕ) → held ≡ false → p < q → (held || q == p) ≡ false
neither held p q none low = grind arith

-- page p is written
marked : (n p : ℕ) (marks : List ℕ) → n ≤ 1024 → p < n → IsSetBelow n marks
    → numbers_below n (λ q. (p == q) || contains_page marks q) ≡ pages_where (λ q. contains_page marks q || q == p)
marked n p marks few inside fits =
    below_same n (λ q. (p == q) || contains_page marks q) (λ q. contains_page marks q || q == p) (λ q low. turned (contains_page marks q) p q)
    ∙ sym (pages_below n (λ q. contains_page marks q || q == p) few
    (λ q above. neither (contains_page marks q) p q (none q above) (omega arith)))
  where
    none : (q : ℕ) → n ≤ q → contains_page marks q ≡ false
    none q above = ap (λ (s : List ℕ). contains_page s q) fits ∙ contains-numbers_where_above (contains_page marks) 0 n q (omega arith)

-- a page is written, or none is
by_page : (n : ℕ) (marks : List ℕ) (writer : Bool) (region : Region) (bound : Desc) → bound.pages ≡ n → n ≤ 1024 → IsSetBelow n marks
    → IsPageOf bound (if writer then page_in region else None) → (logging : Bool)
    → (if logging then numbers_below n (λ q. (writer && is_page q region) || contains_page marks q) else marks)
    ≡ (with_page_marked (if writer then page_in region else None) (record { started = logging; marked = marks })).marked
by_page n marks true (Page p) bound same few fits inside true = marked n p marks few (omega (arith, same, inside)) fits
by_page n marks true (Page p) bound same few fits inside false = refl
by_page n marks true (Bar t) bound same few fits inside true = unwritten n marks (λ q. false) fits (λ q. refl)
by_page n marks true (Bar t) bound same few fits inside false = refl
by_page n marks false region bound same few fits inside true = unwritten n marks (λ q. false) fits (λ q. refl)
by_page n marks false region bound same few fits inside false = refl

pub completed_marks : (D : Desc) (d n : ℕ) (dev : Dev) → IsValid D → IsSetBelow D.pages dev.marks
    → IsPageOf D (written_page D (job_at D d (outstanding_job_or_zero n dev.requests)))
    → marks_after_complete D d n dev
    ≡ (with_page_marked (written_page D (job_at D d (outstanding_job_or_zero n dev.requests))) (log_of dev)).marked
completed_marks D d n dev valid fits inside =
    let job : Job = job_at D d (outstanding_job_or_zero n dev.requests) in
    by_page D.pages dev.marks (is_writer job) (place_of D job).region D refl valid.in_range.pages_high fits inside dev.logging
