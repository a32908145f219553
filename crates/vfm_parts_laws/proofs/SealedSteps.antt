-- What an allowed entry makes of sealed parts that agree in what is still asked.
use Rattle.std.proofs.Math.Bool.{or-true}
use Rattle.std.proofs.Common.{◌≡◌, ℕ, ◌<◌, ◌≤◌, ◌==◌, ◌||◌, Bool, true, false, is_none, if◌then◌else◌, List, [], ◌∷◌, None, refl, ap, ap₂, sym, ◌∙◌, arith, eqb-true, ⊎_elim}
use Rattle.std.proofs.lemmas.Bool.{cases_lt, false≢true}
use Rattle.std.proofs.lemmas.List.{get_or_past}
use Rattle.vfm_types.specs.declared.desc.Desc.{Desc}
use Rattle.vfm_types.specs.declared.job.Region.{Region}
use Rattle.vfm_types.specs.declared.job.Region.TheVariants.{Page, Bar}
use Rattle.vfm_types.specs.declared.entry.Entry.{Entry}
use Rattle.vfm_types.specs.declared.entry.Entry.TheVariants.{Issue, Deliver, Complete, Hold, Arc, Fail, Report, Pass, Copy, Block, Dry, Begin, Joint, Abort, Resume}
use Rattle.vfm_types.specs.declared.entry.Rule.{Rule}
use Rattle.vfm_types.specs.declared.entry.Rule.TheVariants.{Path, Order, Pages, Blocks}
use Rattle.vfm_base.specs.Tests.{first_failed}
use Rattle.vfm_types.specs.Desc.{device_count}
use Rattle.vfm_types.specs.Job.{is_bar_of, is_page}
use Rattle.vfm_laws.proofs.Rising.{by_bool}
use Rattle.vfm_laws.proofs.Walks.{some_none}
use Rattle.vfm_parts.specs.Parts.{Dev, World, Parts, parts_in, no_dev, listed}
use Rattle.vfm_parts.specs.PartWords.{is_on_in}
use Rattle.vfm_parts.specs.IssueStep.{issued_dev}
use Rattle.vfm_parts.specs.DeliverStep.{job_in, region_of_job, region_bytes_in, delivered_dev, struck_dev, page_after_job}
use Rattle.vfm_parts.specs.CompleteStep.{completed_dev}
use Rattle.vfm_parts.specs.ArcStep.{moved_dev}
use Rattle.vfm_parts.specs.AbortStep.{aborted_dev}
use Rattle.vfm_parts.specs.ResumeStep.{resumed_dev}
use Rattle.vfm_parts.specs.Steps.{fault_in, dev_after, page_after, parts_after, with_dev, after_on}
use Rattle.vfm_parts.proofs.Listed.{listed_at, length-listed}
use Rattle.vfm_parts_laws.specs.StagedParts.{IsSealed, still_asked, AgreesInRest}
use Rattle.vfm_parts_laws.proofs.Sealed.{hold_sealed, fail_sealed, report_sealed, pass_sealed, copy_sealed, block_sealed, dry_sealed, begin_sealed, joint_sealed}

-- ---- entries that aren't allowed any more

two_fail : (a : Bool) (rule : Rule) → first_failed ((a, Order) ∷ (false, rule) ∷ []) ≡ None → ⊥
two_fail true rule fine = some_none rule fine
two_fail false rule fine = some_none Order fine

abbrev pub is_refused : Entry → Bool
is_refused (Issue d n) = false
is_refused (Deliver d n) = false
is_refused (Complete d n) = false
is_refused (Arc d to) = false
is_refused Abort = false
is_refused Resume = false
is_refused entry = true

pub refused : (D : Desc) (parts : Parts) → IsSealed D parts → (entry : Entry) → is_refused entry ≡ true → fault_in D parts entry ≡ None → ⊥
refused D parts sealed (Hold d to) no_more fine = some_none Order (sym (hold_sealed D parts sealed d to) ∙ fine)
refused D parts sealed (Fail d to) no_more fine = two_fail (parts.lead.aborted || parts.lead.resumed) Path (sym (fail_sealed D parts sealed d to) ∙ fine)
refused D parts sealed (Report d) no_more fine = two_fail (is_on_in parts.lead) Pages (sym (report_sealed D parts sealed d) ∙ fine)
refused D parts sealed (Pass k) no_more fine = false≢true (sym (pass_sealed D parts sealed k) ∙ ap is_none fine)
refused D parts sealed (Copy p) no_more fine = two_fail (is_on_in parts.lead) Pages (sym (copy_sealed D parts sealed p) ∙ fine)
refused D parts sealed (Block d b) no_more fine = two_fail (is_on_in parts.lead) Blocks (sym (block_sealed D parts sealed d b) ∙ fine)
refused D parts sealed (Dry d) no_more fine = two_fail (is_on_in parts.lead) Blocks (sym (dry_sealed D parts sealed d) ∙ fine)
refused D parts sealed Begin no_more fine = some_none Order (sym (begin_sealed D parts sealed) ∙ fine)
refused D parts sealed Joint no_more fine = some_none Order (sym (joint_sealed D parts sealed) ∙ fine)
refused D parts sealed entry no_more fine = false≢true no_more

-- ---- what is still asked after an entry

one_asked : (p q : Parts) (d : ℕ) (change : Dev → Dev) → ((x : Dev) → still_asked (change x) ≡ still_asked (change (still_asked x)))
    → ((k : ℕ) → still_asked (p.dev k) ≡ still_asked (q.dev k)) → (k : ℕ)
    → still_asked (with_dev d (change (p.dev d)) p.dev k) ≡ still_asked (with_dev d (change (q.dev d)) q.dev k)
one_asked p q d change asks same k =
    by_bool (d == k)
    (λ b. still_asked (if b then change (p.dev d) else p.dev k) ≡ still_asked (if b then change (q.dev d) else q.dev k))
    (λ here. asks (p.dev d) ∙ ap (λ (x : Dev). still_asked (change x)) (same d) ∙ sym (asks (q.dev d)))
    (λ away. same k)

-- a device after a delivery, by the issuer, itself and the bytes that the request is aimed at
struck_or_own : Desc → ℕ → ℕ → ℕ → List ℕ → Dev → Dev → Dev
struck_or_own D d n k bytes own dev =
    if d == k then delivered_dev D d n bytes own else
    (if is_bar_of k (region_of_job D (job_in D d n own)) then struck_dev D k (job_in D d n own) own.plain.buf dev else dev)

struck_asked : (D : Desc) (d n k : ℕ) (bytes : List ℕ) (own dev : Dev)
    → still_asked (struck_or_own D d n k bytes own dev) ≡ still_asked (struck_or_own D d n k bytes (still_asked own) (still_asked dev))
unfolding struck_or_own
struck_asked D d n k bytes own dev =
    by_bool (d == k)
    (λ b. still_asked (if b then delivered_dev D d n bytes own else
    (if is_bar_of k (region_of_job D (job_in D d n own)) then struck_dev D k (job_in D d n own) own.plain.buf dev else dev))
    ≡ still_asked (if b then delivered_dev D d n bytes (still_asked own) else
    (if is_bar_of k (region_of_job D (job_in D d n own)) then struck_dev D k (job_in D d n own) own.plain.buf (still_asked dev) else still_asked dev)))
    (λ here. refl)
    (λ away. by_bool (is_bar_of k (region_of_job D (job_in D d n own)))
    (λ b. still_asked (if b then struck_dev D k (job_in D d n own) own.plain.buf dev else dev)
    ≡ still_asked (if b then struck_dev D k (job_in D d n own) own.plain.buf (still_asked dev) else still_asked dev))
    (λ hit. refl) (λ miss. refl))

module _ (D : Desc) (p q : Parts) (agrees : AgreesInRest p q) where
  bytes_same : (d n : ℕ) → region_bytes_in p (region_of_job D (job_in D d n (p.dev d))) ≡ region_bytes_in q (region_of_job D (job_in D d n (q.dev d)))
  bytes_same d n =
      at (region_of_job D (job_in D d n (p.dev d)))
      ∙ ap (λ (x : Dev). region_bytes_in q (region_of_job D (job_in D d n x))) (agrees.dev d)
    where
      at : (r : Region) → region_bytes_in p r ≡ region_bytes_in q r
      at (Page i) = agrees.page i
      at (Bar t) = ap (λ (x : Dev). x.plain.bar) (agrees.dev t)

  deliver_asked : (d n k : ℕ) → still_asked (dev_after D p (Deliver d n) k) ≡ still_asked (dev_after D q (Deliver d n) k)
  unfolding struck_or_own
  deliver_asked d n k =
      struck_asked D d n k (region_bytes_in p (region_of_job D (job_in D d n (p.dev d)))) (p.dev d) (p.dev k)
      ∙ ap₂ (λ (own dev : Dev). still_asked (struck_or_own D d n k (region_bytes_in p (region_of_job D (job_in D d n (p.dev d)))) own dev)) (agrees.dev d) (agrees.dev k)
      ∙ ap (λ (bytes : List ℕ). still_asked (struck_or_own D d n k bytes (still_asked (q.dev d)) (still_asked (q.dev k)))) (bytes_same d n)
      ∙ sym (struck_asked D d n k (region_bytes_in q (region_of_job D (job_in D d n (q.dev d)))) (q.dev d) (q.dev k))

  deliver_page : (d n i : ℕ) → page_after D p (Deliver d n) i ≡ page_after D q (Deliver d n) i
  deliver_page d n i =
      ap₂ (λ (own : Dev) (bytes : List ℕ). if is_page i (region_of_job D (job_in D d n own)) then page_after_job D (job_in D d n own) own.plain.buf bytes else bytes)
      (agrees.dev d) (agrees.page i)

  pub after_agrees : (entry : Entry) → (is_refused entry ≡ true → ⊥) → AgreesInRest (parts_after D p entry) (parts_after D q entry)
  after_agrees (Issue d n) going =
      record { aborted = agrees.aborted; resumed = agrees.resumed; failed = agrees.failed; page = agrees.page; dev = one_asked p q d (issued_dev n) (λ x. refl) agrees.dev }
  after_agrees (Deliver d n) going =
      record { aborted = agrees.aborted; resumed = agrees.resumed; failed = agrees.failed; page = deliver_page d n; dev = deliver_asked d n }
  after_agrees (Complete d n) going =
      record { aborted = agrees.aborted; resumed = agrees.resumed; failed = agrees.failed; page = agrees.page; dev = one_asked p q d (completed_dev D d n) (λ x. refl) agrees.dev }
  after_agrees (Arc d to) going =
      record { aborted = agrees.aborted; resumed = agrees.resumed; failed = agrees.failed; page = agrees.page; dev = one_asked p q d (moved_dev to) (λ x. refl) agrees.dev }
  after_agrees Abort going =
      record { aborted = refl; resumed = agrees.resumed; failed = refl; page = agrees.page; dev = λ k. ap (λ (x : Dev). still_asked (aborted_dev x)) (agrees.dev k) }
  after_agrees Resume going =
      record { aborted = agrees.aborted; resumed = refl; failed = agrees.failed; page = agrees.page; dev = λ k. ap (λ (x : Dev). still_asked (resumed_dev x)) (agrees.dev k) }
  after_agrees entry going = absurd (going refl)

-- ---- sealed parts stay sealed

free_one : (parts : Parts) (d : ℕ) (change : Dev → Dev) → ((x : Dev) → ((change x).logging || (change x).released) ≡ (x.logging || x.released))
    → (k : ℕ) → ((parts.dev k).logging || (parts.dev k).released) ≡ true
    → ((with_dev d (change (parts.dev d)) parts.dev k).logging || (with_dev d (change (parts.dev d)) parts.dev k).released) ≡ true
free_one parts d change keeps k free =
    by_bool (d == k)
    (λ b. (d == k) ≡ b → ((if b then change (parts.dev d) else parts.dev k).logging || (if b then change (parts.dev d) else parts.dev k).released) ≡ true)
    (λ here e. keeps (parts.dev d) ∙ ap (λ (j : ℕ). (parts.dev j).logging || (parts.dev j).released) (eqb-true d k e) ∙ free)
    (λ away e. free) refl

free_struck : (D : Desc) (parts : Parts) (d n k : ℕ) → ((parts.dev k).logging || (parts.dev k).released) ≡ true
    → ((dev_after D parts (Deliver d n) k).logging || (dev_after D parts (Deliver d n) k).released) ≡ true
free_struck D parts d n k free =
    by_bool (d == k)
    (λ b. (d == k) ≡ b → ((if b then own else other).logging || (if b then own else other).released) ≡ true)
    (λ here e. ap (λ (j : ℕ). (parts.dev j).logging || (parts.dev j).released) (eqb-true d k e) ∙ free)
    (λ away e. by_bool (is_bar_of k (region_of_job D (job_in D d n (parts.dev d))))
    (λ b. ((if b then target else parts.dev k).logging || (if b then target else parts.dev k).released) ≡ true) (λ hit. free) (λ miss. free)) refl
  where
    own : Dev
    own = delivered_dev D d n (region_bytes_in parts (region_of_job D (job_in D d n (parts.dev d)))) (parts.dev d)

    target : Dev
    target = struck_dev D k (job_in D d n (parts.dev d)) (parts.dev d).plain.buf (parts.dev k)

    other : Dev
    other = if is_bar_of k (region_of_job D (job_in D d n (parts.dev d))) then target else parts.dev k

pub after_sealed : (D : Desc) (parts : Parts) → IsSealed D parts → (entry : Entry) → (is_refused entry ≡ true → ⊥) → IsSealed D (parts_after D parts entry)
after_sealed D parts sealed (Issue d n) going =
    record { begun = sealed.begun; joint = sealed.joint; last = sealed.last; closed = sealed.closed; free = λ k h. free_one parts d (issued_dev n) (λ x. refl) k (sealed.free k h) }
after_sealed D parts sealed (Deliver d n) going =
    record { begun = sealed.begun; joint = sealed.joint; last = sealed.last; closed = sealed.closed; free = λ k h. free_struck D parts d n k (sealed.free k h) }
after_sealed D parts sealed (Complete d n) going =
    record { begun = sealed.begun; joint = sealed.joint; last = sealed.last; closed = sealed.closed; free = λ k h. free_one parts d (completed_dev D d n) (λ x. refl) k (sealed.free k h) }
after_sealed D parts sealed (Arc d to) going =
    record { begun = sealed.begun; joint = sealed.joint; last = sealed.last; closed = sealed.closed; free = λ k h. free_one parts d (moved_dev to) (λ x. refl) k (sealed.free k h) }
after_sealed D parts sealed Abort going =
    record { begun = sealed.begun; joint = sealed.joint; last = sealed.last; closed = sealed.closed; free = λ k h. or-true (parts.dev k).logging }
after_sealed D parts sealed Resume going =
    record { begun = sealed.begun; joint = sealed.joint; last = sealed.last; closed = sealed.closed; free = λ k h. refl }
after_sealed D parts sealed entry going = absurd (going refl)

-- ---- the same of worlds

pub world_agrees : (D : Desc) (w v : World) (entry : Entry) → AgreesInRest (parts_after D (parts_in w) entry) (parts_after D (parts_in v) entry)
    → AgreesInRest (parts_in (after_on D w entry)) (parts_in (after_on D v entry))
world_agrees D w v entry agrees =
    record {
      aborted = agrees.aborted;
      resumed = agrees.resumed;
      failed = agrees.failed;
      dev = λ k. ⊎_elim (λ (h : k < device_count D). ap still_asked (dev_is w k h) ∙ agrees.dev k ∙ sym (ap still_asked (dev_is v k h)))
          (λ (h : device_count D ≤ k). ap still_asked (no_dev_is w k h ∙ sym (no_dev_is v k h))) (cases_lt k (device_count D));
      page = λ i. ⊎_elim (λ (h : i < D.pages). page_is w i h ∙ agrees.page i ∙ sym (page_is v i h))
          (λ (h : D.pages ≤ i). no_page_is w i h ∙ sym (no_page_is v i h)) (cases_lt i D.pages);
    }
  where
    dev_is : (u : World) (k : ℕ) → k < device_count D → (parts_in (after_on D u entry)).dev k ≡ dev_after D (parts_in u) entry k
    dev_is u k h = listed_at (device_count D) (dev_after D (parts_in u) entry) k no_dev h

    no_dev_is : (u : World) (k : ℕ) → device_count D ≤ k → (parts_in (after_on D u entry)).dev k ≡ no_dev
    no_dev_is u k h =
        let count = length-listed (device_count D) (dev_after D (parts_in u) entry) in
        get_or_past (listed (device_count D) (dev_after D (parts_in u) entry)) k no_dev (omega arith)

    page_is : (u : World) (i : ℕ) → i < D.pages → (parts_in (after_on D u entry)).page i ≡ page_after D (parts_in u) entry i
    page_is u i h = listed_at D.pages (page_after D (parts_in u) entry) i [] h

    no_page_is : (u : World) (i : ℕ) → D.pages ≤ i → (parts_in (after_on D u entry)).page i ≡ []
    no_page_is u i h =
        let count = length-listed D.pages (page_after D (parts_in u) entry) in
        get_or_past (listed D.pages (page_after D (parts_in u) entry)) i [] (omega arith)

pub world_sealed : (D : Desc) (w : World) (entry : Entry) → IsSealed D (parts_after D (parts_in w) entry) → IsSealed D (parts_in (after_on D w entry))
world_sealed D w entry sealed =
    record {
      begun = sealed.begun;
      joint = sealed.joint;
      last = sealed.last;
      closed = sealed.closed;
      free = λ k h. ap (λ (dev : Dev). dev.logging || dev.released) (listed_at (device_count D) (dev_after D (parts_in w) entry) k no_dev h) ∙ sealed.free k h;
    }
