-- What a delivery makes of the devices and the pages, where it is known at what its request is aimed.
use Rattle.std.proofs.Common.{◌≡◌, ℕ, ◌==◌, true, false, if◌then◌else◌, List, [], length, slice_index_or, slice_set, refl, ap, sym, ◌∙◌, eqb-true}
use Rattle.std.proofs.lemmas.Bool.{eq-eqb, true≢false}
use Rattle.vfm_types.specs.declared.desc.Desc.{Desc}
use Rattle.vfm_types.specs.declared.job.Region.{Region}
use Rattle.vfm_types.specs.declared.job.Region.TheVariants.{Page, Bar}
use Rattle.vfm_types.specs.Desc.{device_count}
use Rattle.vfm_types.specs.Job.{is_bar_of}
use Rattle.vfm_laws.proofs.Rising.{by_bool}
use Rattle.vfm_parts.specs.Parts.{Dev, Lead, parts_in, listed}
use Rattle.vfm_parts.specs.DeliverStep.{delivered_dev, devs_after_deliver, job_in, page_after_job, pages_after_deliver, region_bytes_in, region_of_job, struck_dev}
use Rattle.vfm_parts.specs.Steps.{with_dev}
use Rattle.vfm_parts.proofs.Listed.{listed_same, listed_set, set_listed, listed_items}
use Rattle.vfm_lead.specs.LeadSteps.{dev_of_list}
use Rattle.vfm_lead.proofs.Changed.{one_set}
use Rattle.vfm_core.specs.CoreState.{world_with}
use Rattle.vfm_core.specs.Delivered.{with_delivered, with_page_written, with_struck}

module _ (D : Desc) (lead : Lead) (devs : List Dev) (pages : List (List ℕ)) (d n : ℕ) (whole : length devs ≡ device_count D) (all : length pages ≡ D.pages) where
  -- aimed at a page: the devices and the pages
  pub page_devs : (p : ℕ) → region_of_job D (job_in D d n (dev_of_list devs d)) ≡ Page p
      → with_delivered D d n (slice_index_or pages p []) devs ≡ listed (device_count D) (devs_after_deliver D (parts_in (world_with lead devs pages)) d n)
  page_devs p aimed =
      one_set (device_count D) devs d (delivered_dev D d n (slice_index_or pages p []) (dev_of_list devs d)) whole
      ∙ listed_same (device_count D) (with_dev d (delivered_dev D d n (slice_index_or pages p []) (dev_of_list devs d)) (dev_of_list devs))
      (devs_after_deliver D (parts_in (world_with lead devs pages)) d n) (λ k h. rw aimed refl)

  pub page_pages : (p : ℕ) → region_of_job D (job_in D d n (dev_of_list devs d)) ≡ Page p
      → with_page_written D d n p (dev_of_list devs d) pages ≡ listed D.pages (pages_after_deliver D (parts_in (world_with lead devs pages)) d n)
  page_pages p aimed =
      sym (listed_set D.pages pages [] p (page_made (slice_index_or pages p [])) all)
      ∙ listed_same D.pages _ (pages_after_deliver D (parts_in (world_with lead devs pages)) d n) (λ q h. rw aimed (point q))
    where
      page_made : List ℕ → List ℕ
      page_made old = page_after_job D (job_in D d n (dev_of_list devs d)) (dev_of_list devs d).plain.buf old

      point : (q : ℕ) → (if p == q then page_made (slice_index_or pages p []) else slice_index_or pages q [])
          ≡ (if p == q then page_made (slice_index_or pages q []) else slice_index_or pages q [])
      point q =
          by_bool (p == q)
          (λ b. (if b then page_made (slice_index_or pages p []) else slice_index_or pages q []) ≡ (if b then page_made (slice_index_or pages q []) else slice_index_or pages q []))
          (λ hit. ap (λ (j : ℕ). page_made (slice_index_or pages j [])) (eqb-true p q hit)) (λ miss. refl)

  -- aimed at the BARs of another device
  pub bar_devs : (t : ℕ) → region_of_job D (job_in D d n (dev_of_list devs d)) ≡ Bar t → (t == d) ≡ false
      → with_struck D d n t devs ≡ listed (device_count D) (devs_after_deliver D (parts_in (world_with lead devs pages)) d n)
  bar_devs t aimed other =
      ap (λ (list : List Dev). slice_set list t (dev_struck t)) (one_set (device_count D) devs d dev_delivered whole)
      ∙ set_listed (device_count D) (with_dev d dev_delivered (dev_of_list devs)) t (dev_struck t)
      ∙ listed_same (device_count D) _ (devs_after_deliver D (parts_in (world_with lead devs pages)) d n) (λ k h. point k ∙ sym (ap (at_region k) aimed))
    where
      dev_delivered : Dev
      dev_delivered = delivered_dev D d n (dev_of_list devs t).plain.bar (dev_of_list devs d)

      at_region : ℕ → Region → Dev
      at_region k r =
          if d == k then delivered_dev D d n (region_bytes_in (parts_in (world_with lead devs pages)) r) (dev_of_list devs d) else
          (if is_bar_of k r then struck_dev D k (job_in D d n (dev_of_list devs d)) (dev_of_list devs d).plain.buf (dev_of_list devs k) else dev_of_list devs k)

      dev_struck : ℕ → Dev
      dev_struck k = struck_dev D k (job_in D d n (dev_of_list devs d)) (dev_of_list devs d).plain.buf (dev_of_list devs k)

      not_own : (k : ℕ) → (t == k) ≡ true → (d == k) ≡ true → ⊥
      not_own k hit own = true≢false (sym (eq-eqb t d (eqb-true t k hit ∙ sym (eqb-true d k own))) ∙ other)

      point : (k : ℕ) → (if t == k then dev_struck t else (if d == k then dev_delivered else dev_of_list devs k))
          ≡ (if d == k then dev_delivered else (if t == k then dev_struck k else dev_of_list devs k))
      point k =
          by_bool (t == k)
          (λ b. (if b then dev_struck t else (if d == k then dev_delivered else dev_of_list devs k)) ≡ (if d == k then dev_delivered else (if b then dev_struck k else dev_of_list devs k)))
          (λ hit. by_bool (d == k) (λ b. dev_struck t ≡ (if b then dev_delivered else dev_struck k))
          (λ own. absurd (not_own k hit own)) (λ away. ap dev_struck (eqb-true t k hit)))
          (λ miss. refl)

  pub bar_pages : (t : ℕ) → region_of_job D (job_in D d n (dev_of_list devs d)) ≡ Bar t
      → pages ≡ listed D.pages (pages_after_deliver D (parts_in (world_with lead devs pages)) d n)
  bar_pages t aimed =
      sym (listed_items D.pages pages [] all)
      ∙ listed_same D.pages (λ q. slice_index_or pages q []) (pages_after_deliver D (parts_in (world_with lead devs pages)) d n) (λ q h. rw aimed refl)
