-- What an entry touches decides what it does: parts that agree there allow it alike and become the same there, and
-- whatever else there is stays as it was.
use Rattle.std.proofs.lemmas.Bool.{or_parts}
use Rattle.std.proofs.Common.{◌≡◌, ℕ, ◌+◌, ◌<◌, ◌≤◌, ◌==◌, ◌||◌, Bool, true, false, nat_lt, if◌then◌else◌, List, [], ◌∷◌, refl, ap, ap₂, sym, ◌∙◌, arith, eqb-true, ltb-true, ⊎_elim}
use Rattle.std.proofs.lemmas.Bool.{eq-eqb, ne_eqb, cond-true, cond-false, cases_lt, and_parts, false≢true, or_right}
use Rattle.vfm_types.specs.declared.desc.Desc.{Desc}
use Rattle.vfm_types.specs.declared.job.Region.{Region}
use Rattle.vfm_types.specs.declared.job.Region.TheVariants.{Page, Bar}
use Rattle.vfm_types.specs.declared.entry.Entry.{Entry}
use Rattle.vfm_types.specs.declared.entry.Entry.TheVariants.{Issue, Deliver, Complete, Hold, Arc, Fail, Report, Pass, Copy, Block, Dry, Begin, Joint, Abort, Resume}
use Rattle.vfm_base.specs.Tests.{first_failed}
use Rattle.vfm_types.specs.Desc.{device_count, shape_at, block_count}
use Rattle.vfm_types.specs.Job.{is_bar_of, is_page}
use Rattle.vfm_plain.specs.Legal.{is_entry_of}
use Rattle.vfm_parts.specs.Parts.{Dev, Lead, Parts}
use Rattle.vfm_parts.specs.Steps.{conditions_on, fault_in, lead_after, dev_after, page_after, with_dev}
use Rattle.vfm_parts.specs.IssueStep.{issued_dev}
use Rattle.vfm_parts.specs.DeliverStep.{job_in, region_bytes_in, delivered_dev, struck_dev, page_after_job}
use Rattle.vfm_parts.specs.CompleteStep.{completed_dev}
use Rattle.vfm_parts.specs.ReportStep.{reported_dev, reported_lead}
use Rattle.vfm_parts.specs.CopyStep.{copied_lead}
use Rattle.vfm_parts.specs.BlockStep.{read_dev, read_lead}
use Rattle.vfm_parts.specs.DryStep.{dry_lead}
use Rattle.vfm_turn.specs.Order.{has}
use Rattle.vfm_laws.proofs.Rising.{by_bool}
use Rattle.vfm_cells.specs.Cells.{dev_number, page_number, region_number}
use Rattle.vfm_cells.specs.Touched.{touched, up_from, in_order, aim, is_aimed, has_region}
use Rattle.vfm_cells.proofs.Numbers.{moved_same, own_dev, own_lead, own_page, two_dev, two_page, copy_dev, up_has, up_past, order_has}

-- two machines have the same parts in these cells, and the same beyond the devices of the description
pub record Agrees (D : Desc) (q p : Parts) (cells : List ℕ) : Type 0 where
  pub lead : has 0 cells ≡ true → q.lead ≡ p.lead
  pub dev : (k : ℕ) → k < device_count D → has (dev_number k) cells ≡ true → q.dev k ≡ p.dev k
  pub outside : (k : ℕ) → device_count D ≤ k → q.dev k ≡ p.dev k
  pub page : (i : ℕ) → i < D.pages → has (page_number D i) cells ≡ true → q.page i ≡ p.page i

-- then the entry is allowed alike, makes the same of these cells, and nothing of the others
pub record Alike (D : Desc) (q p : Parts) (entry : Entry) (cells : List ℕ) : Type 0 where
  pub fault : fault_in D q entry ≡ fault_in D p entry
  pub lead : has 0 cells ≡ true → lead_after D q entry ≡ lead_after D p entry
  pub dev : (k : ℕ) → k < device_count D → has (dev_number k) cells ≡ true → dev_after D q entry k ≡ dev_after D p entry k
  pub page : (i : ℕ) → i < D.pages → has (page_number D i) cells ≡ true → page_after D q entry i ≡ page_after D p entry i
  pub lead_kept : has 0 cells ≡ false → lead_after D p entry ≡ p.lead
  pub dev_kept : (k : ℕ) → k < device_count D → has (dev_number k) cells ≡ false → dev_after D p entry k ≡ p.dev k
  pub page_kept : (i : ℕ) → i < D.pages → has (page_number D i) cells ≡ false → page_after D p entry i ≡ p.page i

-- what can't be so
pub never : {X : Type 0} (b : Bool) → b ≡ false → b ≡ true → X
never b absent present = absurd (false≢true (sym absent ∙ present))

-- ---- one device

one_here : (d k : ℕ) (q p : Parts) (change : Dev → Dev) → (d == k) ≡ true → q.dev d ≡ p.dev d
    → with_dev d (change (q.dev d)) q.dev k ≡ with_dev d (change (p.dev d)) p.dev k
one_here d k q p change here same = cond-true _ _ _ here ∙ ap change same ∙ sym (cond-true _ _ _ here)

one_away : (d k : ℕ) (dev : Dev) (devs : ℕ → Dev) → (d == k) ≡ false → with_dev d dev devs k ≡ devs k
one_away d k dev devs away = cond-false _ _ _ away

own_alike : (D : Desc) (q p : Parts) (entry : Entry) (d : ℕ) → d < device_count D → Agrees D q p (dev_number d ∷ [])
    → (change : Dev → Dev)
    → (q.dev d ≡ p.dev d → fault_in D q entry ≡ fault_in D p entry)
    → ((parts : Parts) → lead_after D parts entry ≡ parts.lead)
    → ((parts : Parts) (k : ℕ) → dev_after D parts entry k ≡ with_dev d (change (parts.dev d)) parts.dev k)
    → ((parts : Parts) (i : ℕ) → page_after D parts entry i ≡ parts.page i)
    → Alike D q p entry (dev_number d ∷ [])
own_alike D q p entry d inside agrees change fault lead dev page =
    record {
      fault = fault same;
      lead = λ touched. never (has 0 (dev_number d ∷ [])) (own_lead d) touched;
      dev = λ k h touched. dev q k ∙ one_here d k q p change (sym (own_dev d k) ∙ touched) same ∙ sym (dev p k);
      page = λ i h touched. never (has (page_number D i) (dev_number d ∷ [])) (own_page D d i inside) touched;
      lead_kept = λ apart. lead p;
      dev_kept = λ k h apart. dev p k ∙ one_away d k _ p.dev (sym (own_dev d k) ∙ apart);
      page_kept = λ i h apart. page p i;
    }
  where
    same : q.dev d ≡ p.dev d
    same = agrees.dev d inside (own_dev d d ∙ eq-eqb d d refl)

-- a change that is none
as_it_was : (d k : ℕ) (parts : Parts) → parts.dev k ≡ with_dev d (parts.dev d) parts.dev k
as_it_was d k parts =
    by_bool (d == k) (λ b. (d == k) ≡ b → parts.dev k ≡ (if b then parts.dev d else parts.dev k))
    (λ here e. ap parts.dev (sym (eqb-true d k e))) (λ away e. refl) refl

two_alike : (D : Desc) (q p : Parts) (entry : Entry) (d : ℕ) → d < device_count D → Agrees D q p (0 ∷ dev_number d ∷ [])
    → (change : Dev → Dev)
    → (q.lead ≡ p.lead → q.dev d ≡ p.dev d → fault_in D q entry ≡ fault_in D p entry)
    → (q.lead ≡ p.lead → q.dev d ≡ p.dev d → lead_after D q entry ≡ lead_after D p entry)
    → ((parts : Parts) (k : ℕ) → dev_after D parts entry k ≡ with_dev d (change (parts.dev d)) parts.dev k)
    → ((parts : Parts) (i : ℕ) → page_after D parts entry i ≡ parts.page i)
    → Alike D q p entry (0 ∷ dev_number d ∷ [])
two_alike D q p entry d inside agrees change fault lead dev page =
    record {
      fault = fault first same;
      lead = λ touched. lead first same;
      dev = λ k h touched. dev q k ∙ one_here d k q p change (sym (two_dev d k) ∙ touched) same ∙ sym (dev p k);
      page = λ i h touched. never (has (page_number D i) (0 ∷ dev_number d ∷ [])) (two_page D d i inside) touched;
      lead_kept = λ apart. absurd (false≢true (sym apart));
      dev_kept = λ k h apart. dev p k ∙ one_away d k _ p.dev (sym (two_dev d k) ∙ apart);
      page_kept = λ i h apart. page p i;
    }
  where
    first : q.lead ≡ p.lead
    first = agrees.lead refl

    same : q.dev d ≡ p.dev d
    same = agrees.dev d inside (two_dev d d ∙ eq-eqb d d refl)

-- ---- every device

all_alike : (D : Desc) (q p : Parts) (entry : Entry) → Agrees D q p (up_from 0 (device_count D + 1))
    → ((parts : Parts) (page : ℕ → List ℕ) → lead_after D (record parts { page = page }) entry ≡ lead_after D parts entry)
    → ((parts : Parts) (page : ℕ → List ℕ) (k : ℕ) → dev_after D (record parts { page = page }) entry k ≡ dev_after D parts entry k)
    → ((parts : Parts) (i : ℕ) → page_after D parts entry i ≡ parts.page i)
    → Alike D q p entry (up_from 0 (device_count D + 1))
all_alike D q p entry agrees lead dev page =
    record {
      fault = ap₂ (λ (l : Lead) (devs : ℕ → Dev). first_failed (conditions_on D l devs entry)) first all;
      lead = λ touched. ap₂ (λ (l : Lead) (devs : ℕ → Dev). lead_after D (record { lead = l; dev = devs; page = q.page }) entry) first all ∙ lead p q.page;
      dev = λ k h touched. ap₂ (λ (l : Lead) (devs : ℕ → Dev). dev_after D (record { lead = l; dev = devs; page = q.page }) entry k) first all ∙ dev p q.page k;
      page = λ i h touched. never (has (page_number D i) (up_from 0 (device_count D + 1))) (up_past (page_number D i) 0 (device_count D + 1) (omega arith)) touched;
      lead_kept = λ apart. never (has 0 (up_from 0 (device_count D + 1))) apart (up_has 0 0 (device_count D + 1) (omega arith) (omega arith));
      dev_kept = λ k h apart. never (has (dev_number k) (up_from 0 (device_count D + 1))) apart (up_has (dev_number k) 0 (device_count D + 1) (omega arith) (omega arith));
      page_kept = λ i h apart. page p i;
    }
  where
    first : q.lead ≡ p.lead
    first = agrees.lead (up_has 0 0 (device_count D + 1) (omega arith) (omega arith))

    each : (k : ℕ) → q.dev k ≡ p.dev k
    each k =
        ⊎_elim (λ (h : k < device_count D). agrees.dev k h (up_has (dev_number k) 0 (device_count D + 1) (omega arith) (omega arith)))
        (λ (h : device_count D ≤ k). agrees.outside k h) (cases_lt k (device_count D))

    all : q.dev ≡ p.dev
    all = λ i k. each k i

-- ---- a delivery

module _ (D : Desc) (q p : Parts) (d n : ℕ) (inside : d < device_count D) where
  abbrev region : Region
  region = aim D d n (q.dev d)

  abbrev reached : List ℕ
  reached = touched D q (Deliver d n)

  own_has : has (dev_number d) reached ≡ true
  own_has =
      order_has (dev_number d) (region_number D region) (dev_number d)
      ∙ ap (λ (b : Bool). b || region_number D region == dev_number d) (eq-eqb (d + 1) (d + 1) refl)

  aim_has : has (region_number D region) reached ≡ true
  aim_has =
      order_has (dev_number d) (region_number D region) (region_number D region)
      ∙ or_right (dev_number d == region_number D region) (region_number D region == region_number D region)
      (eq-eqb (region_number D region) (region_number D region) refl)

  lead_apart : has 0 reached ≡ false
  lead_apart =
      order_has (dev_number d) (region_number D region) 0
      ∙ ap₂ (λ (a b : Bool). a || b) (ne_eqb (d + 1) 0 (λ same. omega arith)) (at region)
    where
      at : (r : Region) → (region_number D r == 0) ≡ false
      at (Page i) = ne_eqb (i + (device_count D + 1)) 0 (λ same. omega arith)
      at (Bar t) = ne_eqb (t + 1) 0 (λ same. omega arith)

  bar_apart : (k : ℕ) → has (dev_number k) reached ≡ false → ((d == k) ≡ false) × (is_bar_of k region ≡ false)
  bar_apart k away =
      let both : ((dev_number d == dev_number k) || (region_number D region == dev_number k)) ≡ false =
      sym (order_has (dev_number d) (region_number D region) (dev_number k)) ∙ away in (
        sym (moved_same d k 1) ∙ (or_parts (dev_number d == dev_number k) (region_number D region == dev_number k) both).0,
        at region (or_parts (dev_number d == dev_number k) (region_number D region == dev_number k) both).1,
      )
    where
      at : (r : Region) → (region_number D r == dev_number k) ≡ false → is_bar_of k r ≡ false
      at (Page i) none = refl
      at (Bar t) none = sym (moved_same t k 1) ∙ none

  page_apart : (i : ℕ) → has (page_number D i) reached ≡ false → is_page i region ≡ false
  page_apart i away =
      at region (or_parts (dev_number d == page_number D i) (region_number D region == page_number D i)
      (sym (order_has (dev_number d) (region_number D region) (page_number D i)) ∙ away)).1
    where
      at : (r : Region) → (region_number D r == page_number D i) ≡ false → is_page i r ≡ false
      at (Page j) none = sym (moved_same j i (device_count D + 1)) ∙ none
      at (Bar t) none = refl

  deliver_alike : has_region D region ≡ true → Agrees D q p reached → Alike D q p (Deliver d n) reached
  deliver_alike aimed agrees =
      record {
        fault = ap (λ (dev : Dev). first_failed (conditions_on D p.lead (λ k. dev) (Deliver d n))) own;
        lead = λ touched. never (has 0 reached) lead_apart touched;
        dev = λ k h touched.
            ap₂ (λ (dev : Dev) (bytes : List ℕ). if d == k then delivered_dev D d n bytes (q.dev d) else
            (if is_bar_of k region then struck_dev D k (job_in D d n (q.dev d)) (q.dev d).plain.buf dev else dev))
            (agrees.dev k h touched) bytes_same
            ∙ ap (λ (dev : Dev). if d == k then delivered_dev D d n (region_bytes_in p (aim D d n dev)) dev else
            (if is_bar_of k (aim D d n dev) then struck_dev D k (job_in D d n dev) dev.plain.buf (p.dev k) else p.dev k)) own;
        page = λ i h touched.
            ap₂ (λ (dev : Dev) (bytes : List ℕ). if is_page i (aim D d n dev) then page_after_job D (job_in D d n dev) dev.plain.buf bytes else bytes)
            own (agrees.page i h touched);
        lead_kept = λ apart. refl;
        dev_kept = λ k h apart.
            cond-false _ _ _ (bar_apart k apart).0
            ∙ cond-false _ _ _ (ap (λ (dev : Dev). is_bar_of k (aim D d n dev)) (sym own) ∙ (bar_apart k apart).1);
        page_kept = λ i h apart. cond-false _ _ _ (ap (λ (dev : Dev). is_page i (aim D d n dev)) (sym own) ∙ page_apart i apart);
      }
    where
      own : q.dev d ≡ p.dev d
      own = agrees.dev d inside own_has

      bytes_same : region_bytes_in q region ≡ region_bytes_in p region
      bytes_same = at region aimed aim_has
        where
          at : (r : Region) → has_region D r ≡ true → has (region_number D r) reached ≡ true → region_bytes_in q r ≡ region_bytes_in p r
          at (Page i) there among = agrees.page i (ltb-true i D.pages there) among
          at (Bar t) there among = ap (λ (dev : Dev). dev.plain.bar) (agrees.dev t (ltb-true t (device_count D) there) among)

pub alike : (D : Desc) (q p : Parts) (entry : Entry) → is_entry_of D entry ≡ true → is_aimed D q entry ≡ true
    → Agrees D q p (touched D q entry) → Alike D q p entry (touched D q entry)
alike D q p (Issue d n) named aimed agrees =
    own_alike D q p (Issue d n) d (ltb-true d (device_count D) named) agrees (issued_dev n)
    (λ same. ap (λ (dev : Dev). first_failed (conditions_on D p.lead (λ k. dev) (Issue d n))) same) (λ parts. refl) (λ parts k. refl) (λ parts i. refl)
alike D q p (Deliver d n) named aimed agrees = deliver_alike D q p d n (ltb-true d (device_count D) named) aimed agrees
alike D q p (Complete d n) named aimed agrees =
    own_alike D q p (Complete d n) d (ltb-true d (device_count D) named) agrees (completed_dev D d n)
    (λ same. ap (λ (dev : Dev). first_failed (conditions_on D p.lead (λ k. dev) (Complete d n))) same) (λ parts. refl) (λ parts k. refl) (λ parts i. refl)
alike D q p (Report d) named aimed agrees =
    two_alike D q p (Report d) d (ltb-true d (device_count D) named) agrees reported_dev
    (λ first same. ap (λ (lead : Lead). first_failed (conditions_on D lead p.dev (Report d))) first)
    (λ first same. ap₂ (λ (dev : Dev) (lead : Lead). reported_lead D d dev.marks lead) same first) (λ parts k. refl) (λ parts i. refl)
alike D q p (Block d b) named aimed agrees =
    two_alike D q p (Block d b) d (ltb-true d (device_count D) (and_parts (nat_lt d (device_count D)) (nat_lt b (block_count (shape_at D d))) named).0) agrees (read_dev D d b)
    (λ first same. ap₂ (λ (dev : Dev) (lead : Lead). first_failed (conditions_on D lead (λ k. dev) (Block d b))) same first)
    (λ first same. ap (read_lead d) first) (λ parts k. refl) (λ parts i. refl)
alike D q p (Dry d) named aimed agrees =
    two_alike D q p (Dry d) d (ltb-true d (device_count D) named) agrees (λ dev. dev)
    (λ first same. ap₂ (λ (dev : Dev) (lead : Lead). first_failed (conditions_on D lead (λ k. dev) (Dry d))) same first)
    (λ first same. ap (dry_lead d) first) (λ parts k. as_it_was d k parts) (λ parts i. refl)
alike D q p (Copy c) named aimed agrees =
    record {
      fault = ap (λ (lead : Lead). first_failed (conditions_on D lead p.dev (Copy c))) (agrees.lead refl);
      lead = λ touched. ap (copied_lead D c) (agrees.lead refl);
      dev = λ k h touched. never (has (dev_number k) (0 ∷ page_number D c ∷ [])) (copy_dev D c k h) touched;
      page = agrees.page;
      lead_kept = λ apart. absurd (false≢true (sym apart));
      dev_kept = λ k h apart. refl;
      page_kept = λ i h apart. refl;
    }
alike D q p (Hold d to) named aimed agrees = all_alike D q p (Hold d to) agrees (λ parts page. refl) (λ parts page k. refl) (λ parts i. refl)
alike D q p (Arc d to) named aimed agrees = all_alike D q p (Arc d to) agrees (λ parts page. refl) (λ parts page k. refl) (λ parts i. refl)
alike D q p (Fail d to) named aimed agrees = all_alike D q p (Fail d to) agrees (λ parts page. refl) (λ parts page k. refl) (λ parts i. refl)
alike D q p (Pass k) named aimed agrees = all_alike D q p (Pass k) agrees (λ parts page. refl) (λ parts page k. refl) (λ parts i. refl)
alike D q p Begin named aimed agrees = all_alike D q p Begin agrees (λ parts page. refl) (λ parts page k. refl) (λ parts i. refl)
alike D q p Joint named aimed agrees = all_alike D q p Joint agrees (λ parts page. refl) (λ parts page k. refl) (λ parts i. refl)
alike D q p Abort named aimed agrees = all_alike D q p Abort agrees (λ parts page. refl) (λ parts page k. refl) (λ parts i. refl)
alike D q p Resume named aimed agrees = all_alike D q p Resume agrees (λ parts page. refl) (λ parts page k. refl) (λ parts i. refl)

agrees_back : (D : Desc) (q p : Parts) (cells : List ℕ) → Agrees D q p cells → Agrees D p q cells
agrees_back D q p cells agrees =
    record {
      lead = λ touched. sym (agrees.lead touched);
      dev = λ k h touched. sym (agrees.dev k h touched);
      outside = λ k h. sym (agrees.outside k h);
      page = λ i h touched. sym (agrees.page i h touched);
    }

-- parts that agree in the cells that an entry touches are touched alike
pub touched_alike : (D : Desc) (q p : Parts) (entry : Entry) → is_entry_of D entry ≡ true → Agrees D q p (touched D q entry)
    → touched D q entry ≡ touched D p entry
touched_alike D q p (Deliver d n) named agrees =
    let inside = ltb-true d (device_count D) named in
    ap (λ (dev : Dev). in_order (dev_number d) (region_number D (aim D d n dev))) (agrees.dev d inside (own_has D q p d n inside))
touched_alike D q p entry named agrees = refl

pub aimed_alike : (D : Desc) (q p : Parts) (entry : Entry) → is_entry_of D entry ≡ true → Agrees D q p (touched D q entry)
    → is_aimed D q entry ≡ is_aimed D p entry
aimed_alike D q p (Deliver d n) named agrees =
    let inside = ltb-true d (device_count D) named in
    ap (λ (dev : Dev). has_region D (aim D d n dev)) (agrees.dev d inside (own_has D q p d n inside))
aimed_alike D q p entry named agrees = refl

-- the same, where the parts agree in the cells that the second ones say
pub touched_back : (D : Desc) (q p : Parts) (entry : Entry) → is_entry_of D entry ≡ true → Agrees D q p (touched D p entry)
    → touched D q entry ≡ touched D p entry
touched_back D q p entry named agrees = sym (touched_alike D p q entry named (agrees_back D q p (touched D p entry) agrees))
