-- A delivery on the cell of its device and on that of its target.
use Rattle.std.proofs.Common.{◌≡◌, ℕ, ◌+◌, ◌<◌, ◌==◌, Bool, true, false, nat_lt, if◌then◌else◌, List, [], ◌∷◌, map, Some, None, refl, ap, ap₂, sym, subst, ◌∙◌, arith, lt-ltb}
use Rattle.std.proofs.lemmas.Bool.{eq-eqb, ne_eqb, eqb-false, cond-true, cond-false}
use Rattle.vfm_types.specs.declared.desc.Desc.{Desc}
use Rattle.vfm_types.specs.declared.entry.Entry.{Entry}
use Rattle.vfm_types.specs.declared.entry.Entry.TheVariants.{Deliver}
use Rattle.vfm_types.specs.declared.job.Region.{Region}
use Rattle.vfm_types.specs.declared.job.Region.TheVariants.{Page, Bar}
use Rattle.vfm_types.specs.Desc.{device_count}
use Rattle.vfm_types.specs.Outstanding.{is_undelivered}
use Rattle.vfm_parts.specs.Parts.{Dev, World, parts_in, dev_at, page_at, no_dev, listed}
use Rattle.vfm_parts.specs.Start.{first_lead}
use Rattle.vfm_parts.specs.DeliverStep.{delivered_dev, job_in, page_after_job, region_of_job, struck_dev}
use Rattle.vfm_parts.specs.Steps.{after_on, dev_after, page_after, parts_after, with_dev}
use Rattle.vfm_parts.proofs.Listed.{listed_at, length-listed}
use Rattle.vfm_laws.proofs.Rising.{by_bool}
use Rattle.vfm_laws.proofs.Walks.{some_none}
use Rattle.vfm_device_part.specs.DeviceSteps.{delivered_job, issuer_after, own_fault, target_in}
use Rattle.vfm_device_part.proofs.Deliveries.{waits_fine, aimed_is}
use Rattle.vfm_device_part.proofs.Entries.{fault_is, to_device_is, to_page_is, no_device_is}
use Rattle.vfm_cells.specs.Cells.{Cell, device_cell, page_cell, dev_number, page_number, region_number, cell_at, IsWhole}
use Rattle.vfm_cells.specs.Touched.{in_order, aim, has_region}
use Rattle.vfm_cells.specs.CellSteps.{step_of}
use Rattle.vfm_cells.proofs.Whole.{cell_dev, cell_page, after_cell, dev_below, page_below, step_made}
use Rattle.vfm_cell_steps.specs.Made.{IsMade, two_cells, cells_of_delivery, IsDelivered}

-- where a delivery has a target, it breaks no rule
pub fine_of : (D : Desc) (d n : ℕ) (dev : Dev) (region : Region) → target_in D d n dev ≡ Some region → own_fault D (Deliver d n) dev ≡ None
fine_of D d n dev region told = waits_fine n dev (go (is_undelivered n dev.requests) told)
  where
    go : (b : Bool) → (if b then Some (region_of_job D (job_in D d n dev)) else None) ≡ Some region → b ≡ true
    go true e = refl
    go false e = absurd (some_none region (sym e))

-- two functions that agree at both cells
both_same : (f g : ℕ → Cell) (a b : ℕ) → f a ≡ g a → f b ≡ g b → map f (in_order a b) ≡ map g (in_order a b)
both_same f g a b at_a at_b =
    by_bool (a == b)
    (λ t. map f (if t then a ∷ [] else (if nat_lt a b then a ∷ b ∷ [] else b ∷ a ∷ [])) ≡ map g (if t then a ∷ [] else (if nat_lt a b then a ∷ b ∷ [] else b ∷ a ∷ [])))
    (λ same. ap (λ (x : Cell). x ∷ []) at_a)
    (λ apart. by_bool (nat_lt a b) (λ t. map f (if t then a ∷ b ∷ [] else b ∷ a ∷ []) ≡ map g (if t then a ∷ b ∷ [] else b ∷ a ∷ []))
    (λ low. ap₂ (λ (x y : Cell). x ∷ y ∷ []) at_a at_b) (λ high. ap₂ (λ (x y : Cell). x ∷ y ∷ []) at_b at_a))

-- a world with these devices and these pages
abbrev world_by : Desc → (ℕ → Dev) → (ℕ → List ℕ) → World
world_by D dev page = record { lead = first_lead D; devs = listed (device_count D) dev; pages = listed D.pages page }

whole_by : (D : Desc) (dev : ℕ → Dev) (page : ℕ → List ℕ) → IsWhole D (world_by D dev page)
whole_by D dev page = record { devs = length-listed (device_count D) dev; pages = length-listed D.pages page }

dev_by : (D : Desc) (dev : ℕ → Dev) (page : ℕ → List ℕ) (k : ℕ) → k < device_count D → dev_at (world_by D dev page) k ≡ dev k
dev_by D dev page k h = listed_at (device_count D) dev k no_dev h

page_by : (D : Desc) (dev : ℕ → Dev) (page : ℕ → List ℕ) (p : ℕ) → p < D.pages → page_at (world_by D dev page) p ≡ page p
page_by D dev page p h = listed_at D.pages page p [] h

-- a delivery in such a world, by what lies in its two cells before and after
delivered : (D : Desc) (d n : ℕ) (region : Region) (dev : ℕ → Dev) (page : ℕ → List ℕ) (own target own' target' : Cell) → d < device_count D
    → has_region D region ≡ true → (region_number D region == dev_number d) ≡ false → target_in D d n (dev d) ≡ Some region
    → cell_at D (world_by D dev page) (dev_number d) ≡ own → cell_at D (world_by D dev page) (region_number D region) ≡ target
    → cell_at D (after_on D (world_by D dev page) (Deliver d n)) (dev_number d) ≡ own'
    → cell_at D (after_on D (world_by D dev page) (Deliver d n)) (region_number D region) ≡ target'
    → IsDelivered D d n region own target own' target'
delivered D d n region dev page own target own' target' inside there other told first second third fourth =
    let w = world_by D dev page in
    let v = after_on D w (Deliver d n) in
    let number = region_number D region in
    let same : dev_at w d ≡ dev d = dev_by D dev page d inside in
    let aimed : aim D d n (dev_at w d) ≡ region = ap (aim D d n) same ∙ aimed_is D d n (dev d) region told in
    let fine : own_fault D (Deliver d n) (dev_at w d) ≡ None = ap (own_fault D (Deliver d n)) same ∙ fine_of D d n (dev d) region told in
    let step = step_made D w (Deliver d n) (whole_by D dev page) (lt-ltb d (device_count D) inside) (ap (has_region D) aimed ∙ there)
    (fault_is D (parts_in w) d (Deliver d n) (eq-eqb d d refl) ∙ fine) in
    let moved : IsMade D (Deliver d n) (cells_of_delivery D d region) (cell_at D w) (cell_at D v) =
    subst (λ (cells : List ℕ). IsMade D (Deliver d n) cells (cell_at D w) (cell_at D v)) (ap (λ (r : Region). cells_of_delivery D d r) aimed) step in
    let here : (x y : Cell) → x ≡ two_cells (dev_number d) x y (dev_number d) = λ x y. sym (cond-true _ _ _ (eq-eqb (d + 1) (d + 1) refl)) in
    let apart : (x y : Cell) → y ≡ two_cells (dev_number d) x y number =
    λ x y. sym (cond-false _ _ _ (ne_eqb (d + 1) number (λ e. eqb-false number (d + 1) other (sym e)))) in
    record {
      made =
          ap (step_of D (Deliver d n) (cells_of_delivery D d region))
          (both_same (two_cells (dev_number d) own target) (cell_at D w) (dev_number d) number (sym (first ∙ here own target)) (sym (second ∙ apart own target)))
          ∙ (moved ∙ ap Some (both_same (cell_at D v) (two_cells (dev_number d) own' target') (dev_number d) number (third ∙ here own' target') (fourth ∙ apart own' target')));
    }

-- what lies in the cells of devices and pages after an entry
dev_then : (D : Desc) (w : World) (entry : Entry) (k : ℕ) → k < device_count D
    → cell_at D (after_on D w entry) (dev_number k) ≡ device_cell (dev_after D (parts_in w) entry k)
dev_then D w entry k h = after_cell D w entry (dev_number k) (dev_below D k h) ∙ cell_dev D (parts_after D (parts_in w) entry) k h

page_then : (D : Desc) (w : World) (entry : Entry) (p : ℕ) → p < D.pages
    → cell_at D (after_on D w entry) (page_number D p) ≡ page_cell (page_after D (parts_in w) entry p)
page_then D w entry p h = after_cell D w entry (page_number D p) (page_below D p h) ∙ cell_page D (parts_after D (parts_in w) entry) p

-- at a page
pub to_page : (D : Desc) (d n p : ℕ) (own own' : Dev) (bytes bytes' : List ℕ) → d < device_count D → p < D.pages → target_in D d n own ≡ Some (Page p)
    → own' ≡ issuer_after D (Deliver d n) bytes own → bytes' ≡ page_after_job D (delivered_job D (Deliver d n) own) own.plain.buf bytes
    → IsDelivered D d n (Page p) (device_cell own) (page_cell bytes) (device_cell own') (page_cell bytes')
to_page D d n p own own' bytes bytes' inside there told made written =
    let dev : ℕ → Dev = λ k. own in
    let page : ℕ → List ℕ = λ q. bytes in
    let w = world_by D dev page in
    let here : dev_at w d ≡ own = dev_by D dev page d inside in
    let old : page_at w p ≡ bytes = page_by D dev page p there in
    let aimed : region_of_job D (job_in D d n (dev_at w d)) ≡ Page p = ap (λ (x : Dev). region_of_job D (job_in D d n x)) here ∙ aimed_is D d n own (Page p) told in
    delivered D d n (Page p) dev page (device_cell own) (page_cell bytes) (device_cell own') (page_cell bytes') inside (lt-ltb p D.pages there)
    (ne_eqb (page_number D p) (d + 1) (λ e. omega arith)) told
    (cell_dev D (parts_in w) d inside ∙ ap device_cell here) (cell_page D (parts_in w) p ∙ ap page_cell old)
    (dev_then D w (Deliver d n) d inside
    ∙ ap device_cell (no_device_is D (parts_in w) d n p aimed d
    ∙ (cond-true _ _ _ (eq-eqb d d refl) ∙ (ap₂ (λ (x : List ℕ) (y : Dev). delivered_dev D d n x y) old here ∙ sym made))))
    (page_then D w (Deliver d n) p there
    ∙ ap page_cell (to_page_is D (parts_in w) d n p aimed p
    ∙ (cond-true _ _ _ (eq-eqb p p refl) ∙ (ap₂ (λ (x : List ℕ) (y : Dev). page_after_job D (job_in D d n y) y.plain.buf x) old here ∙ sym written))))

-- at another device
pub to_device : (D : Desc) (d n t : ℕ) (own own' peer peer' : Dev) → d < device_count D → t < device_count D → (t == d) ≡ false
    → target_in D d n own ≡ Some (Bar t)
    → own' ≡ issuer_after D (Deliver d n) peer.plain.bar own → peer' ≡ struck_dev D t (delivered_job D (Deliver d n) own) own.plain.buf peer
    → IsDelivered D d n (Bar t) (device_cell own) (device_cell peer) (device_cell own') (device_cell peer')
to_device D d n t own own' peer peer' inside there other told made struck =
    let dev : ℕ → Dev = with_dev d own (λ k. peer) in
    let page : ℕ → List ℕ = λ q. [] in
    let w = world_by D dev page in
    let mine : dev d ≡ own = cond-true _ _ _ (eq-eqb d d refl) in
    let its : (x y : Dev) → (if d == t then x else y) ≡ y = λ x y. cond-false _ _ _ (ne_eqb d t (λ e. eqb-false t d other (sym e))) in
    let here : dev_at w d ≡ own = dev_by D dev page d inside ∙ mine in
    let old : dev_at w t ≡ peer = dev_by D dev page t there ∙ its own peer in
    let aimed : region_of_job D (job_in D d n (dev_at w d)) ≡ Bar t = ap (λ (x : Dev). region_of_job D (job_in D d n x)) here ∙ aimed_is D d n own (Bar t) told in
    let away : (t + 1 ≡ d + 1) → ⊥ = λ e. eqb-false t d other (omega arith) in
    delivered D d n (Bar t) dev page (device_cell own) (device_cell peer) (device_cell own') (device_cell peer') inside (lt-ltb t (device_count D) there)
    (ne_eqb (t + 1) (d + 1) away) (ap (target_in D d n) mine ∙ told)
    (cell_dev D (parts_in w) d inside ∙ ap device_cell here) (cell_dev D (parts_in w) t there ∙ ap device_cell old)
    (dev_then D w (Deliver d n) d inside
    ∙ ap device_cell (to_device_is D (parts_in w) d n t aimed d
    ∙ (cond-true _ _ _ (eq-eqb d d refl) ∙ (ap₂ (λ (x y : Dev). delivered_dev D d n x.plain.bar y) old here ∙ sym made))))
    (dev_then D w (Deliver d n) t there
    ∙ ap device_cell (to_device_is D (parts_in w) d n t aimed t
    ∙ (its _ _ ∙ (cond-true _ _ _ (eq-eqb t t refl) ∙ (ap₂ (λ (x y : Dev). struck_dev D t (job_in D d n y) y.plain.buf x) old here ∙ sym struck)))))
