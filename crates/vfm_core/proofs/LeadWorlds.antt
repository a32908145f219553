-- The coordinator's entries on the parts of a core are its entries on the world.
use Rattle.std.proofs.Common.{◌≡◌, ℕ, true, List, [], length, slice_index_or, slice_set, refl, ap, ap₂, sym}
use Rattle.std.proofs.lemmas.Bool.{false≢true}
use Rattle.vfm_types.specs.declared.desc.Desc.{Desc}
use Rattle.vfm_types.specs.declared.entry.Entry.{Entry}
use Rattle.vfm_types.specs.declared.entry.Entry.TheVariants.{Issue, Deliver, Complete, Hold, Arc, Fail, Report, Pass, Copy, Block, Dry, Begin, Joint, Abort, Resume}
use Rattle.vfm_types.specs.Desc.{device_count}
use Rattle.vfm_parts.specs.Parts.{Dev, Lead, listed, no_dev}
use Rattle.vfm_parts.specs.Steps.{after_on, fault_on, with_dev}
use Rattle.vfm_parts.proofs.Listed.{listed_items}
use Rattle.vfm_lead.proofs.Changed.{one_set}
use Rattle.vfm_lead.specs.LeadSteps.{dev_of_list, devs_made, is_of_lead, lead_fault, lead_made}
use Rattle.vfm_core.specs.CoreState.{world_with}

-- the first rule that such an entry breaks
pub lead_judged : (D : Desc) (lead : Lead) (devs : List Dev) (pages : List (List ℕ)) (entry : Entry) → is_of_lead entry ≡ true
    → fault_on D (world_with lead devs pages) entry ≡ lead_fault D lead devs entry
lead_judged D lead devs pages (Issue d n) kind = absurd (false≢true kind)
lead_judged D lead devs pages (Deliver d n) kind = absurd (false≢true kind)
lead_judged D lead devs pages (Complete d n) kind = absurd (false≢true kind)
lead_judged D lead devs pages (Hold d to) kind = refl
lead_judged D lead devs pages (Arc d to) kind = refl
lead_judged D lead devs pages (Fail d to) kind = refl
lead_judged D lead devs pages (Report d) kind = refl
lead_judged D lead devs pages (Pass k) kind = refl
lead_judged D lead devs pages (Copy p) kind = absurd (false≢true kind)
lead_judged D lead devs pages (Block d b) kind = refl
lead_judged D lead devs pages (Dry d) kind = refl
lead_judged D lead devs pages Begin kind = refl
lead_judged D lead devs pages Joint kind = refl
lead_judged D lead devs pages Abort kind = refl
lead_judged D lead devs pages Resume kind = refl

-- pages that stay
pub pages_kept : (D : Desc) (pages : List (List ℕ)) → length pages ≡ D.pages → pages ≡ listed D.pages (λ p. slice_index_or pages p [])
pages_kept D pages is = sym (listed_items D.pages pages [] is)

-- devices that stay
pub devs_kept : (D : Desc) (devs : List Dev) → length devs ≡ device_count D → devs ≡ listed (device_count D) (λ d. slice_index_or devs d no_dev)
devs_kept D devs is = sym (listed_items (device_count D) devs no_dev is)

-- what it makes of the world
pub lead_steps : (D : Desc) (lead : Lead) (devs : List Dev) (pages : List (List ℕ)) (entry : Entry) → is_of_lead entry ≡ true → length pages ≡ D.pages
    → world_with (lead_made D lead devs entry) (devs_made D lead devs entry) pages ≡ after_on D (world_with lead devs pages) entry
lead_steps D lead devs pages (Issue d n) kind is = absurd (false≢true kind)
lead_steps D lead devs pages (Deliver d n) kind is = absurd (false≢true kind)
lead_steps D lead devs pages (Complete d n) kind is = absurd (false≢true kind)
lead_steps D lead devs pages (Hold d to) kind is = ap (world_with (lead_made D lead devs (Hold d to)) (devs_made D lead devs (Hold d to))) (pages_kept D pages is)
lead_steps D lead devs pages (Arc d to) kind is = ap (world_with (lead_made D lead devs (Arc d to)) (devs_made D lead devs (Arc d to))) (pages_kept D pages is)
lead_steps D lead devs pages (Fail d to) kind is = ap (world_with (lead_made D lead devs (Fail d to)) (devs_made D lead devs (Fail d to))) (pages_kept D pages is)
lead_steps D lead devs pages (Report d) kind is = ap (world_with (lead_made D lead devs (Report d)) (devs_made D lead devs (Report d))) (pages_kept D pages is)
lead_steps D lead devs pages (Pass k) kind is = ap (world_with (lead_made D lead devs (Pass k)) (devs_made D lead devs (Pass k))) (pages_kept D pages is)
lead_steps D lead devs pages (Copy p) kind is = absurd (false≢true kind)
lead_steps D lead devs pages (Block d b) kind is = ap (world_with (lead_made D lead devs (Block d b)) (devs_made D lead devs (Block d b))) (pages_kept D pages is)
lead_steps D lead devs pages (Dry d) kind is = ap (world_with (lead_made D lead devs (Dry d)) (devs_made D lead devs (Dry d))) (pages_kept D pages is)
lead_steps D lead devs pages Begin kind is = ap (world_with (lead_made D lead devs Begin) (devs_made D lead devs Begin)) (pages_kept D pages is)
lead_steps D lead devs pages Joint kind is = ap (world_with (lead_made D lead devs Joint) (devs_made D lead devs Joint)) (pages_kept D pages is)
lead_steps D lead devs pages Abort kind is = ap (world_with (lead_made D lead devs Abort) (devs_made D lead devs Abort)) (pages_kept D pages is)
lead_steps D lead devs pages Resume kind is = ap (world_with (lead_made D lead devs Resume) (devs_made D lead devs Resume)) (pages_kept D pages is)

-- an entry that is none of a device's and copies no page is the coordinator's
pub is_lead : (entry : Entry) → ((d n : ℕ) → entry ≡ Issue d n → ⊥) → ((d n : ℕ) → entry ≡ Deliver d n → ⊥) → ((d n : ℕ) → entry ≡ Complete d n → ⊥)
    → ((p : ℕ) → entry ≡ Copy p → ⊥) → is_of_lead entry ≡ true
is_lead (Issue d n) issue deliver complete copy = absurd (issue d n refl)
is_lead (Deliver d n) issue deliver complete copy = absurd (deliver d n refl)
is_lead (Complete d n) issue deliver complete copy = absurd (complete d n refl)
is_lead (Hold d to) issue deliver complete copy = refl
is_lead (Arc d to) issue deliver complete copy = refl
is_lead (Fail d to) issue deliver complete copy = refl
is_lead (Report d) issue deliver complete copy = refl
is_lead (Pass k) issue deliver complete copy = refl
is_lead (Copy p) issue deliver complete copy = absurd (copy p refl)
is_lead (Block d b) issue deliver complete copy = refl
is_lead (Dry d) issue deliver complete copy = refl
is_lead Begin issue deliver complete copy = refl
is_lead Joint issue deliver complete copy = refl
is_lead Abort issue deliver complete copy = refl
is_lead Resume issue deliver complete copy = refl

-- what an Issue or a Complete of device d makes of the world
pub own_steps : (D : Desc) (lead : Lead) (devs : List Dev) (pages : List (List ℕ)) (d : ℕ) (dev : Dev) → length devs ≡ device_count D → length pages ≡ D.pages
    → world_with lead (slice_set devs d dev) pages
    ≡ world_with lead (listed (device_count D) (with_dev d dev (dev_of_list devs))) (listed D.pages (λ p. slice_index_or pages p []))
own_steps D lead devs pages d dev whole is =
    ap₂ (world_with lead) (one_set (device_count D) devs d dev whole) (pages_kept D pages is)

-- what the copying of a page makes of it
pub copy_steps : (D : Desc) (lead : Lead) (devs : List Dev) (pages : List (List ℕ)) (p : ℕ) → length devs ≡ device_count D → length pages ≡ D.pages
    → world_with (lead_made D lead devs (Copy p)) devs pages ≡ after_on D (world_with lead devs pages) (Copy p)
copy_steps D lead devs pages p whole is =
    ap₂ (world_with (lead_made D lead devs (Copy p))) (devs_kept D devs whole) (pages_kept D pages is)
