-- An entry of the coordinator on the cells of the coordinator and the devices.
use Rattle.std.proofs.Common.{◌≡◌, ℕ, true, List, [], map, length, Result, Ok, Err, None, IsTrue, refl, ap, ap₂, sym, subst, ◌∙◌}
use Rattle.std.specs.Result.{OnOk, OnErr, MatchResult}
use Rattle.std.proofs.lemmas.Bool.{false≢true}
use Rattle.vfm_types.specs.declared.desc.Desc.{Desc}
use Rattle.vfm_types.specs.declared.entry.Entry.{Entry}
use Rattle.vfm_types.specs.declared.entry.Entry.TheVariants.{Issue, Deliver, Complete, Hold, Arc, Fail, Report, Pass, Copy, Block, Dry, Begin, Joint, Abort, Resume}
use Rattle.vfm_types.specs.Desc.{device_count}
use Rattle.vfm_plain.specs.Legal.{is_entry_of}
use Rattle.vfm_parts.specs.Parts.{Dev, Lead, World, Parts, parts_in, listed}
use Rattle.vfm_parts.specs.Fits.{PartsFit, PageFits}
use Rattle.vfm_parts.specs.Steps.{after_on, fault_on}
use Rattle.vfm_parts.proofs.Listed.{listed_at, length-listed}
use Rattle.vfm_parts_laws.proofs.FittingWorlds.{step_world_fits}
use Rattle.vfm_lead.specs.LeadSteps.{AreSound, devs_made, is_copy, is_of_lead, lead_fault, lead_made}
use Rattle.vfm_core.proofs.LeadWorlds.{lead_judged, lead_steps, copy_steps}
use Rattle.vfm_cells.specs.Cells.{cell_at, IsWhole}
use Rattle.vfm_cells.specs.CellSteps.{IsStepOf}
use Rattle.vfm_cells.specs.Touched.{touched, is_aimed}
use Rattle.vfm_cells.proofs.Whole.{step_made, step_told}
use Rattle.vfm_cell_steps.specs.Made.{IsStepTo, group}

-- an entry that breaks no rule, to the world after it
stepped : (D : Desc) (w v : World) (entry : Entry) → IsWhole D w → is_entry_of D entry ≡ true → is_aimed D (parts_in w) entry ≡ true → fault_on D w entry ≡ None
    → v ≡ after_on D w entry → IsStepTo D entry w v
stepped D w v entry whole named aimed fine is =
    let made = step_made D w entry whole named aimed fine in
    let step : IsStepOf D w entry (touched D (parts_in w) entry) (map (cell_at D (after_on D w entry)) (touched D (parts_in w) entry)) =
    step_told D w entry (touched D (parts_in w) entry) (map (cell_at D (after_on D w entry)) (touched D (parts_in w) entry)) whole made in
    subst (IsStepTo D entry w) (sym is) record { made = made; kept = step.kept }

aimed_lead : (D : Desc) (parts : Parts) (entry : Entry) → is_of_lead entry ≡ true → is_aimed D parts entry ≡ true
aimed_lead D parts (Deliver d n) kind = absurd (false≢true kind)
aimed_lead D parts entry kind = refl

pages_of : (D : Desc) (bytes : List ℕ) → length (listed D.pages (λ p. bytes)) ≡ D.pages
pages_of D bytes = length-listed D.pages (λ p. bytes)

-- of the coordinator's entries
pub group_steps : (D : Desc) (lead lead' : Lead) (devs devs' : List Dev) (bytes : List ℕ) (entry : Entry) → AreSound D lead devs → IsTrue (is_entry_of D entry) → is_of_lead entry ≡ true
    → lead_fault D lead devs entry ≡ None → lead' ≡ lead_made D lead devs entry → devs' ≡ devs_made D lead devs entry
    → IsStepTo D entry (group D lead devs bytes) (group D lead' devs' bytes)
group_steps D lead lead' devs devs' bytes entry sound named kind fine leads devices =
    let pages : List (List ℕ) = listed D.pages (λ p. bytes) in
    stepped D (group D lead devs bytes) (group D lead' devs' bytes) entry (record { devs = sound.devs_fit.count; pages = pages_of D bytes })
    named (aimed_lead D (parts_in (group D lead devs bytes)) entry kind) (lead_judged D lead devs pages entry kind ∙ fine)
    (ap₂ (λ (l : Lead) (ds : List Dev). group D l ds bytes) leads devices ∙ lead_steps D lead devs pages entry kind (pages_of D bytes))

-- of the copying of a page
pub copy_group_steps : (D : Desc) (lead lead' : Lead) (devs : List Dev) (bytes : List ℕ) (entry : Entry) → AreSound D lead devs → IsTrue (is_entry_of D entry) → is_copy entry ≡ true
    → lead_fault D lead devs entry ≡ None → lead' ≡ lead_made D lead devs entry
    → IsStepTo D entry (group D lead devs bytes) (group D lead' devs bytes)
copy_group_steps D lead lead' devs bytes (Copy p) sound named kind fine leads =
    let pages : List (List ℕ) = listed D.pages (λ p. bytes) in
    stepped D (group D lead devs bytes) (group D lead' devs bytes) (Copy p) (record { devs = sound.devs_fit.count; pages = pages_of D bytes })
    named refl fine
    (ap (λ (l : Lead). group D l devs bytes) leads ∙ copy_steps D lead devs pages p sound.devs_fit.count (pages_of D bytes))
copy_group_steps D lead lead' devs bytes (Issue d n) sound named kind fine leads = absurd (false≢true kind)
copy_group_steps D lead lead' devs bytes (Deliver d n) sound named kind fine leads = absurd (false≢true kind)
copy_group_steps D lead lead' devs bytes (Complete d n) sound named kind fine leads = absurd (false≢true kind)
copy_group_steps D lead lead' devs bytes (Hold d to) sound named kind fine leads = absurd (false≢true kind)
copy_group_steps D lead lead' devs bytes (Arc d to) sound named kind fine leads = absurd (false≢true kind)
copy_group_steps D lead lead' devs bytes (Fail d to) sound named kind fine leads = absurd (false≢true kind)
copy_group_steps D lead lead' devs bytes (Report d) sound named kind fine leads = absurd (false≢true kind)
copy_group_steps D lead lead' devs bytes (Pass k) sound named kind fine leads = absurd (false≢true kind)
copy_group_steps D lead lead' devs bytes (Block d b) sound named kind fine leads = absurd (false≢true kind)
copy_group_steps D lead lead' devs bytes (Dry d) sound named kind fine leads = absurd (false≢true kind)
copy_group_steps D lead lead' devs bytes Begin sound named kind fine leads = absurd (false≢true kind)
copy_group_steps D lead lead' devs bytes Joint sound named kind fine leads = absurd (false≢true kind)
copy_group_steps D lead lead' devs bytes Abort sound named kind fine leads = absurd (false≢true kind)
copy_group_steps D lead lead' devs bytes Resume sound named kind fine leads = absurd (false≢true kind)

-- ---- what keeps its fit

blank_fits : (D : Desc) (lead : Lead) (devs : List Dev) (bytes : List ℕ) → length bytes ≡ D.page → AreSound D lead devs
    → PartsFit D (parts_in (group D lead devs bytes))
blank_fits D lead devs bytes size sound =
    record {
      lead = sound.lead_fits;
      dev = sound.devs_fit.each;
      page = λ p h. subst (PageFits D) (sym (listed_at D.pages (λ q. bytes) p [] h)) size;
    }

-- the parts after an entry on a group
sound_after : (D : Desc) (lead lead' : Lead) (devs devs' : List Dev) (bytes : List ℕ) (entry : Entry) → length bytes ≡ D.page → AreSound D lead devs
    → IsTrue (is_entry_of D entry) → fault_on D (group D lead devs bytes) entry ≡ None
    → group D lead' devs' bytes ≡ after_on D (group D lead devs bytes) entry → AreSound D lead' devs'
sound_after D lead lead' devs devs' bytes entry size sound named fine is =
    let fits : PartsFit D (parts_in (group D lead' devs' bytes)) = subst (λ (w : World). PartsFit D (parts_in w)) (sym is)
    (step_world_fits D (group D lead devs bytes) entry sound.valid (blank_fits D lead devs bytes size sound) named fine) in
    record {
      valid = sound.valid;
      lead_fits = fits.lead;
      devs_fit = record {
        count = ap (λ (w : World). length w.devs) is ∙ length-listed (device_count D) _;
        each = fits.dev;
      };
    }

-- a page of zeros

abbrev blank : Desc → List ℕ
blank D = listed D.page (λ k. 0)

pub group_sound : (D : Desc) (lead lead' : Lead) (devs devs' : List Dev) (entry : Entry) → AreSound D lead devs → IsTrue (is_entry_of D entry) → is_of_lead entry ≡ true
    → lead_fault D lead devs entry ≡ None → lead' ≡ lead_made D lead devs entry → devs' ≡ devs_made D lead devs entry → AreSound D lead' devs'
group_sound D lead lead' devs devs' entry sound named kind fine leads devices =
    let pages : List (List ℕ) = listed D.pages (λ p. blank D) in
    sound_after D lead lead' devs devs' (blank D) entry (length-listed D.page (λ k. 0)) sound named (lead_judged D lead devs pages entry kind ∙ fine)
    (ap₂ (λ (l : Lead) (ds : List Dev). group D l ds (blank D)) leads devices ∙ lead_steps D lead devs pages entry kind (pages_of D (blank D)))

pub copy_sound : (D : Desc) (lead lead' : Lead) (devs : List Dev) (entry : Entry) → AreSound D lead devs → IsTrue (is_entry_of D entry) → is_copy entry ≡ true
    → lead_fault D lead devs entry ≡ None → lead' ≡ lead_made D lead devs entry → AreSound D lead' devs
copy_sound D lead lead' devs entry sound named kind fine leads = go entry named kind fine leads
  where
    go : (e : Entry) → IsTrue (is_entry_of D e) → is_copy e ≡ true → lead_fault D lead devs e ≡ None → lead' ≡ lead_made D lead devs e → AreSound D lead' devs
    go (Copy p) n k f l =
        let pages : List (List ℕ) = listed D.pages (λ p. blank D) in
        sound_after D lead lead' devs devs (blank D) (Copy p) (length-listed D.page (λ k. 0)) sound n f
        (ap (λ (x : Lead). group D x devs (blank D)) l ∙ copy_steps D lead devs pages p sound.devs_fit.count (pages_of D (blank D)))
    go (Issue d m) n k f l = absurd (false≢true k)
    go (Deliver d m) n k f l = absurd (false≢true k)
    go (Complete d m) n k f l = absurd (false≢true k)
    go (Hold d to) n k f l = absurd (false≢true k)
    go (Arc d to) n k f l = absurd (false≢true k)
    go (Fail d to) n k f l = absurd (false≢true k)
    go (Report d) n k f l = absurd (false≢true k)
    go (Pass p) n k f l = absurd (false≢true k)
    go (Block d b) n k f l = absurd (false≢true k)
    go (Dry d) n k f l = absurd (false≢true k)
    go Begin n k f l = absurd (false≢true k)
    go Joint n k f l = absurd (false≢true k)
    go Abort n k f l = absurd (false≢true k)
    go Resume n k f l = absurd (false≢true k)

-- ---- by the answer of the step

pub at_ok : {E P Q R S : Type 0} (Bad : E → Type 0) (r : Result (Unit {0}) E) → (P → Q → R → S) → MatchResult r (λ x. P) Bad → OnOk r Q → OnOk r R → OnOk r S
at_ok Bad (Ok x) f p q s = f p q s
at_ok Bad (Err e) f p q s = tt

pub at_err : {E P Q R : Type 0} (r : Result (Unit {0}) E) → (P → Q → R) → OnErr r P → OnErr r Q → OnErr r R
at_err (Ok x) f p q = tt
at_err (Err e) f p q = f p q

pub either : {E P Q R A B S : Type 0} (Bad : E → Type 0) (r : Result (Unit {0}) E) → (P → Q → R → S) → (A → B → S)
    → MatchResult r (λ x. P) Bad → OnOk r Q → OnOk r R → OnErr r A → OnErr r B → S
either Bad (Ok x) f g p q s a b = f p q s
either Bad (Err e) f g p q s a b = g a b

pub one_ok : {E P Q S : Type 0} (Bad : E → Type 0) (r : Result (Unit {0}) E) → (P → Q → S) → MatchResult r (λ x. P) Bad → OnOk r Q → OnOk r S
one_ok Bad (Ok x) f p q = f p q
one_ok Bad (Err e) f p q = tt

pub one_either : {E P Q A S : Type 0} (Bad : E → Type 0) (r : Result (Unit {0}) E) → (P → Q → S) → (A → S)
    → MatchResult r (λ x. P) Bad → OnOk r Q → OnErr r A → S
one_either Bad (Ok x) f g p q a = f p q
one_either Bad (Err e) f g p q a = g a
