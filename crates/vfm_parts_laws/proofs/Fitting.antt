-- Each allowed entry keeps what every part satisfies by itself.
use Rattle.std.proofs.lemmas.Bool.{or_parts}
use Rattle.std.proofs.Common.{◌≡◌, ℕ, ◌+◌, ◌-◌, ◌<◌, ◌≤◌, ◌==◌, ◌&&◌, ◌||◌, not, Bool, true, false, nat_le, nat_lt, if◌then◌else◌, List, [], ◌∷◌, length, slice_index_or, slice_set, Option, Some, None, refl, ap, sym, ◌∙◌, subst, arith, eqb-true, ltb-true, ⊎_elim}
use Rattle.std.proofs.lemmas.Bool.{and_parts, not-true, false≢true, true≢false, cases_eq, cases_lt, eqb-false, leb-false, ltb-false}
use Rattle.std.proofs.lemmas.List.{get_or-set_same, get_or-set_other, set_past, length-set}
use Rattle.vfm_types.specs.declared.desc.Desc.{Desc}
use Rattle.vfm_types.specs.declared.job.Region.{Region}
use Rattle.vfm_types.specs.declared.job.Region.TheVariants.{Page, Bar}
use Rattle.vfm_types.specs.declared.state.MigState.{MigState}
use Rattle.vfm_types.specs.declared.state.MigState.TheVariants.{PreCopy, Resuming}
use Rattle.vfm_types.specs.declared.entry.Entry.{Entry}
use Rattle.vfm_types.specs.declared.entry.Entry.TheVariants.{Issue, Deliver, Complete, Hold, Arc, Fail, Report, Pass, Copy, Block, Dry, Begin, Joint, Abort, Resume}
use Rattle.vfm_types.specs.declared.entry.Rule.TheVariants.{Order, Pages, Decide}
use Rattle.vfm_base.specs.Tests.{first_failed}
use Rattle.vfm_base.specs.Least.{all_below}
use Rattle.vfm_types.specs.State.{has_pre_copy}
use Rattle.vfm_types.specs.Paths.{same_state}
use Rattle.vfm_types.specs.Desc.{device_count, shape_at, bar_bytes, block_count}
use Rattle.vfm_types.specs.Job.{place_of, length_of, is_bar_of, is_page}
use Rattle.vfm_types.specs.Valid.{IsValid}
use Rattle.vfm_plain.specs.Legal.{is_entry_of}
use Rattle.vfm_plain.specs.Shape.{LiesIn, Lies}
use Rattle.vfm_laws.proofs.Rising.{by_bool}
use Rattle.vfm_laws.proofs.Conditions.{met}
use Rattle.vfm_parts.specs.Parts.{Dev, Lead, Parts, numbers_below, one_more}
use Rattle.vfm_parts.specs.PartWords.{is_on_in, is_no_pass_open_in, has_reported_in, is_decided_in, blocks_left_in}
use Rattle.vfm_parts.specs.Fits.{IsSetBelow, DevFits, LeadFits, PageFits, PartsFit}
use Rattle.vfm_parts.specs.IssueStep.{issued_dev}
use Rattle.vfm_parts.specs.DeliverStep.{job_in, region_of_job, region_bytes_in, delivered_dev, struck_dev, page_after_job, deliver_conditions_in}
use Rattle.vfm_parts.specs.CompleteStep.{completed_dev}
use Rattle.vfm_parts.specs.HoldStep.{held_dev}
use Rattle.vfm_parts.specs.ArcStep.{moved_dev}
use Rattle.vfm_parts.specs.FailStep.{failed_dev}
use Rattle.vfm_parts.specs.ReportStep.{reported_dev, reported_lead}
use Rattle.vfm_parts.specs.PassStep.{is_next_pass_in, is_pass_wanted_in, pass_pages, part_size, passed_lead}
use Rattle.vfm_parts.specs.BlockStep.{read_dev, read_lead}
use Rattle.vfm_parts.specs.Steps.{fault_in, with_dev, parts_after, dev_after, page_after}
use Rattle.vfm_parts.proofs.Listed.{listed_at, length-listed}
use Rattle.vfm_parts_laws.proofs.FittingQueues.{set_fits, empty_fits, issue_fits, complete_fits, own_deliver_fits, job_lies}
use Rattle.vfm_parts_laws.proofs.FittingTargets.{target_fits, page_fits}

-- ---- devices

-- a device of which other things changed
other_fits : (D : Desc) (d : ℕ) (dev : Dev) (state : MigState) (hold : Option MigState) (arcs : ℕ) (logging released : Bool) (marks unread dirty : List ℕ)
    → DevFits D d dev → arcs ≤ 4294967295 → IsSetBelow D.pages marks → IsSetBelow (block_count (shape_at D d)) unread → IsSetBelow (block_count (shape_at D d)) dirty
    → DevFits D d (record dev { state = state; hold = hold; arcs = arcs; logging = logging; released = released; marks = marks; unread = unread; dirty = dirty })
other_fits D d dev state hold arcs logging released marks unread dirty fits few marks_fit unread_fit dirty_fit =
    record {
      shape = fits.shape;
      queue = fits.queue;
      known = fits.known;
      issued = fits.issued;
      completed = fits.completed;
      arcs = few;
      lost = fits.lost;
      marks = marks_fit;
      unread = unread_fit;
      dirty = dirty_fit;
    }

most_arcs : (n : ℕ) → one_more n ≤ 4294967295
most_arcs n = omega arith

one_fits : (D : Desc) (parts : Parts) (d : ℕ) (after : Dev) → ((k : ℕ) → k < device_count D → DevFits D k (parts.dev k)) → DevFits D d after
    → (k : ℕ) → k < device_count D → DevFits D k (with_dev d after parts.dev k)
one_fits D parts d after fits changed k h =
    by_bool (d == k) (λ b. (d == k) ≡ b → DevFits D k (if b then after else parts.dev k))
    (λ here e. subst (λ (j : ℕ). DevFits D j after) (eqb-true d k e) changed) (λ away e. fits k h) refl

-- ---- a delivery

pub bar_inside : (D : Desc) (k offset len : ℕ) (r : Region) → LiesIn D r offset len → is_bar_of k r ≡ true → offset + len ≤ bar_bytes (shape_at D k)
bar_inside D k offset len (Page p) lies hit = absurd (false≢true hit)
bar_inside D k offset len (Bar t) lies hit = subst (λ (j : ℕ). offset + len ≤ bar_bytes (shape_at D j)) (eqb-true t k hit) lies.1

page_inside : (D : Desc) (i offset len : ℕ) (r : Region) → LiesIn D r offset len → is_page i r ≡ true → offset + len ≤ D.page
page_inside D i offset len (Page p) lies hit = lies.1
page_inside D i offset len (Bar t) lies hit = absurd (false≢true hit)

module _ (D : Desc) (parts : Parts) (d n : ℕ) (valid : IsValid D) (fits : PartsFit D parts) (inside : d < device_count D)
    (fine : first_failed (deliver_conditions_in n (parts.dev d)) ≡ None) where
  pub lies : Lies D (place_of D (job_in D d n (parts.dev d))) (length_of (job_in D d n (parts.dev d)))
  lies = job_lies D d n (parts.dev d) valid inside (fits.dev d inside) fine

  deliver_dev : (k : ℕ) → k < device_count D → DevFits D k (dev_after D parts (Deliver d n) k)
  deliver_dev k h =
      by_bool (d == k)
      (λ b. (d == k) ≡ b → DevFits D k (if b then delivered_dev D d n bytes (parts.dev d) else
      (if is_bar_of k (region_of_job D (job_in D d n (parts.dev d))) then struck_dev D k (job_in D d n (parts.dev d)) (parts.dev d).plain.buf (parts.dev k) else parts.dev k)))
      (λ here e. subst (λ (j : ℕ). DevFits D j (delivered_dev D d n bytes (parts.dev d))) (eqb-true d k e)
      (own_deliver_fits D d n (parts.dev d) bytes valid inside (fits.dev d inside) fine))
      (λ away e. by_bool (is_bar_of k (region_of_job D (job_in D d n (parts.dev d))))
      (λ b. is_bar_of k (region_of_job D (job_in D d n (parts.dev d))) ≡ b
      → DevFits D k (if b then struck_dev D k (job_in D d n (parts.dev d)) (parts.dev d).plain.buf (parts.dev k) else parts.dev k))
      (λ hit f. target_fits D k (job_in D d n (parts.dev d)) (parts.dev d).plain.buf (parts.dev k)
      (bar_inside D k (place_of D (job_in D d n (parts.dev d))).offset (length_of (job_in D d n (parts.dev d))) (region_of_job D (job_in D d n (parts.dev d))) lies f) (fits.dev k h))
      (λ miss f. fits.dev k h) refl) refl
    where
      bytes : List ℕ
      bytes = region_bytes_in parts (region_of_job D (job_in D d n (parts.dev d)))

  deliver_page : (i : ℕ) → i < D.pages → PageFits D (page_after D parts (Deliver d n) i)
  deliver_page i h =
      by_bool (is_page i (region_of_job D (job_in D d n (parts.dev d))))
      (λ b. is_page i (region_of_job D (job_in D d n (parts.dev d))) ≡ b
      → PageFits D (if b then page_after_job D (job_in D d n (parts.dev d)) (parts.dev d).plain.buf (parts.page i) else parts.page i))
      (λ hit f. page_fits D (job_in D d n (parts.dev d)) (parts.dev d).plain.buf (parts.page i)
      (page_inside D i (place_of D (job_in D d n (parts.dev d))).offset (length_of (job_in D d n (parts.dev d))) (region_of_job D (job_in D d n (parts.dev d))) lies f) (fits.page i h))
      (λ miss f. fits.page i h) refl

-- ---- the coordinator

-- one item of a list set
set_bound : (xs : List ℕ) (d x k bound : ℕ) → (d ≡ k → x ≤ bound) → slice_index_or xs k 0 ≤ bound → slice_index_or (slice_set xs d x) k 0 ≤ bound
set_bound xs d x k bound new old =
    ⊎_elim (λ (same : k ≡ d). ⊎_elim
    (λ (h : d < length xs). subst (λ (y : ℕ). y ≤ bound) (sym (ap (λ (j : ℕ). slice_index_or (slice_set xs d x) j 0) same ∙ get_or-set_same xs d x 0 h)) (new (sym same)))
    (λ (h : length xs ≤ d). subst (λ (ys : List ℕ). slice_index_or ys k 0 ≤ bound) (sym (set_past xs d x h)) old) (cases_lt d (length xs)))
    (λ (other : k ≡ d → ⊥). subst (λ (y : ℕ). y ≤ bound) (sym (get_or-set_other xs d k x 0 other)) old) (cases_eq k d)

parts_fit : (D : Desc) (lead : Lead) (d x : ℕ) → LeadFits D lead → x ≤ block_count (shape_at D d) → LeadFits D (record lead { parts = slice_set lead.parts d x })
parts_fit D lead d x fits few =
    record {
      passes = fits.passes;
      before_last = fits.before_last;
      set = fits.set;
      left = fits.left;
      gathered = fits.gathered;
      reported = fits.reported;
      parts = length-set lead.parts d x ∙ fits.parts;
      sizes = λ k h. set_bound lead.parts d x k (block_count (shape_at D k)) (λ same. subst (λ (j : ℕ). x ≤ block_count (shape_at D j)) same few) (fits.sizes k h);
    }

read_fits : (D : Desc) (lead : Lead) (d : ℕ) → d < device_count D → LeadFits D lead → LeadFits D (read_lead d lead)
read_fits D lead d inside fits = let few = fits.sizes d inside in parts_fit D lead d (blocks_left_in lead d - 1) fits (omega arith)

report_fits : (D : Desc) (lead : Lead) (d : ℕ) (marks : List ℕ) → LeadFits D lead → LeadFits D (reported_lead D d marks lead)
report_fits D lead d marks fits =
    record {
      passes = fits.passes;
      before_last = fits.before_last;
      set = fits.set;
      left = fits.left;
      gathered = set_fits D.pages _;
      reported = length-set lead.reported d true ∙ fits.reported;
      parts = fits.parts;
      sizes = fits.sizes;
    }

-- flags changed
flags_fit : (D : Desc) (lead : Lead) (begun joint aborted resumed failed : Bool) → LeadFits D lead
    → LeadFits D (record lead { begun = begun; joint = joint; aborted = aborted; resumed = resumed; failed = failed })
flags_fit D lead begun joint aborted resumed failed fits =
    record {
      passes = fits.passes;
      before_last = fits.before_last;
      set = fits.set;
      left = fits.left;
      gathered = fits.gathered;
      reported = fits.reported;
      parts = fits.parts;
      sizes = fits.sizes;
    }

-- a pass before the last one is one of `rounds`
few_passes : (rounds passes : ℕ) (closed few : Bool) → closed ≡ true → (rounds == 0 || (nat_lt 0 passes && closed && (nat_le rounds passes || few))) ≡ false
    → passes + 1 ≤ rounds
few_passes rounds passes closed few is undecided =
    let parts = or_parts (rounds == 0) (nat_lt 0 passes && closed && (nat_le rounds passes || few)) undecided in
    let some : rounds ≡ 0 → ⊥ = eqb-false rounds 0 parts.0 in
    by_bool (nat_lt 0 passes)
    (λ b. nat_lt 0 passes ≡ b → (b && closed && (nat_le rounds passes || few)) ≡ false → passes + 1 ≤ rounds)
    (λ later e h.
    let open_ : (nat_le rounds passes || few) ≡ false = sym (ap (λ (c : Bool). c && (nat_le rounds passes || few)) is) ∙ h in
    let low : passes < rounds = leb-false rounds passes (or_parts (nat_le rounds passes) few open_).0 in omega arith)
    (λ first e h. let none : passes ≤ 0 = ltb-false 0 passes e in omega (arith, some)) refl parts.1

next_closed : (D : Desc) (k : ℕ) (lead : Lead) → is_next_pass_in D k lead ≡ true → is_no_pass_open_in D lead ≡ true
next_closed D k lead next =
    (and_parts (k == lead.passes + 1) (is_no_pass_open_in D lead)
    (and_parts (k == lead.passes + 1 && is_no_pass_open_in D lead) (nat_le k 1 || all_below (device_count D) (λ d. has_reported_in lead d)) next).0).1

pub pass_few : (D : Desc) (k : ℕ) (lead : Lead) (devs : ℕ → Dev) → LeadFits D lead → is_next_pass_in D k lead ≡ true → is_pass_wanted_in D k lead devs ≡ true
    → (lead.passes + 1 ≤ D.rounds + 1) × (lead.joint ≡ false → lead.passes + 1 ≤ D.rounds)
pass_few D k lead devs fits next wanted =
    by_bool lead.joint
    (λ b. lead.joint ≡ b → (if b then not lead.last else not (is_decided_in D lead) && ready) ≡ true
    → (lead.passes + 1 ≤ D.rounds + 1) × (b ≡ false → lead.passes + 1 ≤ D.rounds))
    (λ stands e w. let few = fits.before_last (not-true lead.last w) in (omega arith, (λ never. absurd (true≢false never))))
    (λ runs e w.
    let undecided = not-true (is_decided_in D lead) (and_parts (not (is_decided_in D lead)) ready w).0 in
    let few = few_passes D.rounds lead.passes (is_no_pass_open_in D lead) (nat_le (length lead.set) D.threshold) (next_closed D k lead next) undecided in
    (omega arith, (λ same. few))) refl wanted
  where
    ready : Bool
    ready = not (k == 1) || all_below (device_count D) (λ d. not (has_pre_copy (shape_at D d).flags) || same_state (devs d).state PreCopy)

pub pass_fits : (D : Desc) (k : ℕ) (lead : Lead) (devs : ℕ → Dev) → LeadFits D lead → is_next_pass_in D k lead ≡ true → is_pass_wanted_in D k lead devs ≡ true
    → LeadFits D (passed_lead D k devs lead)
pass_fits D k lead devs fits next wanted =
    let few = pass_few D k lead devs fits next wanted in
    record {
      passes = few.0;
      before_last = few.1;
      set = pages;
      left = pages;
      gathered = empty_fits D.pages;
      reported = length-listed (device_count D) (λ d. false);
      parts = length-listed (device_count D) (part_size D lead devs);
      sizes = λ d h. subst (λ (n : ℕ). n ≤ block_count (shape_at D d)) (sym (listed_at (device_count D) (part_size D lead devs) d 0 h)) (sized d);
    }
  where
    pages : IsSetBelow D.pages (pass_pages D k lead)
    pages =
        by_bool (k == 1) (λ b. IsSetBelow D.pages (if b then numbers_below D.pages (λ p. nat_lt p D.pages) else lead.gathered))
        (λ first. set_fits D.pages _) (λ later. fits.gathered)

    sized : (d : ℕ) → part_size D lead devs d ≤ block_count (shape_at D d)
    sized d =
        by_bool (lead.joint || same_state (devs d).state PreCopy) (λ b. (if b then block_count (shape_at D d) else 0) ≤ block_count (shape_at D d))
        (λ takes. omega arith) (λ none. omega arith)

-- ---- every kind

pub step_fits : (D : Desc) (parts : Parts) (entry : Entry) → IsValid D → PartsFit D parts → is_entry_of D entry ≡ true → fault_in D parts entry ≡ None
    → PartsFit D (parts_after D parts entry)
step_fits D parts (Issue d n) valid fits named fine =
    let inside = ltb-true d (device_count D) named in
    record { lead = fits.lead; page = fits.page; dev = one_fits D parts d (issued_dev n (parts.dev d)) fits.dev (issue_fits D d n (parts.dev d) (fits.dev d inside) fine) }
step_fits D parts (Deliver d n) valid fits named fine =
    let inside = ltb-true d (device_count D) named in
    record { lead = fits.lead; page = deliver_page D parts d n valid fits inside fine; dev = deliver_dev D parts d n valid fits inside fine }
step_fits D parts (Complete d n) valid fits named fine =
    let inside = ltb-true d (device_count D) named in
    record { lead = fits.lead; page = fits.page; dev = one_fits D parts d (completed_dev D d n (parts.dev d)) fits.dev (complete_fits D d n (parts.dev d) (fits.dev d inside) fine) }
step_fits D parts (Hold d to) valid fits named fine =
    let dev = parts.dev d in
    let own = fits.dev d (ltb-true d (device_count D) named) in
    record {
      lead = fits.lead;
      page = fits.page;
      dev = one_fits D parts d (held_dev to dev) fits.dev
          (other_fits D d dev dev.state (Some to) dev.arcs dev.logging dev.released dev.marks dev.unread dev.dirty own own.arcs own.marks own.unread own.dirty);
    }
step_fits D parts (Arc d to) valid fits named fine =
    let dev = parts.dev d in
    let own = fits.dev d (ltb-true d (device_count D) named) in
    record {
      lead = fits.lead;
      page = fits.page;
      dev = one_fits D parts d (moved_dev to dev) fits.dev
          (other_fits D d dev to None (one_more dev.arcs) dev.logging dev.released dev.marks dev.unread dev.dirty own (most_arcs dev.arcs) own.marks own.unread own.dirty);
    }
step_fits D parts (Fail d to) valid fits named fine =
    let dev = parts.dev d in
    let own = fits.dev d (ltb-true d (device_count D) named) in
    record {
      lead = flags_fit D parts.lead parts.lead.begun parts.lead.joint parts.lead.aborted parts.lead.resumed true fits.lead;
      page = fits.page;
      dev = one_fits D parts d (failed_dev dev) fits.dev
          (other_fits D d dev dev.state dev.hold (one_more dev.arcs) dev.logging dev.released dev.marks dev.unread dev.dirty own (most_arcs dev.arcs) own.marks own.unread own.dirty);
    }
step_fits D parts (Report d) valid fits named fine =
    let dev = parts.dev d in
    let own = fits.dev d (ltb-true d (device_count D) named) in
    record {
      lead = report_fits D parts.lead d dev.marks fits.lead;
      page = fits.page;
      dev = one_fits D parts d (reported_dev dev) fits.dev
          (other_fits D d dev dev.state dev.hold dev.arcs dev.logging dev.released [] dev.unread dev.dirty own own.arcs (empty_fits D.pages) own.unread own.dirty);
    }
step_fits D parts (Pass k) valid fits named fine =
    let order = met (is_on_in parts.lead) Order ((is_next_pass_in D k parts.lead, Pages) ∷ (is_pass_wanted_in D k parts.lead parts.dev, Decide) ∷ []) fine in
    let next = met (is_next_pass_in D k parts.lead) Pages ((is_pass_wanted_in D k parts.lead parts.dev, Decide) ∷ []) order.1 in
    let wanted = met (is_pass_wanted_in D k parts.lead parts.dev) Decide [] next.1 in
    record { lead = pass_fits D k parts.lead parts.dev fits.lead next.0 wanted.0; dev = fits.dev; page = fits.page }
step_fits D parts (Copy p) valid fits named fine =
    let lead = fits.lead in
    record {
      lead = record {
        passes = lead.passes;
        before_last = lead.before_last;
        set = lead.set;
        left = set_fits D.pages _;
        gathered = lead.gathered;
        reported = lead.reported;
        parts = lead.parts;
        sizes = lead.sizes;
      };
      dev = fits.dev;
      page = fits.page;
    }
step_fits D parts (Block d b) valid fits named fine =
    let dev = parts.dev d in
    let inside = ltb-true d (device_count D) (and_parts (nat_lt d (device_count D)) (nat_lt b (block_count (shape_at D d))) named).0 in
    let own = fits.dev d inside in
    record {
      lead = read_fits D parts.lead d inside fits.lead;
      page = fits.page;
      dev = one_fits D parts d (read_dev D d b dev) fits.dev
          (other_fits D d dev dev.state dev.hold dev.arcs dev.logging dev.released dev.marks (read_dev D d b dev).unread (read_dev D d b dev).dirty own own.arcs own.marks
          (set_fits (block_count (shape_at D d)) _) (set_fits (block_count (shape_at D d)) _));
    }
step_fits D parts (Dry d) valid fits named fine =
    record { lead = parts_fit D parts.lead d 0 fits.lead (omega arith); dev = fits.dev; page = fits.page }
step_fits D parts Begin valid fits named fine =
    record {
      lead = flags_fit D parts.lead true parts.lead.joint parts.lead.aborted parts.lead.resumed parts.lead.failed fits.lead;
      page = fits.page;
      dev = λ k h. let dev = parts.dev k in let own = fits.dev k h in
          other_fits D k dev dev.state dev.hold dev.arcs true dev.released [] dev.unread dev.dirty own own.arcs (empty_fits D.pages) own.unread own.dirty;
    }
step_fits D parts Joint valid fits named fine =
    record { lead = flags_fit D parts.lead parts.lead.begun true parts.lead.aborted parts.lead.resumed parts.lead.failed fits.lead; dev = fits.dev; page = fits.page }
step_fits D parts Abort valid fits named fine =
    record {
      lead = flags_fit D parts.lead parts.lead.begun parts.lead.joint true parts.lead.resumed false fits.lead;
      page = fits.page;
      dev = λ k h. let dev = parts.dev k in let own = fits.dev k h in
          other_fits D k dev dev.state None dev.arcs dev.logging true dev.marks dev.unread dev.dirty own own.arcs own.marks own.unread own.dirty;
    }
step_fits D parts Resume valid fits named fine =
    record {
      lead = flags_fit D parts.lead parts.lead.begun parts.lead.joint parts.lead.aborted true parts.lead.failed fits.lead;
      page = fits.page;
      dev = λ k h. let dev = parts.dev k in let own = fits.dev k h in
          other_fits D k dev Resuming dev.hold dev.arcs false true [] [] [] own own.arcs (empty_fits D.pages) (empty_fits (block_count (shape_at D k))) (empty_fits (block_count (shape_at D k)));
    }
