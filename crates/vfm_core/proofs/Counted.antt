-- What a staged machine has counted goes on with its entries.
use Rattle.std.proofs.Common.{◌≡◌, ℕ, ◌+◌, ◌<◌, ◌≤◌, ◌==◌, Bool, true, false, if◌then◌else◌, List, [], ◌∷◌, ◌++◌, slice_index_or, refl, ap, sym, ◌∙◌, arith, eqb-true}
use Rattle.std.proofs.lemmas.Bool.{true≢false}
use Rattle.vfm_types.specs.declared.desc.Desc.{Desc}
use Rattle.vfm_types.specs.declared.entry.Entry.{Entry}
use Rattle.vfm_types.specs.declared.entry.Entry.TheVariants.{Issue, Deliver, Complete, Arc, Fail, Abort, Resume}
use Rattle.vfm_types.specs.Arcs.{arc_count}
use Rattle.vfm_types.specs.Desc.{device_count, shape_at}
use Rattle.vfm_types.specs.Job.{is_bar_of}
use Rattle.vfm_types.specs.Machine.{Machine, device_of}
use Rattle.vfm_types.specs.Outstanding.{complete_count, issue_count}
use Rattle.vfm_types.specs.Valid.{IsValid}
use Rattle.vfm_plain.specs.Legal.{IsLegal}
use Rattle.vfm_laws.proofs.FewArcs.{few_arcs}
use Rattle.vfm_laws.proofs.Rising.{by_bool}
use Rattle.vfm_parts.specs.Parts.{Dev, Lead, Parts, World, dev_at, no_dev, one_more, parts_in}
use Rattle.vfm_parts.specs.IssueStep.{issued_dev}
use Rattle.vfm_parts.specs.CompleteStep.{completed_dev}
use Rattle.vfm_parts.specs.DeliverStep.{delivered_dev, job_in, region_bytes_in, region_of_job, struck_dev}
use Rattle.vfm_parts.specs.ArcStep.{moved_dev}
use Rattle.vfm_parts.specs.AbortStep.{aborted_lead}
use Rattle.vfm_parts.specs.ResumeStep.{resumed_lead}
use Rattle.vfm_parts.specs.Steps.{after_on, dev_after, lead_after}
use Rattle.vfm_parts.proofs.Listed.{listed_at}
use Rattle.vfm_parts_laws.specs.StagedParts.{staged_dev, staged_world}
use Rattle.vfm_parts_laws.proofs.SealedSteps.{is_refused}
use Rattle.vfm_core.specs.CoreState.{HaveCounted, IsBare, steps_in, steps_of}

-- nothing is counted at first
pub first_counted : (D : Desc) (m : Machine) → HaveCounted D [] (staged_world D m)
first_counted D m =
    record {
      lead = refl;
      devs = λ d h. ap steps_in (listed_at (device_count D) (λ k. staged_dev (shape_at D k) (device_of m k)) d no_dev h);
    }

-- of the coordinator's part only what may change has changed
bare_after : (D : Desc) (parts : Parts) (entry : Entry) → is_refused entry ≡ false → IsBare D parts.lead → IsBare D (lead_after D parts entry)
bare_after D parts (Issue d n) goes bare = bare
bare_after D parts (Deliver d n) goes bare = bare
bare_after D parts (Complete d n) goes bare = bare
bare_after D parts (Arc d to) goes bare = bare
bare_after D parts Abort goes bare = ap aborted_lead bare
bare_after D parts Resume goes bare = ap resumed_lead bare
bare_after D parts entry goes bare = absurd (true≢false goes)

-- a device counts an entry of its own
own : (devs : ℕ → Dev) (change : Dev → Dev) (count : ℕ → ℕ × (ℕ × ℕ) → ℕ × (ℕ × ℕ)) (d k : ℕ) (t : ℕ × (ℕ × ℕ))
    → (steps_in (change (devs k)) ≡ count 1 (steps_in (devs k))) → count 0 t ≡ t → steps_in (devs k) ≡ t
    → steps_in (if d == k then change (devs d) else devs k) ≡ count (if d == k then 1 else 0) t
own devs change count d k t counts idle same =
    by_bool (d == k) (λ b. (d == k) ≡ b → steps_in (if b then change (devs d) else devs k) ≡ count (if b then 1 else 0) t)
    (λ here e. ap (λ (j : ℕ). steps_in (change (devs j))) (eqb-true d k e) ∙ counts ∙ ap (count 1) same)
    (λ away e. same ∙ sym idle)
    refl

-- a delivery counts nowhere
struck : (D : Desc) (parts : Parts) (d n k : ℕ) → steps_in (dev_after D parts (Deliver d n) k) ≡ steps_in (parts.dev k)
struck D parts d n k =
    let issuer = parts.dev d in
    let job = job_in D d n issuer in
    by_bool (d == k)
    (λ b. (d == k) ≡ b → steps_in (if b then delivered_dev D d n (region_bytes_in parts (region_of_job D job)) issuer
    else (if is_bar_of k (region_of_job D job) then struck_dev D k job issuer.plain.buf (parts.dev k) else parts.dev k)) ≡ steps_in (parts.dev k))
    (λ here e. ap (λ (j : ℕ). steps_in (parts.dev j)) (eqb-true d k e))
    (λ away e. by_bool (is_bar_of k (region_of_job D job))
    (λ b. steps_in (if b then struck_dev D k job issuer.plain.buf (parts.dev k) else parts.dev k) ≡ steps_in (parts.dev k)) (λ hit. refl) (λ miss. refl))
    refl

plus_zero : (n : ℕ) → n + 0 ≡ n
plus_zero n = omega arith

capped : (n : ℕ) → n ≤ 7 → one_more n ≡ n + 1
capped n few = omega arith

-- each device counts on
steps_after : (D : Desc) (parts : Parts) (entry : Entry) (mine : List Entry) (k : ℕ) → is_refused entry ≡ false → (parts.dev k).arcs ≤ 7
    → steps_in (parts.dev k) ≡ steps_of k mine → steps_in (dev_after D parts entry k) ≡ steps_of k (entry ∷ mine)
steps_after D parts (Issue d n) mine k goes few same =
    own parts.dev (issued_dev n) (λ more t. (t.0 + more, t.1)) d k (steps_of k mine) refl
    (ap (λ (i : ℕ). (i, (complete_count k mine, arc_count k mine))) (plus_zero (issue_count k mine))) same
steps_after D parts (Deliver d n) mine k goes few same = struck D parts d n k ∙ same
steps_after D parts (Complete d n) mine k goes few same =
    own parts.dev (completed_dev D d n) (λ more t. (t.0, (t.1.0 + more, t.1.1))) d k (steps_of k mine) refl
    (ap (λ (i : ℕ). (issue_count k mine, (i, arc_count k mine))) (plus_zero (complete_count k mine))) same
steps_after D parts (Arc d to) mine k goes few same =
    own parts.dev (moved_dev to) (λ more t. (t.0, (t.1.0, t.1.1 + more))) d k (steps_of k mine)
    (ap (λ (i : ℕ). ((parts.dev k).issues, ((parts.dev k).completes, i))) (capped (parts.dev k).arcs few))
    (ap (λ (i : ℕ). (issue_count k mine, (complete_count k mine, i))) (plus_zero (arc_count k mine))) same
steps_after D parts Abort mine k goes few same = same
steps_after D parts Resume mine k goes few same = same
steps_after D parts entry mine k goes few same = absurd (true≢false goes)

-- a list has no more arcs than a longer one
fewer_arcs : (d : ℕ) (mine before : List Entry) → arc_count d mine ≤ arc_count d (mine ++ before)
fewer_arcs d [] before = omega arith
fewer_arcs d (Arc e to ∷ mine) before = let fewer = fewer_arcs d mine before in omega (arith, fewer)
fewer_arcs d (Fail e to ∷ mine) before = let fewer = fewer_arcs d mine before in omega (arith, fewer)
fewer_arcs d (entry ∷ mine) before = fewer_arcs d mine before

pub counted_on : (D : Desc) (w : World) (entry : Entry) (before mine : List Entry) → IsValid D → IsLegal D (mine ++ before)
    → is_refused entry ≡ false → HaveCounted D mine w → HaveCounted D (entry ∷ mine) (after_on D w entry)
counted_on D w entry before mine valid legal goes counted =
    record {
      lead = bare_after D (parts_in w) entry goes counted.lead;
      devs = λ d h.
          let same = counted.devs d h in
          let arcs : (dev_at w d).arcs ≡ arc_count d mine = ap (λ (t : ℕ × (ℕ × ℕ)). t.1.1) same in
          let fewer = fewer_arcs d mine before in
          let most = few_arcs D (mine ++ before) d valid legal h in
          ap steps_in (listed_at (device_count D) (dev_after D (parts_in w) entry) d no_dev h)
          ∙ steps_after D (parts_in w) entry mine d goes (omega (arith, arcs, fewer, most)) same;
    }
