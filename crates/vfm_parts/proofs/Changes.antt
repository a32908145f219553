-- Each entry changes the parts as it changes the facts, kind by kind.
use Rattle.std.proofs.Common.{◌≡◌, ℕ, ◌+◌, ◌-◌, ◌<◌, ◌≤◌, ◌==◌, Bool, true, false, not, ◌&&◌, ◌||◌, if◌then◌else◌, nat_le, nat_lt, List, [], ◌∷◌, slice_set, None, refl, ap, ap₂, sym, ◌∙◌, arith, eqb-true, ltb-true}
use Rattle.std.proofs.lemmas.Bool.{eq-eqb, eqb-false, and_parts, lt-leb}
use Rattle.vfm_types.specs.declared.desc.Desc.{Desc}
use Rattle.vfm_types.specs.declared.state.MigState.{MigState}
use Rattle.vfm_types.specs.declared.state.MigState.TheVariants.{PreCopy}
use Rattle.vfm_types.specs.declared.entry.Entry.{Entry}
use Rattle.vfm_types.specs.declared.entry.Entry.TheVariants.{Issue, Deliver, Complete, Hold, Arc, Fail, Report, Pass, Copy, Block, Dry, Begin, Joint, Abort, Resume}
use Rattle.vfm_base.specs.Least.{any_below}
use Rattle.vfm_base.specs.PageSet.{contains_page}
use Rattle.vfm_types.specs.Paths.{same_state}
use Rattle.vfm_types.specs.Desc.{device_count, shape_at, job_at, block_count}
use Rattle.vfm_types.specs.Phases.{is_begun, is_joint, is_aborted, is_resumed, pass_count}
use Rattle.vfm_types.specs.Arcs.{state_of, arc_count}
use Rattle.vfm_types.specs.Outstanding.{outstanding_of, issue_count, complete_count, outstanding_job_or_zero}
use Rattle.vfm_types.specs.Marks.{is_marked, was_reported, has_reported, is_in_set, is_copied, writes_page}
use Rattle.vfm_types.specs.Blocks.{is_unread, is_dirty, takes_part, was_dry, blocks_read}
use Rattle.vfm_types.specs.Valid.{IsValid}
use Rattle.vfm_plain.specs.Legal.{IsLegal}
use Rattle.vfm_plain.specs.Rules.{fault_of}
use Rattle.vfm_laws.proofs.Rising.{by_bool}
use Rattle.vfm_laws.proofs.FewArcs.{few_arcs}
use Rattle.vfm_parts.specs.Parts.{Dev, Lead, Parts, listed, numbers_below, one_more}
use Rattle.vfm_parts.specs.PartsOf.{dev_of, lead_of, is_gathered, blocks_left, Tells}
use Rattle.vfm_parts.specs.IssueStep.{issued_dev}
use Rattle.vfm_parts.specs.CompleteStep.{completed_dev}
use Rattle.vfm_parts.specs.BeginStep.{begun_dev, begun_lead}
use Rattle.vfm_parts.specs.HoldStep.{held_dev}
use Rattle.vfm_parts.specs.ArcStep.{moved_dev}
use Rattle.vfm_parts.specs.FailStep.{failed_dev, failed_lead}
use Rattle.vfm_parts.specs.ReportStep.{reported_dev, reported_lead}
use Rattle.vfm_parts.specs.PassStep.{passed_lead, part_size}
use Rattle.vfm_parts.specs.CopyStep.{copied_lead}
use Rattle.vfm_parts.specs.BlockStep.{read_dev, read_lead}
use Rattle.vfm_parts.specs.DryStep.{dry_lead}
use Rattle.vfm_parts.specs.AbortStep.{aborted_dev, aborted_lead}
use Rattle.vfm_parts.specs.ResumeStep.{resumed_dev, resumed_lead}
use Rattle.vfm_parts.specs.JointStep.{joint_lead}
use Rattle.vfm_parts.specs.Steps.{with_dev, parts_after}
use Rattle.vfm_parts.proofs.Listed.{listed_same, set_listed}
use Rattle.vfm_parts.proofs.Sets.{has_below, below_same, below_none}
use Rattle.vfm_parts.proofs.Words.{left_at}
use Rattle.vfm_parts.proofs.Allowed.{on_live, report_on, block_on, begin_live, resume_kept, pass_number}
use Rattle.vfm_parts.proofs.Gathered.{gathered_set}
use Rattle.vfm_parts.proofs.Deliver.{deliver_dev, deliver_page}

-- ---- one device changed, the others not

one_dev : (D : Desc) (past : List Entry) (entry : Entry) (parts : Parts) → Tells D past parts → (d : ℕ) → d < device_count D
    → (change : Dev → Dev) → change (dev_of D d past) ≡ dev_of D d (entry ∷ past)
    → ((k : ℕ) → (d == k) ≡ false → dev_of D k past ≡ dev_of D k (entry ∷ past))
    → (k : ℕ) → k < device_count D → with_dev d (change (parts.dev d)) parts.dev k ≡ dev_of D k (entry ∷ past)
one_dev D past entry parts tells d inside change here other k h =
    ap₂ (λ (own dev : Dev). if d == k then change own else dev) (tells.dev d inside) (tells.dev k h)
    ∙ by_bool (d == k)
    (λ b. (d == k) ≡ b → (if b then change (dev_of D d past) else dev_of D k past) ≡ dev_of D k (entry ∷ past))
    (λ own e. here ∙ ap (λ (j : ℕ). dev_of D j (entry ∷ past)) (eqb-true d k e))
    (λ away e. other k e) refl

-- every device changed in one way
each_dev : (D : Desc) (past : List Entry) (entry : Entry) (parts : Parts) → Tells D past parts
    → (change : Dev → Dev) → ((k : ℕ) → change (dev_of D k past) ≡ dev_of D k (entry ∷ past))
    → (k : ℕ) → k < device_count D → change (parts.dev k) ≡ dev_of D k (entry ∷ past)
each_dev D past entry parts tells change same k h = ap change (tells.dev k h) ∙ same k

-- ---- a device's own entries

more : (n : ℕ) → n + 0 ≡ n
more n = omega arith

issue_here : (D : Desc) (past : List Entry) (d n : ℕ) → issued_dev n (dev_of D d past) ≡ dev_of D d (Issue d n ∷ past)
issue_here D past d n = rw (eq-eqb d d refl) refl

issue_other : (D : Desc) (past : List Entry) (d n k : ℕ) → (d == k) ≡ false → dev_of D k past ≡ dev_of D k (Issue d n ∷ past)
issue_other D past d n k other = rw (other, more (issue_count k past)) refl

marks_more : (resumed begun : Bool) (n : ℕ) (writes marked : ℕ → Bool)
    → (if begun && not resumed then numbers_below n (λ p. writes p || contains_page (if resumed then [] else numbers_below n marked) p)
    else (if resumed then [] else numbers_below n marked))
    ≡ (if resumed then [] else numbers_below n (λ p. (true && begun && writes p) || marked p))
marks_more true true n writes marked = refl
marks_more true false n writes marked = refl
marks_more false true n writes marked = below_same n _ _ (λ p h. ap (λ (b : Bool). writes p || b) (has_below n marked p h))
marks_more false false n writes marked = refl

complete_here : (D : Desc) (past : List Entry) (d n : ℕ) → completed_dev D d n (dev_of D d past) ≡ dev_of D d (Complete d n ∷ past)
complete_here D past d n =
    rw (
      eq-eqb d d refl,
      marks_more (is_resumed past) (is_begun past) D.pages
          (λ p. writes_page D p (job_at D d (outstanding_job_or_zero n (outstanding_of D d past)))) (λ p. is_marked D d p past),
    ) refl

complete_other : (D : Desc) (past : List Entry) (d n k : ℕ) → (d == k) ≡ false → dev_of D k past ≡ dev_of D k (Complete d n ∷ past)
complete_other D past d n k other = rw (other, more (complete_count k past)) refl

-- ---- holds and arcs

hold_here : (D : Desc) (past : List Entry) (d : ℕ) (to : MigState) → held_dev to (dev_of D d past) ≡ dev_of D d (Hold d to ∷ past)
hold_here D past d to = rw (eq-eqb d d refl) refl

hold_other : (D : Desc) (past : List Entry) (d : ℕ) (to : MigState) (k : ℕ) → (d == k) ≡ false → dev_of D k past ≡ dev_of D k (Hold d to ∷ past)
hold_other D past d to k other = rw other refl

-- a few arcs and one more are counted
counted : (n : ℕ) → n + 1 ≤ 7 → one_more n ≡ n + 1
counted n few = omega arith

arc_here : (D : Desc) (past : List Entry) (d : ℕ) (to : MigState) → arc_count d past + 1 ≤ 7
    → moved_dev to (dev_of D d past) ≡ dev_of D d (Arc d to ∷ past)
arc_here D past d to few = rw (eq-eqb d d refl, counted (arc_count d past) few) refl

arc_other : (D : Desc) (past : List Entry) (d : ℕ) (to : MigState) (k : ℕ) → (d == k) ≡ false → dev_of D k past ≡ dev_of D k (Arc d to ∷ past)
arc_other D past d to k other = rw (other, more (arc_count k past)) refl

fail_here : (D : Desc) (past : List Entry) (d : ℕ) (to : MigState) → arc_count d past + 1 ≤ 7
    → failed_dev (dev_of D d past) ≡ dev_of D d (Fail d to ∷ past)
fail_here D past d to few = rw (eq-eqb d d refl, counted (arc_count d past) few) refl

fail_other : (D : Desc) (past : List Entry) (d : ℕ) (to : MigState) (k : ℕ) → (d == k) ≡ false → dev_of D k past ≡ dev_of D k (Fail d to ∷ past)
fail_other D past d to k other = rw (other, more (arc_count k past)) refl

one_arc : (d n m : ℕ) → m ≡ n + (if d == d then 1 else 0) → m ≤ 7 → n + 1 ≤ 7
one_arc d n m is few = let e : m ≡ n + 1 = is ∙ ap (λ (b : Bool). n + (if b then 1 else 0)) (eq-eqb d d refl) in omega arith

-- ---- reports

cleared : (resumed same : Bool) (n : ℕ) (marked : ℕ → Bool) → same ≡ true → [] ≡ (if resumed then [] else numbers_below n (λ p. not same && marked p))
cleared true same n marked is = refl
cleared false same n marked is = rw is (sym (below_none n))

report_here : (D : Desc) (past : List Entry) (d : ℕ) → reported_dev (dev_of D d past) ≡ dev_of D d (Report d ∷ past)
report_here D past d =
    ap (λ (set : List ℕ). record (dev_of D d past) { marks = set }) (cleared (is_resumed past) (d == d) D.pages (λ p. is_marked D d p past) (eq-eqb d d refl))

report_other : (D : Desc) (past : List Entry) (d k : ℕ) → (d == k) ≡ false → dev_of D k past ≡ dev_of D k (Report d ∷ past)
report_other D past d k other = rw other refl

-- one item of a list of tests set
set_test : (n d : ℕ) (test : ℕ → Bool) → slice_set (listed n test) d true ≡ listed n (λ k. d == k || test k)
set_test n d test = set_listed n test d true ∙ listed_same n _ _ (λ k h. either (d == k) (test k))
  where
    either : (b c : Bool) → (if b then true else c) ≡ (b || c)
    either true c = refl
    either false c = refl

report_lead_is : (D : Desc) (past : List Entry) (d : ℕ) → is_resumed past ≡ false
    → reported_lead D d (dev_of D d past).marks (lead_of D past) ≡ lead_of D (Report d ∷ past)
report_lead_is D past d live =
    rw (
      live,
      set_test (device_count D) d (λ k. has_reported k past),
      below_same D.pages (λ p. contains_page (numbers_below D.pages (λ q. is_marked D d q past)) p || contains_page (numbers_below D.pages (λ q. is_gathered D q past)) p)
          (λ p. is_marked D d p past || is_gathered D p past)
          (λ p h. ap₂ (λ (a b : Bool). a || b) (has_below D.pages (λ q. is_marked D d q past) p h) (has_below D.pages (λ q. is_gathered D q past) p h)),
    ) refl

-- ---- passes, copies, blocks

copy_lead_is : (D : Desc) (past : List Entry) (p : ℕ) → copied_lead D p (lead_of D past) ≡ lead_of D (Copy p ∷ past)
copy_lead_is D past p =
    ap (λ (set : List ℕ). record (lead_of D past) { left = set })
    (below_same D.pages _ _ (λ q h. ap (λ (b : Bool). b && not (p == q)) (has_below D.pages (λ r. is_in_set D r past && not (is_copied r past)) q h)
    ∙ without_one (is_in_set D q past) (is_copied q past) (p == q)))
  where
    without_one : (a b c : Bool) → ((a && not b) && not c) ≡ (a && not (c || b))
    without_one true true true = refl
    without_one true true false = refl
    without_one true false true = refl
    without_one true false false = refl
    without_one false b c = refl

set_blocks : (D : Desc) (past : List Entry) (d : ℕ) (entry : Entry) (n : ℕ) → blocks_left D d (entry ∷ past) ≡ n
    → ((k : ℕ) → (d == k) ≡ false → blocks_left D k (entry ∷ past) ≡ blocks_left D k past)
    → slice_set (listed (device_count D) (λ k. blocks_left D k past)) d n ≡ listed (device_count D) (λ k. blocks_left D k (entry ∷ past))
set_blocks D past d entry n here other =
    set_listed (device_count D) (λ k. blocks_left D k past) d n
    ∙ listed_same (device_count D) _ _ (λ k h. by_bool (d == k)
    (λ b. (d == k) ≡ b → (if b then n else blocks_left D k past) ≡ blocks_left D k (entry ∷ past))
    (λ own e. sym here ∙ ap (λ (j : ℕ). blocks_left D j (entry ∷ past)) (eqb-true d k e)) (λ away e. sym (other k e)) refl)

block_lead_is : (D : Desc) (past : List Entry) (d b : ℕ) → d < device_count D → read_lead d (lead_of D past) ≡ lead_of D (Block d b ∷ past)
block_lead_is D past d b inside =
    ap (λ (parts : List ℕ). record (lead_of D past) { parts = parts })
    (ap (λ (n : ℕ). slice_set (listed (device_count D) (λ k. blocks_left D k past)) d (n - 1)) (left_at D past d inside)
    ∙ set_blocks D past d (Block d b) (blocks_left D d past - 1) here other)
  where
    fewer : (takes : Bool) (count read : ℕ) → (if takes then count - (read + 1) else 0) ≡ (if takes then count - read else 0) - 1
    fewer true count read = omega arith
    fewer false count read = omega arith

    here : blocks_left D d (Block d b ∷ past) ≡ blocks_left D d past - 1
    here = rw (eq-eqb d d refl) (fewer (takes_part d past && not (was_dry d past)) (block_count (shape_at D d)) (blocks_read d past))

    other : (k : ℕ) → (d == k) ≡ false → blocks_left D k (Block d b ∷ past) ≡ blocks_left D k past
    other k away = rw (away, more (blocks_read k past)) refl

dry_lead_is : (D : Desc) (past : List Entry) (d : ℕ) → dry_lead d (lead_of D past) ≡ lead_of D (Dry d ∷ past)
dry_lead_is D past d =
    ap (λ (parts : List ℕ). record (lead_of D past) { parts = parts }) (set_blocks D past d (Dry d) 0 here other)
  where
    none : (takes : Bool) (n : ℕ) → (if takes && false then n else 0) ≡ 0
    none true n = refl
    none false n = refl

    here : blocks_left D d (Dry d ∷ past) ≡ 0
    here = rw (eq-eqb d d refl) (none (takes_part d past) _)

    other : (k : ℕ) → (d == k) ≡ false → blocks_left D k (Dry d ∷ past) ≡ blocks_left D k past
    other k away = rw away refl

block_here : (D : Desc) (past : List Entry) (d b : ℕ) → is_resumed past ≡ false → read_dev D d b (dev_of D d past) ≡ dev_of D d (Block d b ∷ past)
block_here D past d b live =
    let n = block_count (shape_at D d) in
    rw (
      live,
      eq-eqb d d refl,
      below_same n (λ c. not (b == c) && contains_page (numbers_below n (λ e. is_unread d e past)) c) (λ c. not (b == c) && is_unread d c past)
          (λ c h. ap (λ (t : Bool). not (b == c) && t) (has_below n (λ e. is_unread d e past) c h)),
      below_same n (λ c. not (b == c) && contains_page (numbers_below n (λ e. is_dirty D d e past)) c) (λ c. not (b == c) && is_dirty D d c past)
          (λ c h. ap (λ (t : Bool). not (b == c) && t) (has_below n (λ e. is_dirty D d e past) c h)),
    ) refl

block_other : (D : Desc) (past : List Entry) (d b k : ℕ) → (d == k) ≡ false → dev_of D k past ≡ dev_of D k (Block d b ∷ past)
block_other D past d b k other = rw other refl

-- the pages of a pass
pass_set : (D : Desc) (past : List Entry) (k : ℕ) → IsLegal D past → fault_of D past (Pass k) ≡ None
    → (if k == 1 then numbers_below D.pages (λ p. nat_lt p D.pages) else numbers_below D.pages (λ p. is_gathered D p past))
    ≡ numbers_below D.pages (λ p. if k == 1 then nat_lt p D.pages else any_below (device_count D) (λ d. was_reported D d p past))
pass_set D past k legal fine =
    by_bool (k == 1)
    (λ b. (k == 1) ≡ b → (if b then numbers_below D.pages (λ p. nat_lt p D.pages) else numbers_below D.pages (λ p. is_gathered D p past))
    ≡ numbers_below D.pages (λ p. if b then nat_lt p D.pages else any_below (device_count D) (λ d. was_reported D d p past)))
    (λ first e. refl)
    (λ later e. below_same D.pages _ _ (λ p h. gathered_set D past p k legal fine (beyond (pass_number D past k fine) (λ same. eqb-false k 1 e same)))) refl
  where
    beyond : k ≡ pass_count past + 1 → (k ≡ 1 → ⊥) → nat_le k 1 ≡ false
    beyond is other = lt-leb k 1 (omega (arith, is, other))

pass_lead_is : (D : Desc) (past : List Entry) (k : ℕ) (parts : Parts) → Tells D past parts → IsLegal D past → fault_of D past (Pass k) ≡ None
    → passed_lead D k parts.dev (lead_of D past) ≡ lead_of D (Pass k ∷ past)
pass_lead_is D past k parts tells legal fine =
    ap₂ (λ (set left : List ℕ). record (lead_of D (Pass k ∷ past)) { set = set; left = left; gathered = []; parts = listed (device_count D) (part_size D (lead_of D past) parts.dev) })
    set_is (set_is ∙ below_same D.pages _ _ (λ p h. whole (is_in_set D p (Pass k ∷ past))))
    ∙ ap₂ (λ (gathered parts : List ℕ). record (lead_of D (Pass k ∷ past)) { gathered = gathered; parts = parts }) (sym (below_none D.pages))
    (listed_same (device_count D) _ _ size_is)
  where
    set_is : (if k == 1 then numbers_below D.pages (λ p. nat_lt p D.pages) else numbers_below D.pages (λ p. is_gathered D p past))
        ≡ numbers_below D.pages (λ p. is_in_set D p (Pass k ∷ past))
    set_is = pass_set D past k legal fine

    whole : (b : Bool) → b ≡ (b && true)
    whole true = refl
    whole false = refl

    sized : (b : Bool) (n m : ℕ) → n ≡ m → (if b then n else 0) ≡ (if b && true then m else 0)
    sized true n m same = same
    sized false n m same = refl

    size_is : (d : ℕ) → d < device_count D → part_size D (lead_of D past) parts.dev d ≡ blocks_left D d (Pass k ∷ past)
    size_is d h =
        ap (λ (dev : Dev). if is_joint past || same_state dev.state PreCopy then block_count (shape_at D d) else 0) (tells.dev d h)
        ∙ sized (is_joint past || same_state (state_of d past) PreCopy) (block_count (shape_at D d)) (block_count (shape_at D d) - 0) (omega arith)

-- ---- the whole move

begin_here : (D : Desc) (past : List Entry) → is_resumed past ≡ false → (k : ℕ) → begun_dev (dev_of D k past) ≡ dev_of D k (Begin ∷ past)
begin_here D past live k = rw (live, below_none D.pages) refl

abort_here : (D : Desc) (past : List Entry) (k : ℕ) → aborted_dev (dev_of D k past) ≡ dev_of D k (Abort ∷ past)
abort_here D past k = refl

resume_here : (D : Desc) (past : List Entry) → is_aborted past ≡ false → (k : ℕ) → resumed_dev (dev_of D k past) ≡ dev_of D k (Resume ∷ past)
resume_here D past kept k = rw (kept, stopped (is_begun past)) refl
  where
    stopped : (b : Bool) → (b && false) ≡ false
    stopped true = refl
    stopped false = refl

-- ---- the law

pub change_told : (D : Desc) (past : List Entry) (parts : Parts) (entry : Entry) → IsValid D → IsLegal D (entry ∷ past) → Tells D past parts
    → Tells D (entry ∷ past) (parts_after D parts entry)
change_told D past parts (Issue d n) valid legal tells =
    record { lead = tells.lead; page = tells.page; dev = one_dev D past (Issue d n) parts tells d (ltb-true d (device_count D) legal.0) (issued_dev n) (issue_here D past d n) (issue_other D past d n) }
change_told D past parts (Deliver d n) valid legal tells =
    record { lead = tells.lead; dev = deliver_dev D valid past d n legal parts tells; page = deliver_page D valid past d n legal parts tells }
change_told D past parts (Complete d n) valid legal tells =
    record { lead = tells.lead; page = tells.page; dev = one_dev D past (Complete d n) parts tells d (ltb-true d (device_count D) legal.0) (completed_dev D d n) (complete_here D past d n) (complete_other D past d n) }
change_told D past parts (Hold d to) valid legal tells =
    record { lead = tells.lead; page = tells.page; dev = one_dev D past (Hold d to) parts tells d (ltb-true d (device_count D) legal.0) (held_dev to) (hold_here D past d to) (hold_other D past d to) }
change_told D past parts (Arc d to) valid legal tells =
    let inside = ltb-true d (device_count D) legal.0 in
    let few = one_arc d (arc_count d past) (arc_count d (Arc d to ∷ past)) refl (few_arcs D (Arc d to ∷ past) d valid legal inside) in
    record { lead = tells.lead; page = tells.page; dev = one_dev D past (Arc d to) parts tells d inside (moved_dev to) (arc_here D past d to few) (arc_other D past d to) }
change_told D past parts (Fail d to) valid legal tells =
    let inside = ltb-true d (device_count D) legal.0 in
    let few = one_arc d (arc_count d past) (arc_count d (Fail d to ∷ past)) refl (few_arcs D (Fail d to ∷ past) d valid legal inside) in
    record {
      lead = ap failed_lead tells.lead;
      page = tells.page;
      dev = one_dev D past (Fail d to) parts tells d inside failed_dev (fail_here D past d to few) (fail_other D past d to);
    }
change_told D past parts (Report d) valid legal tells =
    let inside = ltb-true d (device_count D) legal.0 in
    record {
      lead = ap₂ (λ (dev : Dev) (lead : Lead). reported_lead D d dev.marks lead) (tells.dev d inside) tells.lead
          ∙ report_lead_is D past d (on_live past (report_on D past d legal.1));
      page = tells.page;
      dev = one_dev D past (Report d) parts tells d inside reported_dev (report_here D past d) (report_other D past d);
    }
change_told D past parts (Pass k) valid legal tells =
    record {
      lead = ap (passed_lead D k parts.dev) tells.lead ∙ pass_lead_is D past k parts tells legal.2 legal.1;
      page = tells.page;
      dev = tells.dev;
    }
change_told D past parts (Copy p) valid legal tells =
    record { lead = ap (copied_lead D p) tells.lead ∙ copy_lead_is D past p; page = tells.page; dev = tells.dev }
change_told D past parts (Block d b) valid legal tells =
    let inside = ltb-true d (device_count D) (and_parts (nat_lt d (device_count D)) (nat_lt b (block_count (shape_at D d))) legal.0).0 in
    record {
      lead = ap (read_lead d) tells.lead ∙ block_lead_is D past d b inside;
      page = tells.page;
      dev = one_dev D past (Block d b) parts tells d inside (read_dev D d b) (block_here D past d b (on_live past (block_on D past d b legal.1)))
          (block_other D past d b);
    }
change_told D past parts (Dry d) valid legal tells =
    record { lead = ap (dry_lead d) tells.lead ∙ dry_lead_is D past d; page = tells.page; dev = tells.dev }
change_told D past parts Begin valid legal tells =
    record {
      lead = ap begun_lead tells.lead;
      page = tells.page;
      dev = each_dev D past Begin parts tells begun_dev (begin_here D past (begin_live D past legal.1));
    }
change_told D past parts Joint valid legal tells =
    record { lead = ap joint_lead tells.lead; page = tells.page; dev = tells.dev }
change_told D past parts Abort valid legal tells =
    record { lead = ap aborted_lead tells.lead; page = tells.page; dev = each_dev D past Abort parts tells aborted_dev (abort_here D past) }
change_told D past parts Resume valid legal tells =
    record {
      lead = ap resumed_lead tells.lead;
      page = tells.page;
      dev = each_dev D past Resume parts tells resumed_dev (resume_here D past (resume_kept D past legal.1));
    }
