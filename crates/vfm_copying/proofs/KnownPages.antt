-- A page of which no set, no log, no report and no request on the bus tells is as its last copy took it.
use Rattle.std.proofs.Common.{◌≡◌, ℕ, ◌+◌, ◌<◌, ◌==◌, Bool, true, false, not, ◌&&◌, ◌||◌, if◌then◌else◌, List, [], ◌∷◌, nat_lt, Some, refl, ap, sym, ◌∙◌, subst, arith, ltb-true, lt-ltb, eqb-true, eq-eqb, is_none}
use Rattle.std.proofs.lemmas.Bool.{eqb-false, or_parts, and_from, and_parts, false≢true, true_from_ne_false, both_ways}
use Rattle.vfm_types.specs.declared.desc.Desc.{Desc}
use Rattle.vfm_types.specs.declared.entry.Entry.{Entry}
use Rattle.vfm_types.specs.declared.entry.Entry.TheVariants.{Issue, Deliver, Complete, Report, Pass, Copy, Begin}
use Rattle.vfm_types.specs.Desc.{device_count, job_at}
use Rattle.vfm_types.specs.Machine.{device_of, with_device}
use Rattle.vfm_types.specs.Requests.{taken, job_or_zero, job_of}
use Rattle.vfm_types.specs.Deliveries.{machine_of, page_bytes}
use Rattle.vfm_types.specs.Phases.{is_begun, pass_count}
use Rattle.vfm_types.specs.Outstanding.{outstanding_of, deliver_if, complete_if, is_undelivered}
use Rattle.vfm_types.specs.Marks.{writes_page, outstanding_job, is_marked, was_reported, has_reported, is_in_set, is_copied, next_copy}
use Rattle.vfm_types.specs.Blocks.{next_part, is_no_pass_open}
use Rattle.vfm_types.specs.Valid.{IsValid}
use Rattle.vfm_base.specs.Least.{any_below}
use Rattle.vfm_plain.specs.Legal.{IsLegal}
use Rattle.vfm_laws.proofs.Rising.{by_bool}
use Rattle.vfm_laws.proofs.Conditions.{deliver_met}
use Rattle.vfm_laws.proofs.QueueLaws.{same_job}
use Rattle.vfm_copying.specs.Copies.{last_copy}
use Rattle.vfm_copying.specs.Stale.{is_left_to_copy, is_gathered, has_delivered, job_writes_page, is_written_unseen, is_write_known, is_page_stale}
use Rattle.vfm_copying.proofs.Tests.{none_is, any_below_none, least_none}
use Rattle.vfm_copying.proofs.Conditions.{pass_parts, report_parts, begin_new}
use Rattle.vfm_copying.proofs.PageWrites.{effect_leaves_page}
use Rattle.vfm_copying.proofs.Delivered.{issued_undelivered, before_delivery, before_completion}

-- nothing tells of page q
abbrev pub IsFresh : Desc → ℕ → List Entry → Type 0
IsFresh D q past =
    (0 < pass_count past) × (is_left_to_copy D q past ≡ false)
    × ((d : ℕ) → d < device_count D → is_marked D d q past ≡ false)
    × ((d : ℕ) → d < device_count D → has_reported d past ≡ true → was_reported D d q past ≡ false)
    × ((d : ℕ) → d < device_count D → is_written_unseen D d q past ≡ false)

-- where a pass has begun, so has the move
pub pass_begun : (D : Desc) (past : List Entry) → IsLegal D past → 0 < pass_count past → is_begun past ≡ true
pass_begun D [] legal some = absurd (omega arith)
pass_begun D (Begin ∷ past) legal some = refl
pass_begun D (Pass k ∷ past) legal some = (pass_parts D past k legal.1).moving.begun
pass_begun D (entry ∷ past) legal some = pass_begun D past legal.2 some

-- in no open pass a page is left
pub none_left : (D : Desc) (past : List Entry) (q : ℕ) → is_no_pass_open D past ≡ true → q < D.pages → is_left_to_copy D q past ≡ false
none_left D past q ended inside =
    least_none D.pages (λ p. is_left_to_copy D p past) q (none_is (next_copy D past) (and_parts (is_none (next_copy D past)) (is_none (next_part D past)) ended).0) inside

-- what the set of a pass says of a page that isn't in it
pub unset : (D : Desc) (past : List Entry) (k q : ℕ) → q < D.pages → is_left_to_copy D q (Pass k ∷ past) ≡ false
    → ((k == 1) ≡ false) × ((d : ℕ) → d < device_count D → was_reported D d q past ≡ false)
unset D past k q inside left =
    by_bool (k == 1)
    (λ b. ((if b then nat_lt q D.pages else any_below (device_count D) (λ d. was_reported D d q past)) && true) ≡ false
    → (b ≡ false) × ((d : ℕ) → d < device_count D → was_reported D d q past ≡ false))
    (λ first h. absurd (both_ways (nat_lt q D.pages && true) h (and_from (nat_lt q D.pages) true (lt-ltb q D.pages inside) refl)))
    (λ later h. (refl, λ d within. any_below_none (device_count D) (λ e. was_reported D e q past) d (left_false (any_below (device_count D) (λ e. was_reported D e q past)) h) within)) left
  where
    left_false : (b : Bool) → (b && true) ≡ false → b ≡ false
    left_false true h = h
    left_false false h = refl

-- a pass whose number isn't 1 isn't the first
pub not_first : (past : List Entry) (k : ℕ) → k ≡ pass_count past + 1 → (k == 1) ≡ false → 0 < pass_count past
not_first past k number later = let other : k ≡ 1 → ⊥ = eqb-false k 1 later in grind (arith, other, number)

fresh_pass : (D : Desc) (past : List Entry) (k q : ℕ) → IsLegal D (Pass k ∷ past) → q < D.pages → IsFresh D q (Pass k ∷ past) → IsFresh D q past
fresh_pass D past k q legal inside fresh =
    let met = pass_parts D past k legal.1 in
    let out = unset D past k q inside fresh.1 in
    let number : k ≡ pass_count past + 1 = met.number in
    (not_first past k number out.0, none_left D past q met.ended inside, fresh.2, (λ d within reported. out.1 d within), fresh.4)

fresh_report : (D : Desc) (past : List Entry) (e q : ℕ) → IsLegal D (Report e ∷ past) → IsFresh D q (Report e ∷ past) → IsFresh D q past
fresh_report D past e q legal fresh = (fresh.0, fresh.1, marks, reports, fresh.4)
  where
    marks : (d : ℕ) → d < device_count D → is_marked D d q past ≡ false
    marks d within =
        by_bool (e == d)
        (λ b. (not b && is_marked D d q past) ≡ false → ((b || has_reported d past) ≡ true → (if b then is_marked D d q past else was_reported D d q past) ≡ false) → is_marked D d q past ≡ false)
        (λ same h g. g refl) (λ other h g. h) (fresh.2 d within) (fresh.3 d within)

    reports : (d : ℕ) → d < device_count D → has_reported d past ≡ true → was_reported D d q past ≡ false
    reports d within reported =
        by_bool (e == d)
        (λ b. (e == d) ≡ b → ((b || has_reported d past) ≡ true → (if b then is_marked D d q past else was_reported D d q past) ≡ false) → was_reported D d q past ≡ false)
        (λ same f g. absurd (both_ways (has_reported d past) (subst (λ (k : ℕ). has_reported k past ≡ false) (eqb-true e d same) (report_parts D past e legal.1).fresh) reported))
        (λ other f g. g reported) refl (fresh.3 d within)

fresh_complete : (D : Desc) (past : List Entry) (e n q : ℕ) → IsLegal D (Complete e n ∷ past) → IsFresh D q (Complete e n ∷ past) → IsFresh D q past
fresh_complete D past e n q legal fresh = (fresh.0, fresh.1, marks, fresh.3, unseen)
  where
    tests : (d : ℕ) → d < device_count D → ((e == d && is_begun past && writes_page D q (outstanding_job D e n past)) ≡ false) × (is_marked D d q past ≡ false)
    tests d within = or_parts (e == d && is_begun past && writes_page D q (outstanding_job D e n past)) (is_marked D d q past) (fresh.2 d within)

    marks : (d : ℕ) → d < device_count D → is_marked D d q past ≡ false
    marks d within = (tests d within).1

    unseen : (d : ℕ) → d < device_count D → is_written_unseen D d q past ≡ false
    unseen d within =
        by_bool (e == d)
        (λ b. (e == d) ≡ b → (b && is_begun past && writes_page D q (outstanding_job D e n past)) ≡ false
        → has_delivered (job_writes_page D d q) (complete_if b n (outstanding_of D d past)) ≡ false → is_written_unseen D d q past ≡ false)
        (λ same f h g.
        let own : writes_page D q (outstanding_job D e n past) ≡ false = unmarked (is_begun past) (writes_page D q (outstanding_job D e n past)) (pass_begun D past legal.2 fresh.0) h in
        before_completion (job_writes_page D d q) n (outstanding_of D d past)
        (subst (λ (k : ℕ). writes_page D q (outstanding_job D k n past) ≡ false) (eqb-true e d same) own) g)
        (λ other f h g. g) refl (tests d within).0 (fresh.4 d within)
      where
        unmarked : (begun writes : Bool) → begun ≡ true → (true && begun && writes) ≡ false → writes ≡ false
        unmarked true writes is h = h
        unmarked false writes is h = absurd (false≢true is)

fresh_deliver : (D : Desc) → IsValid D → (past : List Entry) (e n q : ℕ) → IsLegal D (Deliver e n ∷ past) → IsFresh D q (Deliver e n ∷ past)
    → IsFresh D q past × (page_bytes (machine_of D (Deliver e n ∷ past)) q ≡ page_bytes (machine_of D past) q)
fresh_deliver D valid past e n q legal fresh = ((fresh.0, fresh.1, fresh.2, fresh.3, unseen), kept)
  where
    issuer : e < device_count D
    issuer = ltb-true e (device_count D) legal.0

    waits : is_undelivered n (outstanding_of D e past) ≡ true
    waits = deliver_met D past e n legal.1

    own : has_delivered (job_writes_page D e q) (deliver_if true n (outstanding_of D e past)) ≡ false
    own = subst (λ (b : Bool). has_delivered (job_writes_page D e q) (deliver_if b n (outstanding_of D e past)) ≡ false) (eq-eqb e e refl) (fresh.4 e issuer)

    unseen : (d : ℕ) → d < device_count D → is_written_unseen D d q past ≡ false
    unseen d within =
        by_bool (e == d)
        (λ b. (e == d) ≡ b → has_delivered (job_writes_page D d q) (deliver_if b n (outstanding_of D d past)) ≡ false → is_written_unseen D d q past ≡ false)
        (λ same f g. (before_delivery (job_writes_page D d q) n (outstanding_of D d past)
        (subst (λ (k : ℕ). is_undelivered n (outstanding_of D k past) ≡ true) (eqb-true e d same) waits) g).1)
        (λ other f g. g) refl (fresh.4 d within)

    kept : page_bytes (machine_of D (Deliver e n ∷ past)) q ≡ page_bytes (machine_of D past) q
    kept =
        let here = machine_of D past in
        let passes = (before_delivery (job_writes_page D e q) n (outstanding_of D e past) waits own).0 in
        effect_leaves_page D (with_device here e (taken (device_of here e) n)) e (job_of D here e n) q
        (subst (λ (j : ℕ). writes_page D q (job_at D e j) ≡ false) (sym (same_job D past e valid legal.2 issuer n waits)) passes)

fresh_issue : (D : Desc) (past : List Entry) (e n q : ℕ) → IsFresh D q (Issue e n ∷ past) → IsFresh D q past
fresh_issue D past e n q fresh = (fresh.0, fresh.1, fresh.2, fresh.3, unseen)
  where
    unseen : (d : ℕ) → d < device_count D → is_written_unseen D d q past ≡ false
    unseen d within =
        sym (issued_undelivered (job_writes_page D d q) (e == d) n (job_or_zero n (device_of (machine_of D past) d).pending) (outstanding_of D d past))
        ∙ fresh.4 d within

-- a page of which nothing tells is as its last copy took it
pub fresh_copied : (D : Desc) → IsValid D → (past : List Entry) → IsLegal D past → (q : ℕ) → q < D.pages → IsFresh D q past
    → last_copy D q past ≡ Some (page_bytes (machine_of D past) q)
fresh_copied D valid [] legal q inside fresh = absurd (omega arith)
fresh_copied D valid (Copy p ∷ past) legal q inside fresh =
    by_bool (p == q)
    (λ b. (is_in_set D q past && not (b || is_copied q past)) ≡ false
    → (if b then Some (page_bytes (machine_of D past) q) else last_copy D q past) ≡ Some (page_bytes (machine_of D past) q))
    (λ same h. refl)
    (λ other h. fresh_copied D valid past legal.2 q inside (fresh.0, h, fresh.2, fresh.3, fresh.4)) fresh.1
fresh_copied D valid (Pass k ∷ past) legal q inside fresh = fresh_copied D valid past legal.2 q inside (fresh_pass D past k q legal inside fresh)
fresh_copied D valid (Report e ∷ past) legal q inside fresh = fresh_copied D valid past legal.2 q inside (fresh_report D past e q legal fresh)
fresh_copied D valid (Complete e n ∷ past) legal q inside fresh = fresh_copied D valid past legal.2 q inside (fresh_complete D past e n q legal fresh)
fresh_copied D valid (Deliver e n ∷ past) legal q inside fresh =
    let before = fresh_deliver D valid past e n q legal fresh in
    fresh_copied D valid past legal.2 q inside before.0 ∙ ap Some (sym before.1)
fresh_copied D valid (Issue e n ∷ past) legal q inside fresh = fresh_copied D valid past legal.2 q inside (fresh_issue D past e n q fresh)
fresh_copied D valid (Begin ∷ past) legal q inside fresh = absurd (both_ways (is_begun past) (begin_new D past legal.1) (pass_begun D past legal.2 fresh.0))
fresh_copied D valid (entry ∷ past) legal q inside fresh = fresh_copied D valid past legal.2 q inside fresh

-- what a page of which nothing tells is, test by test
fresh_from : (D : Desc) (past : List Entry) (q : ℕ) → 0 < pass_count past → is_page_stale D q past ≡ false → IsFresh D q past
fresh_from D past q begun still = (begun, parts.0, (λ d within. (three d within).0), reports, (λ d within. (three d within).2))
  where
    parts : (is_left_to_copy D q past ≡ false) × (any_below (device_count D) (λ d. is_write_known D q d past) ≡ false)
    parts = or_parts (is_left_to_copy D q past) (any_below (device_count D) (λ d. is_write_known D q d past)) still

    three : (d : ℕ) → d < device_count D
        → (is_marked D d q past ≡ false) × ((has_reported d past && was_reported D d q past) ≡ false) × (is_written_unseen D d q past ≡ false)
    three d within =
        let all = or_parts (is_marked D d q past || is_gathered D d q past) (is_written_unseen D d q past)
        (any_below_none (device_count D) (λ e. is_write_known D q e past) d parts.1 within) in
        let two = or_parts (is_marked D d q past) (is_gathered D d q past) all.0 in
        (two.0, two.1, all.1)

    reports : (d : ℕ) → d < device_count D → has_reported d past ≡ true → was_reported D d q past ≡ false
    reports d within reported = subst (λ (b : Bool). (b && was_reported D d q past) ≡ false) reported (three d within).1

-- once a pass has begun, a page that isn't stale is as its last copy took it
pub fresh_pages : (D : Desc) (past : List Entry) (q : ℕ) → IsValid D → IsLegal D past → q < D.pages → 0 < pass_count past
    → is_page_stale D q past ≡ false → last_copy D q past ≡ Some (page_bytes (machine_of D past) q)
fresh_pages D past q valid legal inside begun still = fresh_copied D valid past legal q inside (fresh_from D past q begun still)

-- and so one that differs is stale
pub changed_pages : (D : Desc) (past : List Entry) (q : ℕ) → IsValid D → IsLegal D past → q < D.pages → 0 < pass_count past
    → (last_copy D q past ≡ Some (page_bytes (machine_of D past) q) → ⊥) → is_page_stale D q past ≡ true
changed_pages D past q valid legal inside begun changed =
    true_from_ne_false (is_page_stale D q past) (λ still. changed (fresh_pages D past q valid legal inside begun still))
