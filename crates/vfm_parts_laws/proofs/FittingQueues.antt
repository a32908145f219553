-- A device's requests fit after its own entries: Issue, Complete, and the issuer's side of a Deliver.
use Rattle.std.proofs.Common.{◌≡◌, ℕ, ◌+◌, ◌<◌, ◌≤◌, ◌==◌, ◌&&◌, ◌||◌, not, Bool, true, nat_lt, if◌then◌else◌, List, [], ◌∷◌, ◌++◌, length, take, drop, All, None, refl, ap, sym, ◌∙◌, subst, arith, ltb-true, append-nil, length-take, length-append}
use Rattle.std.proofs.lemmas.Bool.{and_parts, not-true, false≢true}
use Rattle.std.proofs.lemmas.List.Elements.{All-tail, All-head, All-cons, All-push}
use Rattle.vfm_types.specs.declared.desc.Desc.{Desc}
use Rattle.vfm_types.specs.declared.job.Job.{Job}
use Rattle.vfm_types.specs.declared.job.Job.TheVariants.{Write, Read, Store, Add}
use Rattle.vfm_types.specs.declared.entry.Rule.TheVariants.{Turn, Barred, Start}
use Rattle.vfm_base.specs.Tests.{first_failed}
use Rattle.vfm_base.specs.PageSet.{contains_page}
use Rattle.vfm_types.specs.Desc.{device_count, shape_at, job_at}
use Rattle.vfm_types.specs.Job.{place_of, length_of}
use Rattle.vfm_types.specs.Machine.{DeviceState}
use Rattle.vfm_types.specs.Requests.{fences, job_or_zero, without, taken}
use Rattle.vfm_types.specs.Outstanding.{Outstanding, deliver_if, complete_if, is_undelivered, is_arrived, unissued, outstanding_job_or_zero}
use Rattle.vfm_types.specs.Marks.{writes_page}
use Rattle.vfm_types.specs.Valid.{IsValid, IsSoundJob}
use Rattle.vfm_types.specs.Words.{has_fence, is_nothing}
use Rattle.vfm_plain.specs.Condition.{is_exactly}
use Rattle.vfm_plain.specs.IssueRules.{first_number}
use Rattle.vfm_plain.specs.Shape.{Lies}
use Rattle.vfm_plain.proofs.Sound.{sound_job, job_in_range, lies_of_job, some_bytes}
use Rattle.vfm_plain.proofs.Steps.{free_job, length-splice}
use Rattle.vfm_laws.specs.Queues.{IsGrown, waiting}
use Rattle.vfm_laws.proofs.Rising.{by_bool, length_without}
use Rattle.vfm_laws.proofs.Waiting.{issued_waiting, delivered_waiting, completed_waiting, undelivered_listed, delivered_length}
use Rattle.vfm_laws.proofs.Conditions.{met, HasTurn}
use Rattle.vfm_laws.proofs.Queued.{issued, turn_head, queue_issued, queue_taken, queue_grown, queue_completed}
use Rattle.vfm_laws.proofs.Enabled.{queue_enabled}
use Rattle.vfm_parts.specs.Parts.{Dev, numbers_below}
use Rattle.vfm_parts.specs.Fits.{IsSetBelow, DevFits}
use Rattle.vfm_parts.specs.IssueStep.{issue_conditions_in, is_next_to_issue_in, is_request_allowed_in, may_issue_yet_in, issued_dev}
use Rattle.vfm_parts.specs.DeliverStep.{deliver_conditions_in, job_in, buffer_after, delivered_dev}
use Rattle.vfm_parts.specs.CompleteStep.{complete_conditions_in, completed_dev, marks_after_complete}
use Rattle.vfm_parts.proofs.Sets.{has_below, below_same, below_none}

-- ---- sets

pub set_fits : (n : ℕ) (test : ℕ → Bool) → IsSetBelow n (numbers_below n test)
set_fits n test = below_same n test (contains_page (numbers_below n test)) (λ q h. sym (has_below n test q h))

pub empty_fits : (n : ℕ) → IsSetBelow n []
empty_fits n = sym (below_none n)

-- ---- lists

pub length_push : {X : Type 0} (xs : List X) (x : X) → length (xs ++ x ∷ []) ≡ length xs + 1
length_push xs x = length-append xs (x ∷ [])

-- what holds of each holds of the first of the second list
all_behind : {X : Type 0} (P : X → Type 0) (front : List X) (x : X) (rest : List X) → All P (front ++ x ∷ rest) → P x
all_behind P [] x rest all = All-head P x rest all
all_behind P (y ∷ front) x rest all = all_behind P front x rest (All-tail P y (front ++ x ∷ rest) all)

all_without : (P : ℕ × ℕ → Type 0) (n : ℕ) (requests : List (ℕ × ℕ)) → All P requests → All P (without n requests)
all_without P n [] all = all
all_without P n (r ∷ requests) all =
    by_bool (r.0 == n) (λ b. All P (if b then requests else r ∷ without n requests))
    (λ same. All-tail P r requests all)
    (λ other. All-cons P r (without n requests) (All-head P r requests all) (all_without P n requests (All-tail P r requests all)))

-- the jobs of requests are the same once one of them is delivered
all_delivered : (P : ℕ → Type 0) (n : ℕ) (requests : List Outstanding) → All (λ r. P r.job) requests → All (λ r. P r.job) (deliver_if true n requests)
all_delivered P n [] all = all
all_delivered P n (r ∷ requests) all =
    by_bool (r.number == n)
    (λ b. All (λ q. P q.job) (if b then (record { number = r.number; job = r.job; is_delivered = true }) ∷ requests else r ∷ deliver_if true n requests))
    (λ same. All-cons (λ q. P q.job) (record { number = r.number; job = r.job; is_delivered = true }) requests (All-head (λ q. P q.job) r requests all) (All-tail (λ q. P q.job) r requests all))
    (λ other. All-cons (λ q. P q.job) r (deliver_if true n requests) (All-head (λ q. P q.job) r requests all) (all_delivered P n requests (All-tail (λ q. P q.job) r requests all)))

all_completed : (P : ℕ → Type 0) (n : ℕ) (requests : List Outstanding) → All (λ r. P r.job) requests → All (λ r. P r.job) (complete_if true n requests)
all_completed P n [] all = all
all_completed P n (r ∷ requests) all =
    by_bool (r.number == n) (λ b. All (λ q. P q.job) (if b then requests else r ∷ complete_if true n requests))
    (λ same. All-tail (λ q. P q.job) r requests all)
    (λ other. All-cons (λ q. P q.job) r (complete_if true n requests) (All-head (λ q. P q.job) r requests all) (all_completed P n requests (All-tail (λ q. P q.job) r requests all)))

pub length_completed : (n : ℕ) (requests : List Outstanding) → is_arrived n requests ≡ true → length requests ≡ length (complete_if true n requests) + 1
length_completed n [] arrived = absurd (false≢true arrived)
length_completed n (r ∷ requests) arrived =
    by_bool (r.number == n)
    (λ b. (if b then r.is_delivered else is_arrived n requests) ≡ true
    → length (r ∷ requests) ≡ length (if b then requests else r ∷ complete_if true n requests) + 1)
    (λ same h. omega arith) (λ other h. let rest = length_completed n requests h in omega arith) arrived

-- ---- Issue

pub turn_in : (D : Desc) (d n : ℕ) (dev : Dev) → is_next_to_issue_in D d n dev ≡ true → HasTurn D d n dev.plain dev.requests
turn_in D d n dev turn =
    let pending = dev.plain.pending in
    let requests = dev.requests in
    let front = is_exactly n (first_number (unissued requests pending)) in
    let room = nat_lt (length requests) (shape_at D d).window in
    let last = not (fences D d (job_or_zero n pending)) || is_nothing requests in
    let all = and_parts (front && room && not (has_fence D d requests)) last turn in
    let three = and_parts (front && room) (not (has_fence D d requests)) all.0 in
    let two = and_parts front room three.0 in
    record {
      first = two.0;
      room = ltb-true (length requests) (shape_at D d).window two.1;
      unfenced = not-true (has_fence D d requests) three.1;
      fence = all.1;
    }

pub issue_fits : (D : Desc) (d n : ℕ) (dev : Dev) → DevFits D d dev → first_failed (issue_conditions_in D d n dev) ≡ None → DevFits D d (issued_dev n dev)
issue_fits D d n dev fits fine =
    let turn = turn_in D d n dev (met (is_next_to_issue_in D d n dev) Turn ((is_request_allowed_in D d n dev, Barred) ∷ (may_issue_yet_in D dev, Start) ∷ []) fine).0 in
    let head = turn_head D d n dev.plain dev.requests fits.queue turn in
    let job : job_or_zero n dev.plain.pending < length (shape_at D d).jobs =
    all_behind (λ r. r.1 < length (shape_at D d).jobs) (waiting dev.requests) (n, job_or_zero n dev.plain.pending) head.0
    (subst (All (λ r. r.1 < length (shape_at D d).jobs)) head.1 fits.shape.jobs) in
    let longer : length (dev.requests ++ issued n dev.plain ∷ []) ≡ length dev.requests + 1 = length_push dev.requests (issued n dev.plain) in
    let waits : length (waiting (dev.requests ++ issued n dev.plain ∷ [])) ≡ length (waiting dev.requests) + 1 =
    ap (length {A = ℕ × ℕ}) (issued_waiting (issued n dev.plain) dev.requests refl) ∙ length_push (waiting dev.requests) (n, job_or_zero n dev.plain.pending) in
    let few : dev.issues ≤ dev.plain.done + length (waiting dev.requests) = fits.issued in
    let spare : dev.completes + length dev.requests ≤ dev.issues = fits.completed in
    record {
      shape = fits.shape;
      queue = queue_issued D d n dev.plain dev.requests fits.queue turn;
      known = All-push (λ r. r.job < length (shape_at D d).jobs) dev.requests (issued n dev.plain) fits.known job;
      issued = omega arith;
      completed = omega arith;
      arcs = fits.arcs;
      lost = fits.lost;
      marks = fits.marks;
      unread = fits.unread;
      dirty = fits.dirty;
    }

-- ---- Complete

marks_fit : (D : Desc) (d n : ℕ) (dev : Dev) → IsSetBelow D.pages dev.marks → IsSetBelow D.pages (marks_after_complete D d n dev)
marks_fit D d n dev fits =
    by_bool dev.logging
    (λ b. IsSetBelow D.pages (if b then numbers_below D.pages (λ p. writes_page D p (job_at D d (outstanding_job_or_zero n dev.requests)) || contains_page dev.marks p) else dev.marks))
    (λ starts. set_fits D.pages _) (λ stopped. fits)

pub complete_fits : (D : Desc) (d n : ℕ) (dev : Dev) → DevFits D d dev → first_failed (complete_conditions_in n dev) ≡ None → DevFits D d (completed_dev D d n dev)
complete_fits D d n dev fits fine =
    let arrived = (met (is_arrived n dev.requests) Turn [] fine).0 in
    let shorter = length_completed n dev.requests arrived in
    let waits : length (waiting (complete_if true n dev.requests)) ≡ length (waiting dev.requests) =
    ap (length {A = ℕ × ℕ}) (completed_waiting n dev.requests arrived) in
    let few : dev.issues ≤ dev.plain.done + length (waiting dev.requests) = fits.issued in
    let spare : dev.completes + length dev.requests ≤ dev.issues = fits.completed in
    record {
      shape = fits.shape;
      queue = queue_completed D d n dev.plain dev.requests fits.queue arrived;
      known = all_completed (λ j. j < length (shape_at D d).jobs) n dev.requests fits.known;
      issued = omega arith;
      completed = omega arith;
      arcs = fits.arcs;
      lost = fits.lost;
      marks = marks_fit D d n dev fits.marks;
      unread = fits.unread;
      dirty = fits.dirty;
    }

-- ---- the issuer's side of a Deliver

-- the job of a request that waits for its delivery is there
pub job_exists : (D : Desc) (d n : ℕ) (dev : Dev) → DevFits D d dev → first_failed (deliver_conditions_in n dev) ≡ None
    → job_or_zero n dev.plain.pending < length (shape_at D d).jobs
job_exists D d n dev fits fine =
    free_job (fences D d) true (shape_at D d).window dev.plain.pending n (length (shape_at D d).jobs) fits.shape.jobs
    (queue_enabled D d n dev.plain dev.requests fits.queue (met (is_undelivered n dev.requests) Turn [] fine).0)

-- it is aimed at one region that is there, and not at its own device
pub job_sound : (D : Desc) (d n : ℕ) (dev : Dev) → IsValid D → d < device_count D → DevFits D d dev → first_failed (deliver_conditions_in n dev) ≡ None
    → IsSoundJob D d (job_in D d n dev)
job_sound D d n dev valid inside fits fine = sound_job D d (job_or_zero n dev.plain.pending) valid inside (job_exists D d n dev fits fine)

pub job_short : (D : Desc) (d n : ℕ) (dev : Dev) → IsValid D → d < device_count D → DevFits D d dev → first_failed (deliver_conditions_in n dev) ≡ None
    → (1 ≤ length_of (job_in D d n dev)) × (length_of (job_in D d n dev) ≤ 64)
job_short D d n dev valid inside fits fine =
    some_bytes (job_in D d n dev) (job_in_range D d (job_or_zero n dev.plain.pending) valid inside (job_exists D d n dev fits fine))

pub job_lies : (D : Desc) (d n : ℕ) (dev : Dev) → IsValid D → d < device_count D → DevFits D d dev → first_failed (deliver_conditions_in n dev) ≡ None
    → Lies D (place_of D (job_in D d n dev)) (length_of (job_in D d n dev))
job_lies D d n dev valid inside fits fine =
    lies_of_job D d (job_in D d n dev) valid (job_sound D d n dev valid inside fits fine) (job_short D d n dev valid inside fits fine).0

-- the buffer keeps its 64 bytes
buffer_length : (D : Desc) (job : Job) (target buf : List ℕ) → length_of job ≤ 64 → length buf ≡ 64 → length (buffer_after D job target buf) ≡ 64
buffer_length D (Write at bytes) target buf short is = is
buffer_length D (Read at len) target buf short is =
    let count = length-take len (drop (place_of D (Read at len)).offset target) in
    length-splice buf 0 (take len (drop (place_of D (Read at len)).offset target)) (omega arith) ∙ is
buffer_length D (Store at len) target buf short is = is
buffer_length D (Add at value) target buf short is =
    let count = length-take 8 (drop (place_of D (Add at value)).offset target) in
    length-splice buf 0 (take 8 (drop (place_of D (Add at value)).offset target)) (omega arith) ∙ is

-- a device with other bytes, or another count of lost requests, has the same queue
pub same_queue : (D : Desc) (d : ℕ) (plain : DeviceState) (bar buf : List ℕ) (lost : ℕ) → IsGrown D d plain (record plain { bar = bar; buf = buf; lost = lost })
same_queue D d plain bar buf lost = record {
  jobs = [];
  pending = sym (append-nil plain.pending);
  accepted = omega arith;
  done = refl;
  budget = λ below. below;
}

pub own_deliver_fits : (D : Desc) (d n : ℕ) (dev : Dev) (target : List ℕ) → IsValid D → d < device_count D → DevFits D d dev
    → first_failed (deliver_conditions_in n dev) ≡ None → DevFits D d (delivered_dev D d n target dev)
own_deliver_fits D d n dev target valid inside fits fine =
    let waits = (met (is_undelivered n dev.requests) Turn [] fine).0 in
    let after = record (taken dev.plain n) { buf = buffer_after D (job_in D d n dev) target dev.plain.buf } in
    let requests = deliver_if true n dev.requests in
    let same : length requests ≡ length dev.requests = delivered_length true n dev.requests in
    let shorter : length (waiting dev.requests) ≡ length (without n (waiting dev.requests)) + 1 =
    length_without n (waiting dev.requests) (undelivered_listed n dev.requests waits) in
    let less : length (waiting requests) ≡ length (without n (waiting dev.requests)) = ap (length {A = ℕ × ℕ}) (delivered_waiting n dev.requests waits) in
    let few : dev.issues ≤ dev.plain.done + length (waiting dev.requests) = fits.issued in
    let spare : dev.completes + length dev.requests ≤ dev.issues = fits.completed in
    record {
      shape = record {
        bar = fits.shape.bar;
        buf = buffer_length D (job_in D d n dev) target dev.plain.buf (job_short D d n dev valid inside fits fine).1 fits.shape.buf;
        jobs = all_without (λ r. r.1 < length (shape_at D d).jobs) n dev.plain.pending fits.shape.jobs;
      };
      queue = queue_grown D d (taken dev.plain n) after requests (queue_taken D d n dev.plain dev.requests fits.queue waits)
          (same_queue D d (taken dev.plain n) dev.plain.bar (buffer_after D (job_in D d n dev) target dev.plain.buf) dev.plain.lost);
      known = all_delivered (λ j. j < length (shape_at D d).jobs) n dev.requests fits.known;
      issued = omega arith;
      completed = omega arith;
      arcs = fits.arcs;
      lost = fits.lost;
      marks = fits.marks;
      unread = fits.unread;
      dirty = fits.dirty;
    }
