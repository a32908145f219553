-- What an engine keeps beside its value, through every step.
use Rattle.std.proofs.Common.{◌≡◌, ℕ, ◌+◌, ◌<◌, ◌≤◌, ◌==◌, ◌&&◌, ◌||◌, not, Bool, true, false, if◌then◌else◌, nat_lt, List, [], ◌∷◌, ◌++◌, length, Option, Some, None, eqb-true, refl, sym, ap, ◌∙◌, subst, arith}
use Rattle.std.specs.Prelude.{All}
use Rattle.std.specs.List.{list_all}
use Rattle.std.proofs.lemmas.Bool.{and_parts, false≢true, ltb-true, not-true}
use Rattle.std.proofs.lemmas.List.{append-nil}
use Rattle.std.proofs.lemmas.List.Elements.{All-cons, All-head, All-nil, All-push, All-tail}
use Rattle.vfm_types.specs.declared.desc.Desc.{Desc}
use Rattle.vfm_types.specs.declared.desc.DevShape.{DevShape}
use Rattle.vfm_types.specs.Desc.{device_count, shape_at}
use Rattle.vfm_types.specs.Machine.{DeviceState, numbered}
use Rattle.vfm_types.specs.Requests.{fences, job_or_zero, without}
use Rattle.vfm_types.specs.Outstanding.{Outstanding, complete_if, deliver_if, is_arrived, is_undelivered, unissued}
use Rattle.vfm_types.specs.Words.{has_fence, is_nothing}
use Rattle.vfm_types.specs.Valid.{IsValid}
use Rattle.vfm_plain.specs.Condition.{is_exactly}
use Rattle.vfm_plain.specs.IssueRules.{first_number}
use Rattle.vfm_laws.specs.Queues.{IsRising, QueueKept, is_listed, waiting}
use Rattle.vfm_laws.proofs.Conditions.{HasTurn}
use Rattle.vfm_laws.proofs.Queued.{queue_completed, queue_grown, queue_issued, queue_taken}
use Rattle.vfm_laws.proofs.Rising.{by_bool, length_numbered, listed_front, rising_numbered}
use Rattle.vfm_laws.proofs.Waiting.{undelivered_listed}
use Rattle.vfm_parts.specs.Parts.{one_more}
use Rattle.vfm_parts.specs.IssueStep.{is_next_to_issue_in}
use Rattle.vfm_device.specs.EngineState.{EngineKept, EngineState, described_engine, is_accepted, part_of, plain_with, staged_engine, with_completed, with_delivered, with_issued, with_rung}
use Rattle.vfm_device.proofs.NextRequest.{unissued_listed}

-- what holds of all holds of those left without one
all_without : (P : ℕ × ℕ → Type 0) (n : ℕ) (pending : List (ℕ × ℕ)) → All P pending → All P (without n pending)
all_without P n [] all = all
all_without P n (r ∷ pending) all =
    go (r.0 == n) (all_without P n pending (All-tail P r pending all))
  where
    go : (b : Bool) → All P (without n pending) → All P (if b then pending else r ∷ without n pending)
    go true rest = All-tail P r pending all
    go false rest = All-cons P r (without n pending) (All-head P r pending all) rest

-- the job of a pending request is known
job_known : (jobs n : ℕ) (pending : List (ℕ × ℕ)) → All (λ (r : ℕ × ℕ). r.1 < jobs) pending → is_listed n pending ≡ true → job_or_zero n pending < jobs
job_known jobs n [] all listed = absurd (false≢true listed)
job_known jobs n (r ∷ pending) all listed =
    go (r.0 == n) listed (job_known jobs n pending (All-tail (λ (x : ℕ × ℕ). x.1 < jobs) r pending all))
  where
    go : (b : Bool) → (b || is_listed n pending) ≡ true → (is_listed n pending ≡ true → job_or_zero n pending < jobs) → (if b then r.1 else job_or_zero n pending) < jobs
    go true h rest = All-head (λ (x : ℕ × ℕ). x.1 < jobs) r pending all
    go false h rest = rest h

-- marking a request as delivered keeps every job
all_delivered : (jobs n : ℕ) (requests : List Outstanding) → All (λ (r : Outstanding). r.job < jobs) requests → All (λ (r : Outstanding). r.job < jobs) (deliver_if true n requests)
all_delivered jobs n [] all = all
all_delivered jobs n (r ∷ requests) all =
    go (r.number == n) (all_delivered jobs n requests (All-tail P r requests all))
  where
    P : Outstanding → Type 0
    P x = x.job < jobs

    go : (b : Bool) → All P (deliver_if true n requests)
        → All P (if b then (record { number = r.number; job = r.job; is_delivered = true }) ∷ requests else r ∷ deliver_if true n requests)
    go true rest = All-cons P (record { number = r.number; job = r.job; is_delivered = true }) requests (All-head P r requests all) (All-tail P r requests all)
    go false rest = All-cons P r (deliver_if true n requests) (All-head P r requests all) rest

-- and so does taking one off the bus
all_completed : (P : Outstanding → Type 0) (n : ℕ) (requests : List Outstanding) → All P requests → All P (complete_if true n requests)
all_completed P n [] all = all
all_completed P n (r ∷ requests) all =
    go (r.number == n) (all_completed P n requests (All-tail P r requests all))
  where
    go : (b : Bool) → All P (complete_if true n requests) → All P (if b then requests else r ∷ complete_if true n requests)
    go true rest = All-tail P r requests all
    go false rest = All-cons P r (complete_if true n requests) (All-head P r requests all) rest

-- the four parts of a turn
turn_of : (D : Desc) (d n : ℕ) (begun : Bool) (e : EngineState) → is_next_to_issue_in D d n (part_of begun e) ≡ true
    → HasTurn D d n (plain_with [] e) e.requests
turn_of D d n begun e turn =
    let front = is_exactly n (first_number (unissued e.requests e.pending)) in
    let room = nat_lt (length e.requests) (shape_at D d).window in
    let last = not (fences D d (job_or_zero n e.pending)) || is_nothing e.requests in
    let all = and_parts (front && room && not (has_fence D d e.requests)) last turn in
    let three = and_parts (front && room) (not (has_fence D d e.requests)) all.0 in
    let two = and_parts front room three.0 in
    record { first = two.0; room = ltb-true (length e.requests) (shape_at D d).window two.1; unfenced = not-true (has_fence D d e.requests) three.1; fence = all.1 }

-- an answer that is exactly a number is that number
exactly_is : (n : ℕ) (o : Option ℕ) → is_exactly n o ≡ true → o ≡ Some n
exactly_is n None same = absurd (false≢true same)
exactly_is n (Some k) same = ap (λ (i : ℕ). let o : Option ℕ = Some i in o) (eqb-true k n same)

pub kept_issued : (D : Desc) (d n : ℕ) (begun : Bool) (e : EngineState) → EngineKept D d e → is_next_to_issue_in D d n (part_of begun e) ≡ true → EngineKept D d (with_issued n e)
kept_issued D d n begun e kept turn =
    let has : HasTurn D d n (plain_with [] e) e.requests = turn_of D d n begun e turn in
    let listed : is_listed n e.pending ≡ true = unissued_listed n e.requests e.pending (exactly_is n (first_number (unissued e.requests e.pending)) has.first) in
    record {
      device = kept.device;
      queue = queue_issued D d n (plain_with [] e) e.requests kept.queue has;
      pending = kept.pending;
      outstanding = All-push (λ (r : Outstanding). r.job < length (shape_at D d).jobs) e.requests (record { number = n; job = job_or_zero n e.pending; is_delivered = false })
          kept.outstanding (job_known (length (shape_at D d).jobs) n e.pending kept.pending listed);
    }

pub kept_delivered : (D : Desc) (d n : ℕ) (e : EngineState) → EngineKept D d e → is_undelivered n e.requests ≡ true → EngineKept D d (with_delivered n e)
kept_delivered D d n e kept undelivered =
    record {
      device = kept.device;
      queue = queue_taken D d n (plain_with [] e) e.requests kept.queue undelivered;
      pending = all_without (λ (r : ℕ × ℕ). r.1 < length (shape_at D d).jobs) n e.pending kept.pending;
      outstanding = all_delivered (length (shape_at D d).jobs) n e.requests kept.outstanding;
    }

pub kept_completed : (D : Desc) (d n : ℕ) (e : EngineState) → EngineKept D d e → is_arrived n e.requests ≡ true → EngineKept D d (with_completed n e)
kept_completed D d n e kept arrived =
    record {
      device = kept.device;
      queue = queue_completed D d n (plain_with [] e) e.requests kept.queue arrived;
      pending = kept.pending;
      outstanding = all_completed (λ (r : Outstanding). r.job < length (shape_at D d).jobs) n e.requests kept.outstanding;
    }

-- a queue that grows by no request
same_queue : (D : Desc) (d : ℕ) (before after : DeviceState) (requests : List Outstanding) → QueueKept D d before requests
    → after.pending ≡ before.pending → after.accepted ≡ before.accepted → after.done ≡ before.done → QueueKept D d after requests
same_queue D d before after requests kept pending accepted done =
    queue_grown D d before after requests kept (record {
      jobs = [];
      pending = pending ∙ sym (append-nil before.pending);
      accepted = omega (arith, accepted);
      done = done;
      budget = λ within. subst (λ (n : ℕ). n ≤ (shape_at D d).budget) (sym accepted) within;
    })

pub kept_rung : (D : Desc) (d number : ℕ) (e : EngineState) → EngineKept D d e → EngineKept D d (with_rung (shape_at D d) number e)
kept_rung D d number e kept =
    by_bool (is_accepted shape number e)
    (λ (b : Bool). EngineKept D d (if b
    then record e { pending = e.pending ++ (e.accepted, number) ∷ []; accepted = e.accepted + 1 }
    else record e { lost = one_more e.lost }))
    accepted lost
  where
    shape : DevShape
    shape = shape_at D d

    accepted : is_accepted shape number e ≡ true → EngineKept D d (record e { pending = e.pending ++ (e.accepted, number) ∷ []; accepted = e.accepted + 1 })
    accepted test =
        let parts = and_parts (nat_lt number (length shape.jobs)) (nat_lt e.accepted shape.budget) test in
        let known : number < length shape.jobs = ltb-true number (length shape.jobs) parts.0 in
        let room : e.accepted < shape.budget = ltb-true e.accepted shape.budget parts.1 in
        record {
          device = kept.device;
          queue = queue_grown D d (plain_with [] e) (plain_with [] (record e { pending = e.pending ++ (e.accepted, number) ∷ []; accepted = e.accepted + 1 })) e.requests kept.queue (record {
            jobs = number ∷ [];
            pending = refl;
            accepted = refl;
            done = refl;
            budget = λ within. omega (arith, room);
          });
          pending = All-push (λ (r : ℕ × ℕ). r.1 < length shape.jobs) e.pending (e.accepted, number) kept.pending known;
          outstanding = kept.outstanding;
        }

    lost : is_accepted shape number e ≡ false → EngineKept D d (record e { lost = one_more e.lost })
    lost test =
        record {
          device = kept.device;
          queue = same_queue D d (plain_with [] e) (plain_with [] (record e { lost = one_more e.lost })) e.requests kept.queue refl refl refl;
          pending = kept.pending;
          outstanding = kept.outstanding;
        }

-- what touches neither requests nor queue
pub kept_same : (D : Desc) (d : ℕ) (e after : EngineState) → EngineKept D d e → after.pending ≡ e.pending → after.accepted ≡ e.accepted
    → after.done ≡ e.done → after.requests ≡ e.requests → EngineKept D d after
kept_same D d e after kept pending accepted done requests =
    record {
      device = kept.device;
      queue = subst (QueueKept D d (plain_with [] after)) (sym requests)
          (same_queue D d (plain_with [] e) (plain_with [] after) e.requests kept.queue pending accepted done);
      pending = subst (All (λ (r : ℕ × ℕ). r.1 < length (shape_at D d).jobs)) (sym pending) kept.pending;
      outstanding = subst (All (λ (r : Outstanding). r.job < length (shape_at D d).jobs)) (sym requests) kept.outstanding;
    }

-- an engine with nothing on the bus
start_kept : (D : Desc) (d : ℕ) (e : EngineState) → d < device_count D → e.requests ≡ [] → IsRising 0 e.pending e.accepted
    → e.accepted ≡ e.done + length e.pending → e.accepted ≤ (shape_at D d).budget
    → All (λ (r : ℕ × ℕ). r.1 < length (shape_at D d).jobs) e.pending → EngineKept D d e
start_kept D d e device none rising count budget known =
    record {
      device = device;
      queue = subst (QueueKept D d (plain_with [] e)) (sym none) (record {
        rest = e.pending;
        pending = refl;
        rising = rising;
        gone = tt;
        once = tt;
        count = count;
        budget = budget;
        window = omega arith;
        alone = λ fenced. omega arith;
      });
      pending = known;
      outstanding = subst (All (λ (r : Outstanding). r.job < length (shape_at D d).jobs)) (sym none) (All-nil (λ (r : Outstanding). r.job < length (shape_at D d).jobs));
    }

all_numbered : (jobs n : ℕ) (queue : List ℕ) → list_all (λ j. nat_lt j jobs) queue ≡ true → All (λ (r : ℕ × ℕ). r.1 < jobs) (numbered n queue)
all_numbered jobs n [] all = All-nil (λ (r : ℕ × ℕ). r.1 < jobs)
all_numbered jobs n (job ∷ queue) all =
    let parts = and_parts (nat_lt job jobs) (list_all (λ j. nat_lt j jobs) queue) all in
    All-cons (λ (r : ℕ × ℕ). r.1 < jobs) (n, job) (numbered (n + 1) queue) (ltb-true job jobs parts.0) (all_numbered jobs (n + 1) queue parts.1)

pub kept_described : (D : Desc) (d : ℕ) → IsValid D → d < device_count D → EngineKept D d (described_engine (shape_at D d))
kept_described D d valid inside =
    let shape = shape_at D d in
    let many : length (numbered 0 shape.queue) ≡ length shape.queue = length_numbered 0 shape.queue in
    start_kept D d (described_engine shape) inside refl
    (subst (λ (k : ℕ). IsRising 0 (numbered 0 shape.queue) k) (omega arith) (rising_numbered 0 0 shape.queue (omega arith)))
    (omega arith) (valid.in_range.devices d inside).queue_length
    (all_numbered (length shape.jobs) 0 shape.queue (valid.in_range.devices d inside).queue)

pub kept_staged : (D : Desc) (d done lost : ℕ) (pending : List (ℕ × ℕ)) (buf : List ℕ) → d < device_count D → IsRising 0 pending (done + length pending)
    → done + length pending ≤ (shape_at D d).budget → All (λ (r : ℕ × ℕ). r.1 < length (shape_at D d).jobs) pending
    → EngineKept D d (staged_engine done lost pending buf)
kept_staged D d done lost pending buf inside rising budget known =
    start_kept D d (staged_engine done lost pending buf) inside refl rising refl budget known

pub undelivered_pending : (D : Desc) (d n : ℕ) (e : EngineState) → EngineKept D d e → is_undelivered n e.requests ≡ true → is_listed n e.pending ≡ true
undelivered_pending D d n e kept undelivered =
    ap (is_listed n) kept.queue.pending ∙ listed_front n (waiting e.requests) kept.queue.rest (undelivered_listed n e.requests undelivered)
