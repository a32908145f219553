-- How an issue, a delivery and a completion leave the queue of a device in order.
use Rattle.std.proofs.Common.{◌≡◌, ℕ, ◌+◌, ◌<◌, ◌≤◌, Bool, true, false, not, ◌||◌, List, [], ◌∷◌, ◌++◌, length, refl, ap, ap₂, sym, ◌∙◌, subst, arith, eqb-true}
use Rattle.std.proofs.lemmas.Bool.{false≢true, true≢false, true_from_ne_false}
use Rattle.std.proofs.lemmas.List.{append_assoc, length_push, length-append}
use Rattle.std.proofs.lemmas.List.Folds.{list_any-append}
use Rattle.vfm_types.specs.declared.desc.Desc.{Desc}
use Rattle.vfm_types.specs.Desc.{shape_at}
use Rattle.vfm_types.specs.Machine.{DeviceState, numbered}
use Rattle.vfm_types.specs.Requests.{fences, job_or_zero, without, taken}
use Rattle.vfm_types.specs.Outstanding.{Outstanding, deliver_if, complete_if, is_undelivered, is_arrived, is_outstanding, unissued}
use Rattle.vfm_types.specs.Words.{has_fence, is_nothing}
use Rattle.vfm_plain.specs.Condition.{is_exactly}
use Rattle.vfm_plain.specs.IssueRules.{first_number}
use Rattle.vfm_laws.specs.Queues.{waiting, is_listed, IsRising, IsGone, IsGrown, QueueKept}
use Rattle.vfm_laws.proofs.Rising.{rising_grown, rising_without, rising_listed, unlisted_self, unlisted_without, unlisted_grown, unlisted_front, listed_behind, listed_front, job_behind, without_front, length_without, length_numbered}
use Rattle.vfm_laws.proofs.Waiting.{once_issued, once_delivered, once_completed, delivered_waiting, completed_waiting, issued_waiting, undelivered_listed, all_delivered_as, all_delivered_more, all_delivered_less, all_delivered_issued, not_outstanding, unissued_waiting, unissued_head, delivered_length, completed_length, delivered_test, completed_test}
use Rattle.vfm_laws.proofs.Conditions.{HasTurn}

-- the request that device d puts on the bus
abbrev pub issued : ℕ → DeviceState → Outstanding
issued n device = record { number = n; job = job_or_zero n device.pending; is_delivered = false }

-- What the turn of a request says of it: it is the first pending one after those that wait.
pub turn_head : (D : Desc) (d n : ℕ) (device : DeviceState) (requests : List Outstanding) → QueueKept D d device requests
    → HasTurn D d n device requests
    → (rest : List (ℕ × ℕ)) × (device.pending ≡ waiting requests ++ (n, job_or_zero n device.pending) ∷ rest) × (is_outstanding n requests ≡ false)
turn_head D d n device requests kept turn = go kept.rest kept.pending
  where
    go : (rest : List (ℕ × ℕ)) → device.pending ≡ waiting requests ++ rest
        → (rest : List (ℕ × ℕ)) × (device.pending ≡ waiting requests ++ (n, job_or_zero n device.pending) ∷ rest) × (is_outstanding n requests ≡ false)
    go [] split =
        let none : unissued requests device.pending ≡ [] = ap (unissued requests) split ∙ unissued_waiting requests [] in
        absurd (false≢true (sym (ap (λ (xs : List (ℕ × ℕ)). is_exactly n (first_number xs)) none) ∙ turn.first))
    go (p ∷ rest) split =
        let rising : IsRising 0 (waiting requests ++ p ∷ rest) device.accepted = subst (λ (xs : List (ℕ × ℕ)). IsRising 0 xs device.accepted) split kept.rising in
        let front : is_listed p.0 (waiting requests) ≡ false = unlisted_front 0 (waiting requests) p rest device.accepted rising in
        let listed : is_listed p.0 device.pending ≡ true = ap (is_listed p.0) split ∙ listed_behind (waiting requests) p rest in
        let out : is_outstanding p.0 requests ≡ false = not_outstanding (IsGone device) p.0 requests kept.gone (λ (gone : IsGone device p.0). false≢true (sym gone.1 ∙ listed)) front in
        let head : unissued requests device.pending ≡ p ∷ unissued requests rest = ap (unissued requests) split ∙ unissued_waiting requests (p ∷ rest) ∙ unissued_head requests p rest out in
        let same : p.0 ≡ n = eqb-true p.0 n (sym (ap (λ (xs : List (ℕ × ℕ)). is_exactly n (first_number xs)) head) ∙ turn.first) in
        let job : job_or_zero p.0 device.pending ≡ p.1 = ap (job_or_zero p.0) split ∙ job_behind (waiting requests) p rest front in
        let whole : p ≡ (n, job_or_zero n device.pending) = ap₂ (λ (a b : ℕ). (a, b)) same (sym job ∙ ap (λ (k : ℕ). job_or_zero k device.pending) same) in
        (rest, split ∙ ap (λ (q : ℕ × ℕ). waiting requests ++ q ∷ rest) whole, subst (λ (k : ℕ). is_outstanding k requests ≡ false) same out)

pub queue_issued : (D : Desc) (d n : ℕ) (device : DeviceState) (requests : List Outstanding) → QueueKept D d device requests
    → HasTurn D d n device requests → QueueKept D d device (requests ++ issued n device ∷ [])
queue_issued D d n device requests kept turn =
    let head = turn_head D d n device requests kept turn in
    let rest : List (ℕ × ℕ) = head.0 in
    let longer : length (requests ++ issued n device ∷ []) ≡ length requests + 1 = length_push requests (issued n device) in
    let room : length requests < (shape_at D d).window = turn.room in
    record {
      rest = rest;
      pending = head.1
          ∙ sym (append_assoc (waiting requests) ((n, job_or_zero n device.pending) ∷ []) rest)
          ∙ ap (λ (xs : List (ℕ × ℕ)). xs ++ rest) (sym (issued_waiting (issued n device) requests refl));
      rising = kept.rising;
      gone = all_delivered_issued (IsGone device) (issued n device) requests refl kept.gone;
      once = once_issued (issued n device) requests head.2 kept.once;
      count = kept.count;
      budget = kept.budget;
      window = omega arith;
      alone = λ fenced.
          let both : (has_fence D d requests || (fences D d (job_or_zero n device.pending) || false)) ≡ true =
          sym (list_any-append (λ (r : Outstanding). fences D d r.job) requests (issued n device ∷ [])) ∙ fenced in
          let last = no_fence_before (has_fence D d requests) (fences D d (job_or_zero n device.pending)) (is_nothing requests) turn.unfenced both turn.fence in
          let none : length requests ≡ 0 = eqb-true (length requests) 0 last in
          omega arith;
    }
  where
    no_fence_before : (before fence nothing : Bool) → before ≡ false → (before || (fence || false)) ≡ true → (not fence || nothing) ≡ true → nothing ≡ true
    no_fence_before true fence nothing none some alone = absurd (true≢false none)
    no_fence_before false true nothing none some alone = alone
    no_fence_before false false nothing none some alone = absurd (false≢true some)

pub queue_taken : (D : Desc) (d n : ℕ) (device : DeviceState) (requests : List Outstanding) → QueueKept D d device requests
    → is_undelivered n requests ≡ true → QueueKept D d (taken device n) (deliver_if true n requests)
queue_taken D d n device requests kept undelivered =
    let waits : is_listed n (waiting requests) ≡ true = undelivered_listed n requests undelivered in
    let listed : is_listed n device.pending ≡ true = ap (is_listed n) kept.pending ∙ listed_front n (waiting requests) kept.rest waits in
    let shorter : length device.pending ≡ length (without n device.pending) + 1 = length_without n device.pending listed in
    let count : device.accepted ≡ device.done + length device.pending = kept.count in
    let same : length (deliver_if true n requests) ≡ length requests = delivered_length true n requests in
    let window : length requests ≤ (shape_at D d).window = kept.window in
    record {
      rest = kept.rest;
      pending = ap (without n) kept.pending ∙ without_front n (waiting requests) kept.rest waits
          ∙ ap (λ (xs : List (ℕ × ℕ)). xs ++ kept.rest) (sym (delivered_waiting n requests undelivered));
      rising = rising_without n 0 device.pending device.accepted kept.rising;
      gone = all_delivered_more (IsGone (taken device n)) n requests
          (rising_listed n 0 device.pending device.accepted kept.rising listed, unlisted_self n 0 device.pending device.accepted kept.rising)
          (all_delivered_as (IsGone device) (IsGone (taken device n)) requests (λ k gone. (gone.0, unlisted_without k n device.pending gone.1)) kept.gone);
      once = once_delivered n requests kept.once;
      count = omega arith;
      budget = kept.budget;
      window = omega arith;
      alone = λ fenced.
          let short : length requests ≤ 1 = kept.alone (sym (delivered_test (fences D d) true n requests) ∙ fenced) in omega arith;
    }

pub queue_grown : (D : Desc) (d : ℕ) (before after : DeviceState) (requests : List Outstanding) → QueueKept D d before requests
    → IsGrown D d before after → QueueKept D d after requests
queue_grown D d before after requests kept grown =
    let more : List (ℕ × ℕ) = numbered before.accepted grown.jobs in
    let accepted : after.accepted ≡ before.accepted + length grown.jobs = grown.accepted in
    let done : after.done ≡ before.done = grown.done in
    let count : before.accepted ≡ before.done + length before.pending = kept.count in
    let longer : length after.pending ≡ length before.pending + length grown.jobs =
    ap (length {A = ℕ × ℕ}) grown.pending ∙ length-append before.pending more ∙ ap (λ (k : ℕ). length before.pending + k) (length_numbered before.accepted grown.jobs) in
    record {
      rest = kept.rest ++ more;
      pending = grown.pending ∙ ap (λ (xs : List (ℕ × ℕ)). xs ++ more) kept.pending ∙ append_assoc (waiting requests) kept.rest more;
      rising = subst (λ (xs : List (ℕ × ℕ)). IsRising 0 xs after.accepted) (sym grown.pending)
          (subst (IsRising 0 (before.pending ++ more)) (sym grown.accepted) (rising_grown 0 before.pending before.accepted grown.jobs kept.rising));
      gone = all_delivered_as (IsGone before) (IsGone after) requests
          (λ k gone. let below : k < before.accepted = gone.0 in
          (omega arith, ap (is_listed k) grown.pending ∙ unlisted_grown k before.pending before.accepted grown.jobs gone.0 gone.1)) kept.gone;
      once = kept.once;
      count = omega arith;
      budget = grown.budget kept.budget;
      window = kept.window;
      alone = kept.alone;
    }

pub queue_completed : (D : Desc) (d n : ℕ) (device : DeviceState) (requests : List Outstanding) → QueueKept D d device requests
    → is_arrived n requests ≡ true → QueueKept D d device (complete_if true n requests)
queue_completed D d n device requests kept arrived =
    let shorter : length (complete_if true n requests) ≤ length requests = completed_length true n requests in
    let window : length requests ≤ (shape_at D d).window = kept.window in
    record {
      rest = kept.rest;
      pending = kept.pending ∙ ap (λ (xs : List (ℕ × ℕ)). xs ++ kept.rest) (sym (completed_waiting n requests arrived));
      rising = kept.rising;
      gone = all_delivered_less (IsGone device) n requests kept.gone;
      once = once_completed n requests kept.once;
      count = kept.count;
      budget = kept.budget;
      window = omega arith;
      alone = λ fenced.
          let short : length requests ≤ 1 = kept.alone (true_from_ne_false (has_fence D d requests)
          (λ none. false≢true (sym (completed_test (fences D d) true n requests none) ∙ fenced))) in omega arith;
    }
