-- Outstanding requests: which of them wait for their delivery, and what an issue, a delivery and a completion change.
use Rattle.std.proofs.Common.{◌≡◌, ℕ, suc, ◌≤◌, ◌==◌, Bool, true, false, not, ◌||◌, if◌then◌else◌, List, [], ◌∷◌, ◌++◌, length, refl, ap, sym, ◌∙◌, subst, arith, eqb-true, eq-eqb}
use Rattle.std.proofs.lemmas.Bool.{or_from, or_parts, cond-true, cond-false, or_left, or_right, false≢true}
use Rattle.std.proofs.lemmas.List.Folds.{list_any-append}
use Rattle.std.proofs.lemmas.Bool.{eqb-false, ne_eqb}
use Rattle.std.specs.List.{list_any}
use Rattle.vfm_types.specs.Requests.{job_or_zero, without}
use Rattle.vfm_types.specs.Outstanding.{Outstanding, deliver_if, complete_if, is_undelivered, is_arrived, is_outstanding, outstanding_job_or_zero, unissued}
use Rattle.vfm_laws.specs.Queues.{waiting, is_listed, AllDelivered, AllOnce}
use Rattle.vfm_laws.proofs.Rising.{by_bool}

-- the head of a waiting list, by whether the head is delivered
pub waiting_done : (r : Outstanding) (requests : List Outstanding) → r.is_delivered ≡ true → waiting (r ∷ requests) ≡ waiting requests
waiting_done r requests done = ap (λ (b : Bool). if b then waiting requests else (r.number, r.job) ∷ waiting requests) done

pub waiting_still : (r : Outstanding) (requests : List Outstanding) → r.is_delivered ≡ false → waiting (r ∷ requests) ≡ (r.number, r.job) ∷ waiting requests
waiting_still r requests still = ap (λ (b : Bool). if b then waiting requests else (r.number, r.job) ∷ waiting requests) still

pub undelivered_listed : (n : ℕ) (requests : List Outstanding) → is_undelivered n requests ≡ true → is_listed n (waiting requests) ≡ true
undelivered_listed n [] undelivered = absurd (false≢true undelivered)
undelivered_listed n (r ∷ requests) undelivered =
    by_bool r.is_delivered
    (λ b. (if r.number == n then not b else is_undelivered n requests) ≡ true
    → is_listed n (if b then waiting requests else (r.number, r.job) ∷ waiting requests) ≡ true)
    (λ done. by_bool (r.number == n) (λ c. (if c then false else is_undelivered n requests) ≡ true → is_listed n (waiting requests) ≡ true)
    (λ same h. absurd (false≢true h)) (λ other h. undelivered_listed n requests h))
    (λ still. by_bool (r.number == n) (λ c. (if c then true else is_undelivered n requests) ≡ true → (c || is_listed n (waiting requests)) ≡ true)
    (λ same h. refl) (λ other h. undelivered_listed n requests h))
    undelivered

pub delivered_waiting : (n : ℕ) (requests : List Outstanding) → is_undelivered n requests ≡ true
    → waiting (deliver_if true n requests) ≡ without n (waiting requests)
delivered_waiting n [] undelivered = refl
delivered_waiting n (r ∷ requests) undelivered =
    by_bool (r.number == n)
    (λ c. (if c then not r.is_delivered else is_undelivered n requests) ≡ true → (r.number == n) ≡ c
    → waiting (if c then (record { number = r.number; job = r.job; is_delivered = true }) ∷ requests else r ∷ deliver_if true n requests)
    ≡ without n (if r.is_delivered then waiting requests else (r.number, r.job) ∷ waiting requests))
    (λ same h e. by_bool r.is_delivered
    (λ b. not b ≡ true → waiting requests ≡ without n (if b then waiting requests else (r.number, r.job) ∷ waiting requests))
    (λ done g. absurd (false≢true g))
    (λ still g. sym (ap (λ (c : Bool). if c then waiting requests else (r.number, r.job) ∷ without n (waiting requests)) e)) h)
    (λ other h e. by_bool r.is_delivered
    (λ b. (if b then waiting (deliver_if true n requests) else (r.number, r.job) ∷ waiting (deliver_if true n requests))
    ≡ without n (if b then waiting requests else (r.number, r.job) ∷ waiting requests))
    (λ done. delivered_waiting n requests h)
    (λ still. ap (λ (xs : List (ℕ × ℕ)). (r.number, r.job) ∷ xs) (delivered_waiting n requests h)
    ∙ sym (ap (λ (c : Bool). if c then waiting requests else (r.number, r.job) ∷ without n (waiting requests)) e)))
    undelivered refl

pub completed_waiting : (n : ℕ) (requests : List Outstanding) → is_arrived n requests ≡ true
    → waiting (complete_if true n requests) ≡ waiting requests
completed_waiting n [] arrived = refl
completed_waiting n (r ∷ requests) arrived =
    by_bool (r.number == n)
    (λ c. (if c then r.is_delivered else is_arrived n requests) ≡ true
    → waiting (if c then requests else r ∷ complete_if true n requests) ≡ waiting (r ∷ requests))
    (λ same h. sym (waiting_done r requests h))
    (λ other h. by_bool r.is_delivered
    (λ b. (if b then waiting (complete_if true n requests) else (r.number, r.job) ∷ waiting (complete_if true n requests))
    ≡ (if b then waiting requests else (r.number, r.job) ∷ waiting requests))
    (λ done. completed_waiting n requests h)
    (λ still. ap (λ (xs : List (ℕ × ℕ)). (r.number, r.job) ∷ xs) (completed_waiting n requests h)))
    arrived

pub issued_waiting : (r : Outstanding) (requests : List Outstanding) → r.is_delivered ≡ false
    → waiting (requests ++ r ∷ []) ≡ waiting requests ++ (r.number, r.job) ∷ []
issued_waiting r [] still = waiting_still r [] still
issued_waiting r (q ∷ requests) still =
    by_bool q.is_delivered
    (λ b. (if b then waiting (requests ++ r ∷ []) else (q.number, q.job) ∷ waiting (requests ++ r ∷ []))
    ≡ (if b then waiting requests else (q.number, q.job) ∷ waiting requests) ++ (r.number, r.job) ∷ [])
    (λ done. issued_waiting r requests still)
    (λ waits. ap (λ (xs : List (ℕ × ℕ)). (q.number, q.job) ∷ xs) (issued_waiting r requests still))

-- the job of an undelivered request is the same on the bus as in the list of those that wait
pub undelivered_job : (n : ℕ) (requests : List Outstanding) → is_undelivered n requests ≡ true
    → job_or_zero n (waiting requests) ≡ outstanding_job_or_zero n requests
undelivered_job n [] undelivered = refl
undelivered_job n (r ∷ requests) undelivered =
    by_bool r.is_delivered
    (λ b. (if r.number == n then not b else is_undelivered n requests) ≡ true
    → job_or_zero n (if b then waiting requests else (r.number, r.job) ∷ waiting requests) ≡ (if r.number == n then r.job else outstanding_job_or_zero n requests))
    (λ done. by_bool (r.number == n)
    (λ c. (if c then false else is_undelivered n requests) ≡ true → job_or_zero n (waiting requests) ≡ (if c then r.job else outstanding_job_or_zero n requests))
    (λ same h. absurd (false≢true h)) (λ other h. undelivered_job n requests h))
    (λ still. by_bool (r.number == n)
    (λ c. (if c then true else is_undelivered n requests) ≡ true
    → (if c then r.job else job_or_zero n (waiting requests)) ≡ (if c then r.job else outstanding_job_or_zero n requests))
    (λ same h. refl) (λ other h. undelivered_job n requests h))
    undelivered

-- facts of the delivered requests
pub all_delivered_as : (Fact Other : ℕ → Type 0) (requests : List Outstanding) → ((n : ℕ) → Fact n → Other n) → AllDelivered Fact requests → AllDelivered Other requests
all_delivered_as Fact Other [] follows all = tt
all_delivered_as Fact Other (r ∷ requests) follows all =
    ((λ done. follows r.number (all.0 done)), all_delivered_as Fact Other requests follows all.1)

pub all_delivered_more : (Fact : ℕ → Type 0) (n : ℕ) (requests : List Outstanding) → Fact n → AllDelivered Fact requests → AllDelivered Fact (deliver_if true n requests)
all_delivered_more Fact n [] here all = tt
all_delivered_more Fact n (r ∷ requests) here all =
    by_bool (r.number == n)
    (λ c. (r.number == n) ≡ c → AllDelivered Fact (if c then (record { number = r.number; job = r.job; is_delivered = true }) ∷ requests else r ∷ deliver_if true n requests))
    (λ same e. ((λ done. subst Fact (sym (eqb-true r.number n e)) here), all.1))
    (λ other e. (all.0, all_delivered_more Fact n requests here all.1)) refl

pub all_delivered_less : (Fact : ℕ → Type 0) (n : ℕ) (requests : List Outstanding) → AllDelivered Fact requests → AllDelivered Fact (complete_if true n requests)
all_delivered_less Fact n [] all = tt
all_delivered_less Fact n (r ∷ requests) all =
    by_bool (r.number == n) (λ c. AllDelivered Fact (if c then requests else r ∷ complete_if true n requests))
    (λ same. all.1) (λ other. (all.0, all_delivered_less Fact n requests all.1))

pub all_delivered_issued : (Fact : ℕ → Type 0) (r : Outstanding) (requests : List Outstanding) → r.is_delivered ≡ false → AllDelivered Fact requests → AllDelivered Fact (requests ++ r ∷ [])
all_delivered_issued Fact r [] still all = ((λ done. absurd (false≢true (sym still ∙ done))), tt)
all_delivered_issued Fact r (q ∷ requests) still all = (all.0, all_delivered_issued Fact r requests still all.1)

-- a number that no delivered request has, and that doesn't wait, isn't outstanding
pub not_outstanding : (Fact : ℕ → Type 0) (n : ℕ) (requests : List Outstanding) → AllDelivered Fact requests → (Fact n → ⊥)
    → is_listed n (waiting requests) ≡ false → is_outstanding n requests ≡ false
not_outstanding Fact n [] all never unlisted = refl
not_outstanding Fact n (r ∷ requests) all never unlisted =
    by_bool r.is_delivered
    (λ b. r.is_delivered ≡ b → is_listed n (if b then waiting requests else (r.number, r.job) ∷ waiting requests) ≡ false → is_outstanding n (r ∷ requests) ≡ false)
    (λ done e h. or_from (r.number == n) (is_outstanding n requests)
    (by_bool (r.number == n) (λ c. (r.number == n) ≡ c → c ≡ false)
    (λ same f. absurd (never (subst Fact (eqb-true r.number n f) (all.0 e)))) (λ other f. refl) refl)
    (not_outstanding Fact n requests all.1 never h))
    (λ still e h. let parts = or_parts (r.number == n) (is_listed n (waiting requests)) h in
    or_from (r.number == n) (is_outstanding n requests) parts.0 (not_outstanding Fact n requests all.1 never parts.1))
    refl unlisted

-- each of these is outstanding
AllOutstanding : List Outstanding → List (ℕ × ℕ) → Type 0
AllOutstanding requests [] = Unit {0}
AllOutstanding requests (p ∷ pending) = (is_outstanding p.0 requests ≡ true) × AllOutstanding requests pending

more_outstanding : (r : Outstanding) (requests : List Outstanding) (pending : List (ℕ × ℕ)) → AllOutstanding requests pending → AllOutstanding (r ∷ requests) pending
unfolding AllOutstanding
more_outstanding r requests [] all = tt
more_outstanding r requests (p ∷ pending) all =
    (or_right (r.number == p.0) (is_outstanding p.0 requests) all.0, more_outstanding r requests pending all.1)

waiting_outstanding : (requests : List Outstanding) → AllOutstanding requests (waiting requests)
unfolding AllOutstanding
waiting_outstanding [] = tt
waiting_outstanding (r ∷ requests) =
    by_bool r.is_delivered (λ b. AllOutstanding (r ∷ requests) (if b then waiting requests else (r.number, r.job) ∷ waiting requests))
    (λ done. more_outstanding r requests (waiting requests) (waiting_outstanding requests))
    (λ still. (
      or_left (r.number == r.number) (is_outstanding r.number requests) (eq-eqb r.number r.number refl),
      more_outstanding r requests (waiting requests) (waiting_outstanding requests),
    ))

unissued_front : (requests : List Outstanding) (front rest : List (ℕ × ℕ)) → AllOutstanding requests front → unissued requests (front ++ rest) ≡ unissued requests rest
unfolding AllOutstanding
unissued_front requests [] rest all = refl
unissued_front requests (p ∷ front) rest all =
    cond-true (is_outstanding p.0 requests) (unissued requests (front ++ rest)) (p ∷ unissued requests (front ++ rest)) all.0
    ∙ unissued_front requests front rest all.1

-- what waits is passed over in the search for the first request that isn't issued
pub unissued_waiting : (requests : List Outstanding) (rest : List (ℕ × ℕ)) → unissued requests (waiting requests ++ rest) ≡ unissued requests rest
unissued_waiting requests rest = unissued_front requests (waiting requests) rest (waiting_outstanding requests)

pub unissued_head : (requests : List Outstanding) (p : ℕ × ℕ) (rest : List (ℕ × ℕ)) → is_outstanding p.0 requests ≡ false
    → unissued requests (p ∷ rest) ≡ p ∷ unissued requests rest
unissued_head requests p rest out = cond-false (is_outstanding p.0 requests) (unissued requests rest) (p ∷ unissued requests rest) out

-- numbers of requests
pub delivered_length : (b : Bool) (n : ℕ) (requests : List Outstanding) → length (deliver_if b n requests) ≡ length requests
delivered_length false n requests = refl
delivered_length true n [] = refl
delivered_length true n (r ∷ requests) =
    by_bool (r.number == n) (λ c. length (if c then (record { number = r.number; job = r.job; is_delivered = true }) ∷ requests else r ∷ deliver_if true n requests) ≡ suc (length requests))
    (λ same. refl) (λ other. ap suc (delivered_length true n requests))

pub completed_length : (b : Bool) (n : ℕ) (requests : List Outstanding) → length (complete_if b n requests) ≤ length requests
completed_length false n requests = omega arith
completed_length true n [] = omega arith
completed_length true n (r ∷ requests) =
    by_bool (r.number == n) (λ c. length (if c then requests else r ∷ complete_if true n requests) ≤ suc (length requests))
    (λ same. omega arith) (λ other. let rest : length (complete_if true n requests) ≤ length requests = completed_length true n requests in omega arith)

pub waiting_length : (requests : List Outstanding) → length (waiting requests) ≤ length requests
waiting_length [] = omega arith
waiting_length (r ∷ requests) =
    by_bool r.is_delivered (λ b. length (if b then waiting requests else (r.number, r.job) ∷ waiting requests) ≤ suc (length requests))
    (λ done. let rest : length (waiting requests) ≤ length requests = waiting_length requests in omega arith)
    (λ still. let rest : length (waiting requests) ≤ length requests = waiting_length requests in omega arith)

-- tests of the jobs of requests
pub delivered_test : (test : ℕ → Bool) (b : Bool) (n : ℕ) (requests : List Outstanding)
    → list_any (λ r. test r.job) (deliver_if b n requests) ≡ list_any (λ r. test r.job) requests
delivered_test test false n requests = refl
delivered_test test true n [] = refl
delivered_test test true n (r ∷ requests) =
    by_bool (r.number == n)
    (λ c. list_any (λ q. test q.job) (if c then (record { number = r.number; job = r.job; is_delivered = true }) ∷ requests else r ∷ deliver_if true n requests)
    ≡ (test r.job || list_any (λ q. test q.job) requests))
    (λ same. refl) (λ other. ap (λ (c : Bool). test r.job || c) (delivered_test test true n requests))

pub completed_test : (test : ℕ → Bool) (b : Bool) (n : ℕ) (requests : List Outstanding)
    → list_any (λ r. test r.job) requests ≡ false → list_any (λ r. test r.job) (complete_if b n requests) ≡ false
completed_test test false n requests none = none
completed_test test true n [] none = none
completed_test test true n (r ∷ requests) none =
    let parts = or_parts (test r.job) (list_any (λ q. test q.job) requests) none in
    by_bool (r.number == n) (λ c. list_any (λ q. test q.job) (if c then requests else r ∷ complete_if true n requests) ≡ false)
    (λ same. parts.1)
    (λ other. or_from (test r.job) (list_any (λ q. test q.job) (complete_if true n requests)) parts.0 (completed_test test true n requests parts.1))

pub waiting_test : (test : ℕ → Bool) (requests : List Outstanding)
    → list_any (λ r. test r.job) requests ≡ false → list_any (λ (p : ℕ × ℕ). test p.1) (waiting requests) ≡ false
waiting_test test [] none = refl
waiting_test test (r ∷ requests) none =
    let parts = or_parts (test r.job) (list_any (λ q. test q.job) requests) none in
    by_bool r.is_delivered (λ b. list_any (λ (p : ℕ × ℕ). test p.1) (if b then waiting requests else (r.number, r.job) ∷ waiting requests) ≡ false)
    (λ done. waiting_test test requests parts.1)
    (λ still. or_from (test r.job) (list_any (λ (p : ℕ × ℕ). test p.1) (waiting requests)) parts.0 (waiting_test test requests parts.1))

-- numbers that stand once
pub once_issued : (r : Outstanding) (requests : List Outstanding) → is_outstanding r.number requests ≡ false → AllOnce requests → AllOnce (requests ++ r ∷ [])
once_issued r [] new once = (refl, tt)
once_issued r (q ∷ requests) new once =
    let parts = or_parts (q.number == r.number) (is_outstanding r.number requests) new in
    let other : r.number ≡ q.number → ⊥ = λ same. eqb-false q.number r.number parts.0 (sym same) in (
      list_any-append (λ (o : Outstanding). o.number == q.number) requests (r ∷ [])
          ∙ or_from (is_outstanding q.number requests) ((r.number == q.number) || false) once.0 (or_from (r.number == q.number) false (ne_eqb r.number q.number other) refl),
      once_issued r requests parts.1 once.1,
    )

outstanding_delivered : (k n : ℕ) (requests : List Outstanding) → is_outstanding k (deliver_if true n requests) ≡ is_outstanding k requests
outstanding_delivered k n [] = refl
outstanding_delivered k n (r ∷ requests) =
    by_bool (r.number == n)
    (λ c. is_outstanding k (if c then (record { number = r.number; job = r.job; is_delivered = true }) ∷ requests else r ∷ deliver_if true n requests)
    ≡ ((r.number == k) || is_outstanding k requests))
    (λ same. refl) (λ other. ap (λ (c : Bool). (r.number == k) || c) (outstanding_delivered k n requests))

pub once_delivered : (n : ℕ) (requests : List Outstanding) → AllOnce requests → AllOnce (deliver_if true n requests)
once_delivered n [] once = tt
once_delivered n (r ∷ requests) once =
    by_bool (r.number == n)
    (λ c. AllOnce (if c then (record { number = r.number; job = r.job; is_delivered = true }) ∷ requests else r ∷ deliver_if true n requests))
    (λ same. once) (λ other. (outstanding_delivered r.number n requests ∙ once.0, once_delivered n requests once.1))

outstanding_completed : (k n : ℕ) (requests : List Outstanding) → is_outstanding k requests ≡ false → is_outstanding k (complete_if true n requests) ≡ false
outstanding_completed k n [] out = refl
outstanding_completed k n (r ∷ requests) out =
    let parts = or_parts (r.number == k) (is_outstanding k requests) out in
    by_bool (r.number == n) (λ c. is_outstanding k (if c then requests else r ∷ complete_if true n requests) ≡ false)
    (λ same. parts.1)
    (λ other. or_from (r.number == k) (is_outstanding k (complete_if true n requests)) parts.0 (outstanding_completed k n requests parts.1))

pub once_completed : (n : ℕ) (requests : List Outstanding) → AllOnce requests → AllOnce (complete_if true n requests)
once_completed n [] once = tt
once_completed n (r ∷ requests) once =
    by_bool (r.number == n) (λ c. AllOnce (if c then requests else r ∷ complete_if true n requests))
    (λ same. once.1) (λ other. (outstanding_completed r.number n requests once.0, once_completed n requests once.1))
