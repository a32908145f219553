-- What is known of the next request, and what bars its issue.
use Rattle.std.proofs.Common.{◌≡◌, ℕ, ◌+◌, ◌<◌, ◌&&◌, ◌||◌, not, Bool, true, false, if◌then◌else◌, nat_lt, List, [], ◌∷◌, ◌++◌, length, Option, Some, None, unwrap_or, refl, sym, ap, ◌∙◌, subst, eq-eqb, arith}
use Rattle.std.specs.Prelude.{All, IfSome}
use Rattle.std.proofs.lemmas.Option.{none-some}
use Rattle.std.proofs.lemmas.List.Elements.{All-head, All-tail}
use Rattle.vfm_base.specs.Tests.{first_failed}
use Rattle.vfm_types.specs.declared.desc.Desc.{Desc}
use Rattle.vfm_types.specs.declared.entry.Rule.{Rule}
use Rattle.vfm_types.specs.declared.entry.Rule.TheVariants.{Barred, Start, Turn}
use Rattle.vfm_types.specs.Desc.{job_at, shape_at}
use Rattle.vfm_types.specs.Requests.{fences, job_or_zero}
use Rattle.vfm_types.specs.Outstanding.{Outstanding, delivered_count, undelivered_count}
use Rattle.vfm_types.specs.Words.{has_fence, is_nothing}
use Rattle.vfm_plain.specs.IssueRules.{first_number}
use Rattle.vfm_laws.specs.Queues.{waiting, is_listed, IsRising}
use Rattle.vfm_laws.proofs.Rising.{by_bool, unlisted_front, job_behind}
use Rattle.vfm_parts.specs.IssueStep.{is_next_to_issue_in, is_request_allowed_in, issue_conditions_in, may_issue_yet_in}
use Rattle.vfm_parts.specs.PartWords.{is_job_allowed_in}
use Rattle.vfm_device.specs.EngineState.{EngineState, EngineKept, NextIs, barred_by, first_item, next_or_zero, part_of, plain_with, unissued_in}
use Rattle.vfm_device.proofs.NextRequest.{unissued_is}

-- the first rule that is broken of the three of an issue
abbrev judged : Bool → Bool → Bool → Option Rule
judged turn allowed start = first_failed ((turn, Turn) ∷ (allowed, Barred) ∷ (start, Start) ∷ [])

-- it is the turn of a request for this job
abbrev has_turn : Desc → ℕ → EngineState → ℕ → Bool
has_turn D d e job =
    nat_lt (length e.requests) (shape_at D d).window && not (has_fence D d e.requests) && (not (fences D d job) || is_nothing e.requests)

-- what holds of each item holds of one behind others
behind : {X : Type 0} (P : X → Type 0) (front : List X) (x : X) (rest : List X) → All P (front ++ x ∷ rest) → P x
behind P [] x rest all = All-head P x rest all
behind P (y ∷ front) x rest all = behind P front x rest (All-tail P y (front ++ x ∷ rest) all)

pub next_is : (D : Desc) (d : ℕ) (e : EngineState) (r : ℕ × ℕ) → EngineKept D d e → first_item (unissued_in e) ≡ Some r → NextIs D d e r
next_is D d e r kept is =
    go kept.queue.rest kept.queue.pending rest_is (sym (ap first_item rest_is) ∙ is)
  where
    rest_is : unissued_in e ≡ kept.queue.rest
    rest_is = unissued_is D d (plain_with [] e) e.requests kept.queue

    go : (rest : List (ℕ × ℕ)) → e.pending ≡ waiting e.requests ++ rest → unissued_in e ≡ rest → first_item rest ≡ Some r → NextIs D d e r
    go [] split unissued first = absurd (none-some r first)
    go (p ∷ more) split unissued first =
        let same : p ≡ r = ap (λ (o : Option (ℕ × ℕ)). unwrap_or o p) first in
        let front : List (ℕ × ℕ) = waiting e.requests in
        let rising : IsRising 0 (front ++ p ∷ more) e.accepted = subst (λ (xs : List (ℕ × ℕ)). IsRising 0 xs e.accepted) split kept.queue.rising in
        let unlisted : is_listed p.0 front ≡ false = unlisted_front 0 front p more e.accepted rising in
        let all : All (λ (x : ℕ × ℕ). x.1 < length (shape_at D d).jobs) (front ++ p ∷ more) =
        subst (All (λ (x : ℕ × ℕ). x.1 < length (shape_at D d).jobs)) split kept.pending in
        subst (NextIs D d e) same (record {
          known = behind (λ (x : ℕ × ℕ). x.1 < length (shape_at D d).jobs) front p more all;
          job = ap (job_or_zero p.0) split ∙ job_behind front p more unlisted;
          number = ap first_number unissued;
        })

-- nothing is left to be issued
pub barred_none : (D : Desc) (d : ℕ) (begun : Bool) (e : EngineState) → first_item (unissued_in e) ≡ None → barred_by D d begun e ≡ Some Turn
barred_none D d begun e none = go (unissued_in e) refl none
  where
    go : (rest : List (ℕ × ℕ)) → unissued_in e ≡ rest → first_item rest ≡ None → barred_by D d begun e ≡ Some Turn
    go [] is first = rw is refl
    go (p ∷ more) is first = absurd (none-some p (sym first))

-- the next request is barred by the first of three rules
pub barred_some : (D : Desc) (d : ℕ) (begun : Bool) (e : EngineState) (r : ℕ × ℕ) → NextIs D d e r
    → barred_by D d begun e ≡ judged
    (nat_lt (length e.requests) (shape_at D d).window && not (has_fence D d e.requests)
    && (not (fences D d r.1) || is_nothing e.requests))
    (is_job_allowed_in D d (job_at D d r.1) (part_of begun e))
    (begun || nat_lt e.issues D.begin)
barred_some D d begun e r next = go begun
  where
    go : (b : Bool) → barred_by D d b e ≡ judged
        (nat_lt (length e.requests) (shape_at D d).window && not (has_fence D d e.requests)
        && (not (fences D d r.1) || is_nothing e.requests))
        (is_job_allowed_in D d (job_at D d r.1) (part_of b e))
        (b || nat_lt e.issues D.begin)
    go true = rw (next.number, next.job, eq-eqb r.0 r.0 refl) refl
    go false = rw (next.number, next.job, eq-eqb r.0 r.0 refl) refl

pub barred_turn : (D : Desc) (d : ℕ) (begun : Bool) (e : EngineState) (r : ℕ × ℕ) → NextIs D d e r → has_turn D d e r.1 ≡ false
    → barred_by D d begun e ≡ Some Turn
barred_turn D d begun e r next waits = barred_some D d begun e r next ∙ (rw waits refl)

pub barred_job : (D : Desc) (d : ℕ) (begun : Bool) (e : EngineState) (r : ℕ × ℕ) → NextIs D d e r → has_turn D d e r.1 ≡ true
    → is_job_allowed_in D d (job_at D d r.1) (part_of begun e) ≡ false → barred_by D d begun e ≡ Some Barred
barred_job D d begun e r next turn bars = barred_some D d begun e r next ∙ (rw (turn, bars) refl)

pub barred_start : (D : Desc) (d : ℕ) (begun : Bool) (e : EngineState) (r : ℕ × ℕ) → NextIs D d e r → has_turn D d e r.1 ≡ true
    → is_job_allowed_in D d (job_at D d r.1) (part_of begun e) ≡ true → (begun || nat_lt e.issues D.begin) ≡ false
    → barred_by D d begun e ≡ Some Start
barred_start D d begun e r next turn allowed early = barred_some D d begun e r next ∙ (rw (turn, allowed, early) refl)

pub not_barred : (D : Desc) (d : ℕ) (begun : Bool) (e : EngineState) (r : ℕ × ℕ) → NextIs D d e r → has_turn D d e r.1 ≡ true
    → is_job_allowed_in D d (job_at D d r.1) (part_of begun e) ≡ true → (begun || nat_lt e.issues D.begin) ≡ true
    → barred_by D d begun e ≡ None
not_barred D d begun e r next turn allowed starts = barred_some D d begun e r next ∙ (rw (turn, allowed, starts) refl)

-- each request on the bus is yet to be delivered or was
pub counts_add : (requests : List Outstanding) → undelivered_count requests + delivered_count requests ≡ length requests
counts_add [] = refl
counts_add (r ∷ requests) = go r.is_delivered (counts_add requests)
  where
    go : (b : Bool) → undelivered_count requests + delivered_count requests ≡ length requests
        → (undelivered_count requests + (if b then 0 else 1)) + (delivered_count requests + (if b then 1 else 0)) ≡ length (r ∷ requests)
    go true rest = omega arith
    go false rest = omega arith

-- the same of an answer that is the next request, if there is one
pub if_next : (D : Desc) (d : ℕ) (e : EngineState) (o : Option (ℕ × ℕ)) → EngineKept D d e → o ≡ first_item (unissued_in e) → IfSome o (NextIs D d e)
if_next D d e None kept is = tt
if_next D d e (Some r) kept is = next_is D d e r kept (sym is)

-- a request that nothing bars has the turn
pub turn_of_unbarred : (D : Desc) (d : ℕ) (begun : Bool) (e : EngineState) (r : ℕ × ℕ) → NextIs D d e r → barred_by D d begun e ≡ None
    → is_next_to_issue_in D d r.0 (part_of begun e) ≡ true
turn_of_unbarred D d begun e r next unbarred =
    by_bool (is_next_to_issue_in D d r.0 (part_of begun e)) (λ (b : Bool). b ≡ true) (λ is. refl)
    (λ not_so. absurd (none-some Turn (sym unbarred ∙ ap (λ (n : ℕ). first_failed (issue_conditions_in D d n (part_of begun e))) number
    ∙ ap (λ (b : Bool). first_failed ((b, Turn) ∷ (is_request_allowed_in D d r.0 (part_of begun e), Barred) ∷ (may_issue_yet_in D (part_of begun e), Start) ∷ [])) not_so)))
  where
    number : next_or_zero e ≡ r.0
    number = ap (λ (o : Option ℕ). unwrap_or o 0) next.number
