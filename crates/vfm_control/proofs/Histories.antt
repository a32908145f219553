-- What stays from event to event, and what has happened where a list of events leads.
use Rattle.std.proofs.Common.{◌≡◌, ◌≢◌, ℕ, Bool, true, false, cond, List, [], ◌∷◌, ◌++◌, Option, Some, None, refl, sym, ap, ◌∙◌, subst, inl, inr, ◌⊎◌}
use Rattle.std.specs.Prelude.{is_some}
use Rattle.vfm_control.specs.declared.ends.SourceEnd.{SourceEnd}
use Rattle.vfm_control.specs.declared.ends.SourceEnd.TheVariants as source
use Rattle.vfm_control.specs.declared.ends.DestEnd.{DestEnd}
use Rattle.vfm_control.specs.declared.ends.DestEnd.TheVariants as dest
use Rattle.vfm_control.specs.declared.ends.Answer.{Answer}
use Rattle.vfm_control.specs.declared.ends.Answer.TheVariants as answers
use Rattle.vfm_control.specs.declared.ends.PairEvent.{PairEvent}
use Rattle.vfm_control.specs.declared.ends.PairEvent.TheVariants.{Stage, Refuse, DeliverAnswer, DeliverGo, SendGo, GiveUp, StopSource, StopDest}
use Rattle.vfm_control.specs.Pair.{PairState, is_staging, has_heard, may_give_up, can_happen, happens, sends_go, source_hears, pair_step, pair_after, HasHappened}
use Rattle.vfm_control.proofs.Keeping.{Confirmed, GoKept, SourceKept, DestKept, Kept, kept}

-- one more event, of a pair that stands after a list
pub one_more : (own : List ℕ) (past : List PairEvent) (e : PairEvent) (before after : PairState) → after ≡ pair_step before e
    → before ≡ pair_after own past → after ≡ pair_after own (e ∷ past)
unfolding pair_after
one_more own past e before after step is = step ∙ ap (λ (p : PairState). pair_step p e) is

-- ---- one part of a pair after an event that doesn't touch it

same_source : (b : Bool) (q p : PairState) → q.source ≡ p.source → (cond b q p).source ≡ p.source
same_source true q p e = e
same_source false q p e = refl

same_dest : (b : Bool) (q p : PairState) → q.dest ≡ p.dest → (cond b q p).dest ≡ p.dest
same_dest true q p e = e
same_dest false q p e = refl

same_answer : (b : Bool) (q p : PairState) → q.answer ≡ p.answer → (cond b q p).answer ≡ p.answer
same_answer true q p e = e
same_answer false q p e = refl

same_go : (b : Bool) (q p : PairState) → q.go ≡ p.go → (cond b q p).go ≡ p.go
same_go true q p e = e
same_go false q p e = refl

sending_keeps_answer : (p : PairState) (s : SourceEnd) → (sends_go p s).answer ≡ p.answer
sending_keeps_answer p (source.Offered digest) = refl
sending_keeps_answer p (source.Heard digest) = refl
sending_keeps_answer p (source.GoSent digest) = refl
sending_keeps_answer p source.Resumed = refl
sending_keeps_answer p source.Stopped = refl

sending_keeps_dest : (p : PairState) (s : SourceEnd) → (sends_go p s).dest ≡ p.dest
sending_keeps_dest p (source.Offered digest) = refl
sending_keeps_dest p (source.Heard digest) = refl
sending_keeps_dest p (source.GoSent digest) = refl
sending_keeps_dest p source.Resumed = refl
sending_keeps_dest p source.Stopped = refl

-- ---- where the ends stand says what was sent

pub resumed_none : (own : List ℕ) (events : List PairEvent) → (pair_after own events).source ≡ source.Resumed → (pair_after own events).go ≡ None
resumed_none own events is =
    let p = pair_after own events in
    subst (λ (s : SourceEnd). SourceKept own s p.answer p.go) is (kept own events).source

pub running_go : (own : List ℕ) (events : List PairEvent) (digest : List ℕ) → (pair_after own events).dest ≡ dest.Running digest
    → (digest ≡ own) × ((pair_after own events).go ≡ Some own)
running_go own events digest is =
    let p = pair_after own events in
    subst (λ (t : DestEnd). DestKept own t p.answer p.go) is (kept own events).dest

sent_confirmed : (own digest : List ℕ) (answer : Option Answer) (go : Option (List ℕ)) → go ≡ Some digest → GoKept own answer go → Confirmed own answer
sent_confirmed own digest answer None is k = absurd cc
sent_confirmed own digest answer (Some x) is k = k.1

pub running_answer : (own : List ℕ) (events : List PairEvent) (digest : List ℕ) → (pair_after own events).dest ≡ dest.Running digest
    → (pair_after own events).answer ≡ Some (answers.Staged digest)
running_answer own events digest is =
    let p = pair_after own events in
    let go = running_go own events digest is in
    sent_confirmed own own p.answer p.go go.1 (kept own events).sent ∙ ap (λ (d : List ℕ). Some (answers.Staged d)) (sym go.0)

heard_kept : (own : List ℕ) (s : SourceEnd) (answer : Option Answer) (go : Option (List ℕ)) → has_heard s ≡ true → SourceKept own s answer go
    → (s ≡ source.Heard own) × (go ≡ None) × Confirmed own answer
heard_kept own (source.Heard digest) answer go h k = (ap (λ (d : List ℕ). source.Heard d) k.0, k.1, k.2)
heard_kept own (source.Offered digest) answer go h k = absurd cc
heard_kept own (source.GoSent digest) answer go h k = absurd cc
heard_kept own source.Resumed answer go h k = absurd cc
heard_kept own source.Stopped answer go h k = absurd cc

-- where Go can be sent, the source has heard its own digest, which the destination had answered, and sent none
pub can_send : (own : List ℕ) (events : List PairEvent) → can_happen (pair_after own events) SendGo ≡ true
    → ((pair_after own events).source ≡ source.Heard own) × ((pair_after own events).go ≡ None) × Confirmed own (pair_after own events).answer
can_send own events h =
    let p = pair_after own events in
    heard_kept own p.source p.answer p.go h (kept own events).source

-- ---- Go stays sent

send_go_stays : (s : SourceEnd) (p : PairState) (x own : List ℕ) → SourceKept own s p.answer p.go → p.go ≡ Some x
    → (cond (has_heard s) (sends_go p s) p).go ≡ Some x
send_go_stays (source.Heard digest) p x own k h = let none = k.1 in absurd cc
send_go_stays (source.Offered digest) p x own k h = h
send_go_stays (source.GoSent digest) p x own k h = h
send_go_stays source.Resumed p x own k h = h
send_go_stays source.Stopped p x own k h = h

go_stays : (own : List ℕ) (e : PairEvent) (p : PairState) (x : List ℕ) → Kept own p → p.go ≡ Some x → (pair_step p e).go ≡ Some x
go_stays own (Stage d) p x k h = same_go (is_staging p.dest) (happens p (Stage d)) p refl ∙ h
go_stays own (Refuse r) p x k h = same_go (is_staging p.dest) (happens p (Refuse r)) p refl ∙ h
go_stays own DeliverAnswer p x k h = same_go (is_some p.answer) (happens p DeliverAnswer) p refl ∙ h
go_stays own DeliverGo p x k h = same_go (is_some p.go) (happens p DeliverGo) p refl ∙ h
go_stays own SendGo p x k h = send_go_stays p.source p x own k.source h
go_stays own GiveUp p x k h = same_go (may_give_up p.source) (happens p GiveUp) p refl ∙ h
go_stays own StopSource p x k h = h
go_stays own StopDest p x k h = h

pub go_stays_sent : (own : List ℕ) (later earlier : List PairEvent) (x : List ℕ) → (pair_after own earlier).go ≡ Some x
    → (pair_after own (later ++ earlier)).go ≡ Some x
unfolding pair_after
go_stays_sent own [] earlier x h = h
go_stays_sent own (e ∷ later) earlier x h =
    go_stays own e (pair_after own (later ++ earlier)) x (kept own (later ++ earlier)) (go_stays_sent own later earlier x h)

-- ---- an answer stays sent

staging_none : (own : List ℕ) (t : DestEnd) (answer : Option Answer) (go : Option (List ℕ)) → is_staging t ≡ true → DestKept own t answer go → answer ≡ None
staging_none own dest.Staging answer go h k = k.0
staging_none own (dest.Staged digest) answer go h k = absurd cc
staging_none own (dest.Refused refusal) answer go h k = absurd cc
staging_none own (dest.Running digest) answer go h k = absurd cc
staging_none own dest.Stopped answer go h k = absurd cc

answered : (b : Bool) (q p : PairState) (x : Answer) → (b ≡ true → p.answer ≡ None) → p.answer ≡ Some x → (cond b q p).answer ≡ Some x
answered true q p x none h = let gone = none refl in absurd cc
answered false q p x none h = h

answer_stays : (own : List ℕ) (e : PairEvent) (p : PairState) (x : Answer) → Kept own p → p.answer ≡ Some x → (pair_step p e).answer ≡ Some x
answer_stays own (Stage d) p x k h =
    answered (is_staging p.dest) (happens p (Stage d)) p x (λ is. staging_none own p.dest p.answer p.go is k.dest) h
answer_stays own (Refuse r) p x k h =
    answered (is_staging p.dest) (happens p (Refuse r)) p x (λ is. staging_none own p.dest p.answer p.go is k.dest) h
answer_stays own DeliverAnswer p x k h = same_answer (is_some p.answer) (happens p DeliverAnswer) p refl ∙ h
answer_stays own DeliverGo p x k h = same_answer (is_some p.go) (happens p DeliverGo) p refl ∙ h
answer_stays own SendGo p x k h = same_answer (has_heard p.source) (happens p SendGo) p (sending_keeps_answer p p.source) ∙ h
answer_stays own GiveUp p x k h = same_answer (may_give_up p.source) (happens p GiveUp) p refl ∙ h
answer_stays own StopSource p x k h = h
answer_stays own StopDest p x k h = h

pub answer_stays_sent : (own : List ℕ) (later earlier : List PairEvent) (x : Answer) → (pair_after own earlier).answer ≡ Some x
    → (pair_after own (later ++ earlier)).answer ≡ Some x
unfolding pair_after
answer_stays_sent own [] earlier x h = h
answer_stays_sent own (e ∷ later) earlier x h =
    answer_stays own e (pair_after own (later ++ earlier)) x (kept own (later ++ earlier)) (answer_stays_sent own later earlier x h)

-- ---- a source that gave up sends nothing more

-- the source has given up, or is gone
is_over : SourceEnd → Bool
is_over source.Resumed = true
is_over source.Stopped = true
is_over _ = false

over_hears : (s : SourceEnd) (a : Option Answer) → is_over s ≡ true → source_hears s a ≡ s
unfolding is_over
over_hears source.Resumed a h = refl
over_hears source.Stopped a h = refl
over_hears (source.Offered digest) a h = absurd cc
over_hears (source.Heard digest) a h = absurd cc
over_hears (source.GoSent digest) a h = absurd cc

over_no_heard : (s : SourceEnd) → is_over s ≡ true → has_heard s ≡ false
unfolding is_over
over_no_heard source.Resumed h = refl
over_no_heard source.Stopped h = refl
over_no_heard (source.Offered digest) h = refl
over_no_heard (source.Heard digest) h = absurd cc
over_no_heard (source.GoSent digest) h = refl

over_no_giving_up : (s : SourceEnd) → is_over s ≡ true → may_give_up s ≡ false
unfolding is_over
over_no_giving_up source.Resumed h = refl
over_no_giving_up source.Stopped h = refl
over_no_giving_up (source.Offered digest) h = absurd cc
over_no_giving_up (source.Heard digest) h = absurd cc
over_no_giving_up (source.GoSent digest) h = refl

abbrev Over : PairState → Type 0
Over p = (is_over p.source ≡ true) × (p.go ≡ None)

over_by : (b : Bool) (q p : PairState) → q.source ≡ p.source → q.go ≡ p.go → Over p → Over (cond b q p)
over_by b q p s g o = (ap is_over (same_source b q p s) ∙ o.0, same_go b q p g ∙ o.1)

over_stays : (e : PairEvent) (p : PairState) → Over p → Over (pair_step p e)
unfolding is_over
over_stays (Stage d) p o = over_by (is_staging p.dest) (happens p (Stage d)) p refl refl o
over_stays (Refuse r) p o = over_by (is_staging p.dest) (happens p (Refuse r)) p refl refl o
over_stays DeliverAnswer p o = over_by (is_some p.answer) (happens p DeliverAnswer) p (over_hears p.source p.answer o.0) refl o
over_stays DeliverGo p o = over_by (is_some p.go) (happens p DeliverGo) p refl refl o
over_stays SendGo p o = subst (λ (b : Bool). Over (cond b (sends_go p p.source) p)) (sym (over_no_heard p.source o.0)) o
over_stays GiveUp p o = subst (λ (b : Bool). Over (cond b (happens p GiveUp) p)) (sym (over_no_giving_up p.source o.0)) o
over_stays StopSource p o = (refl, o.1)
over_stays StopDest p o = o

over_after : (own : List ℕ) (later earlier : List PairEvent) → Over (pair_after own earlier) → Over (pair_after own (later ++ earlier))
unfolding pair_after
over_after own [] earlier o = o
over_after own (e ∷ later) earlier o = over_stays e (pair_after own (later ++ earlier)) (over_after own later earlier o)

pub resumed_sends_none : (own : List ℕ) (later earlier : List PairEvent) → (pair_after own earlier).source ≡ source.Resumed
    → (pair_after own (later ++ earlier)).go ≡ None
unfolding is_over
resumed_sends_none own later earlier is = (over_after own later earlier (ap is_over is, resumed_none own earlier is)).1

-- ---- what has happened

earlier_too : (own : List ℕ) (e event : PairEvent) (past : List PairEvent) → HasHappened own event past → HasHappened own event (e ∷ past)
earlier_too own e event past h =
    record { later = e ∷ h.later; earlier = h.earlier; place = ap (λ (l : List PairEvent). e ∷ l) h.place; need = h.need }

just_now : (own : List ℕ) (e event : PairEvent) (past : List PairEvent) → (e ≡ event) × (can_happen (pair_after own past) e ≡ true)
    → HasHappened own event (e ∷ past)
just_now own e event past now =
    subst (λ (x : PairEvent). HasHappened own x (e ∷ past)) now.0 (record { later = []; earlier = past; place = refl; need = now.1 })

-- the event of this step happened, or what stood before
abbrev Came : Type 0 → PairState → PairEvent → PairEvent → Type 0
Came before p e event = before ⊎ ((e ≡ event) × (can_happen p e ≡ true))

digest_in : Option Answer → List ℕ
digest_in (Some (answers.Staged digest)) = digest
digest_in _ = []

stage_came : (b : Bool) (x d : List ℕ) (p : PairState) → (cond b (happens p (Stage x)) p).answer ≡ Some (answers.Staged d)
    → (p.answer ≡ Some (answers.Staged d)) ⊎ ((Stage x ≡ Stage d) × (b ≡ true))
unfolding digest_in
stage_came true x d p h = inr (ap (λ (o : Option Answer). Stage (digest_in o)) h, refl)
stage_came false x d p h = inl h

refuse_came : (b : Bool) (r : _) (d : List ℕ) (p : PairState) → (cond b (happens p (Refuse r)) p).answer ≡ Some (answers.Staged d)
    → p.answer ≡ Some (answers.Staged d)
refuse_came true r d p h = absurd cc
refuse_came false r d p h = h

answer_came : (e : PairEvent) (p : PairState) (d : List ℕ) → (pair_step p e).answer ≡ Some (answers.Staged d)
    → Came (p.answer ≡ Some (answers.Staged d)) p e (Stage d)
answer_came (Stage x) p d h = stage_came (is_staging p.dest) x d p h
answer_came (Refuse r) p d h = inl (refuse_came (is_staging p.dest) r d p h)
answer_came DeliverAnswer p d h = inl (sym (same_answer (is_some p.answer) (happens p DeliverAnswer) p refl) ∙ h)
answer_came DeliverGo p d h = inl (sym (same_answer (is_some p.go) (happens p DeliverGo) p refl) ∙ h)
answer_came SendGo p d h = inl (sym (same_answer (has_heard p.source) (happens p SendGo) p (sending_keeps_answer p p.source)) ∙ h)
answer_came GiveUp p d h = inl (sym (same_answer (may_give_up p.source) (happens p GiveUp) p refl) ∙ h)
answer_came StopSource p d h = inl h
answer_came StopDest p d h = inl h

pub stage_happened : (own : List ℕ) (events : List PairEvent) (d : List ℕ) → (pair_after own events).answer ≡ Some (answers.Staged d)
    → HasHappened own (Stage d) events
unfolding pair_after
stage_happened own [] d h = absurd cc
stage_happened own (e ∷ past) d h =
    elim (answer_came e (pair_after own past) d h) [
      | inl before ↦ earlier_too own e (Stage d) past (stage_happened own past d before)
      | inr now ↦ just_now own e (Stage d) past now
    ]

send_came : (b : Bool) (p : PairState) (x : List ℕ) (q : PairState) → (cond b q p).go ≡ Some x → (p.go ≡ Some x) ⊎ ((SendGo ≡ SendGo) × (b ≡ true))
send_came true p x q h = inr (refl, refl)
send_came false p x q h = inl h

go_came : (e : PairEvent) (p : PairState) (x : List ℕ) → (pair_step p e).go ≡ Some x → Came (p.go ≡ Some x) p e SendGo
go_came (Stage d) p x h = inl (sym (same_go (is_staging p.dest) (happens p (Stage d)) p refl) ∙ h)
go_came (Refuse r) p x h = inl (sym (same_go (is_staging p.dest) (happens p (Refuse r)) p refl) ∙ h)
go_came DeliverAnswer p x h = inl (sym (same_go (is_some p.answer) (happens p DeliverAnswer) p refl) ∙ h)
go_came DeliverGo p x h = inl (sym (same_go (is_some p.go) (happens p DeliverGo) p refl) ∙ h)
go_came SendGo p x h = send_came (has_heard p.source) p x (happens p SendGo) h
go_came GiveUp p x h = inl (sym (same_go (may_give_up p.source) (happens p GiveUp) p refl) ∙ h)
go_came StopSource p x h = inl h
go_came StopDest p x h = inl h

pub send_happened : (own : List ℕ) (events : List PairEvent) (x : List ℕ) → (pair_after own events).go ≡ Some x → HasHappened own SendGo events
unfolding pair_after
send_happened own [] x h = absurd cc
send_happened own (e ∷ past) x h =
    elim (go_came e (pair_after own past) x h) [
      | inl before ↦ earlier_too own e SendGo past (send_happened own past x before)
      | inr now ↦ just_now own e SendGo past now
    ]

-- ---- a source that has heard was delivered an answer

answer_delivered : (b : Bool) (p : PairState) (d : List ℕ) (q : PairState) → (cond b q p).source ≡ source.Heard d
    → (p.source ≡ source.Heard d) ⊎ ((DeliverAnswer ≡ DeliverAnswer) × (b ≡ true))
answer_delivered true p d q h = inr (refl, refl)
answer_delivered false p d q h = inl h

heard_still : (b : Bool) (p : PairState) (d : List ℕ) (q : PairState) → q.source ≢ source.Heard d → (cond b q p).source ≡ source.Heard d
    → p.source ≡ source.Heard d
heard_still true p d q not_so h = absurd (not_so h)
heard_still false p d q not_so h = h

not_heard_by_sending : (p : PairState) (s : SourceEnd) (d : List ℕ) → (cond (has_heard s) (sends_go p s) p).source ≡ source.Heard d
    → p.source ≡ source.Heard d
not_heard_by_sending p (source.Heard digest) d h = absurd cc
not_heard_by_sending p (source.Offered digest) d h = h
not_heard_by_sending p (source.GoSent digest) d h = h
not_heard_by_sending p source.Resumed d h = h
not_heard_by_sending p source.Stopped d h = h

heard_came : (e : PairEvent) (p : PairState) (d : List ℕ) → (pair_step p e).source ≡ source.Heard d → Came (p.source ≡ source.Heard d) p e DeliverAnswer
heard_came (Stage x) p d h = inl (sym (same_source (is_staging p.dest) (happens p (Stage x)) p refl) ∙ h)
heard_came (Refuse r) p d h = inl (sym (same_source (is_staging p.dest) (happens p (Refuse r)) p refl) ∙ h)
heard_came DeliverAnswer p d h = answer_delivered (is_some p.answer) p d (happens p DeliverAnswer) h
heard_came DeliverGo p d h = inl (sym (same_source (is_some p.go) (happens p DeliverGo) p refl) ∙ h)
heard_came SendGo p d h = inl (not_heard_by_sending p p.source d h)
heard_came GiveUp p d h = inl (heard_still (may_give_up p.source) p d (happens p GiveUp) (λ e. absurd cc) h)
heard_came StopSource p d h = absurd cc
heard_came StopDest p d h = inl h

pub answer_happened : (own : List ℕ) (events : List PairEvent) (d : List ℕ) → (pair_after own events).source ≡ source.Heard d
    → HasHappened own DeliverAnswer events
unfolding pair_after
answer_happened own [] d h = absurd cc
answer_happened own (e ∷ past) d h =
    elim (heard_came e (pair_after own past) d h) [
      | inl before ↦ earlier_too own e DeliverAnswer past (answer_happened own past d before)
      | inr now ↦ just_now own e DeliverAnswer past now
    ]

-- ---- a destination that runs was delivered Go

go_delivered : (b : Bool) (p : PairState) (d : List ℕ) (q : PairState) → (cond b q p).dest ≡ dest.Running d
    → (p.dest ≡ dest.Running d) ⊎ ((DeliverGo ≡ DeliverGo) × (b ≡ true))
go_delivered true p d q h = inr (refl, refl)
go_delivered false p d q h = inl h

running_still : (b : Bool) (p : PairState) (d : List ℕ) (q : PairState) → q.dest ≢ dest.Running d → (cond b q p).dest ≡ dest.Running d
    → p.dest ≡ dest.Running d
running_still true p d q not_so h = absurd (not_so h)
running_still false p d q not_so h = h

running_came : (e : PairEvent) (p : PairState) (d : List ℕ) → (pair_step p e).dest ≡ dest.Running d → Came (p.dest ≡ dest.Running d) p e DeliverGo
running_came (Stage x) p d h = inl (running_still (is_staging p.dest) p d (happens p (Stage x)) (λ e. absurd cc) h)
running_came (Refuse r) p d h = inl (running_still (is_staging p.dest) p d (happens p (Refuse r)) (λ e. absurd cc) h)
running_came DeliverAnswer p d h = inl (sym (same_dest (is_some p.answer) (happens p DeliverAnswer) p refl) ∙ h)
running_came DeliverGo p d h = go_delivered (is_some p.go) p d (happens p DeliverGo) h
running_came SendGo p d h = inl (sym (same_dest (has_heard p.source) (happens p SendGo) p (sending_keeps_dest p p.source)) ∙ h)
running_came GiveUp p d h = inl (sym (same_dest (may_give_up p.source) (happens p GiveUp) p refl) ∙ h)
running_came StopSource p d h = inl h
running_came StopDest p d h = absurd cc

pub go_happened : (own : List ℕ) (events : List PairEvent) (d : List ℕ) → (pair_after own events).dest ≡ dest.Running d → HasHappened own DeliverGo events
unfolding pair_after
go_happened own [] d h = absurd cc
go_happened own (e ∷ past) d h =
    elim (running_came e (pair_after own past) d h) [
      | inl before ↦ earlier_too own e DeliverGo past (go_happened own past d before)
      | inr now ↦ just_now own e DeliverGo past now
    ]

-- ---- Go was sent

sent_by : (p : PairState) (own : List ℕ) → p.source ≡ source.Heard own → (pair_step p SendGo).go ≡ Some own
sent_by p own is = subst (λ (s : SourceEnd). (cond (has_heard s) (sends_go p s) p).go ≡ Some own) (sym is) refl

pub sent_go : (own : List ℕ) (events : List PairEvent) → HasHappened own SendGo events → (pair_after own events).go ≡ Some own
unfolding pair_after
sent_go own events h =
    let before = can_send own h.earlier h.need in
    let at : (pair_after own (SendGo ∷ h.earlier)).go ≡ Some own = sent_by (pair_after own h.earlier) own before.0 in
    ap (λ (l : List PairEvent). (pair_after own l).go) h.place ∙ go_stays_sent own h.later (SendGo ∷ h.earlier) own at

no_giving_up : (own x : List ℕ) (s : SourceEnd) (answer : Option Answer) (go : Option (List ℕ)) → go ≡ Some x → SourceKept own s answer go
    → may_give_up s ≡ false
no_giving_up own x (source.Offered digest) answer go is k = let none = k.1 in absurd cc
no_giving_up own x (source.Heard digest) answer go is k = let none = k.1 in absurd cc
no_giving_up own x (source.GoSent digest) answer go is k = refl
no_giving_up own x source.Resumed answer go is k = refl
no_giving_up own x source.Stopped answer go is k = refl

pub no_giving_up_after_go : (own : List ℕ) (events : List PairEvent) → (pair_after own events).go ≡ Some own → can_happen (pair_after own events) GiveUp ≡ false
no_giving_up_after_go own events is =
    let p = pair_after own events in
    no_giving_up own own p.source p.answer p.go is (kept own events).source
