-- An offer over new links, as what a move has made so far.
use Rattle.std.proofs.Common.{◌≡◌, ℕ, ◌<◌, ◌++◌, Bool, true, false, All, List, length, map, take, slice_index_or, Option, None, IfOk, IfSome, Result, Ok, Err, refl, sym, ◌∙◌, subst, arith, inl, inr}
use Rattle.std.proofs.lemmas.Bool.{true≢false}
use Rattle.std.proofs.lemmas.List.{length-map}
use Rattle.vfm_types.specs.Deliveries.{joint_machine}
use Rattle.vfm_types.specs.Phases.{is_failed}
use Rattle.vfm_outside.specs.Counts.{Rose}
use Rattle.vfm_outside.specs.Carried.{told_by}
use Rattle.vfm_outside.specs.Links.{IsNew, Told}
use Rattle.vfm_outside.specs.Told.{TellsNone}
use Rattle.vfm_core.specs.CoreState.{CoreState}
use Rattle.vfm_order.specs.LookAfter.{is_over}
use Rattle.vfm_plain.specs.Report.{Made}
use Rattle.vfm_plain.specs.StateText.{state_digest}
use Rattle.vfm_send.specs.Sends.{SentPrefix}
use Rattle.vfm_source.specs.declared.fault.OfferFault.{OfferFault}
use Rattle.vfm_source.specs.declared.fault.OfferFault.TheVariants as faults
use Rattle.vfm_source.specs.Moving.{past_in}
use Rattle.vfm_source.specs.Offers as offers
use Rattle.vfm_source.specs.Offers.{AllSent, FailsBeforePass, HasCause, IsFault, Offer, StopsAtPass, SentFront, SentWhole, end_bytes, now_at, offer_of, untold, was_at}
use Rattle.vfm_source.proofs.Fails.{still_failed}
use Rattle.vfm_move.specs.Table.{Front, Whole}
use Rattle.vfm_move.specs.Carried.{HasSent, IsFront, IsGivenUp, abort_bytes, due, ended_due}
use Rattle.vfm_move.specs.Causes.{FailedOut, has_passed}
use Rattle.vfm_move.specs.Move.{NoArcFailed}
use Rattle.vfm_migrate.specs.Offered.{ChannelsSent, IsOwnDigest, NoneDue, OfferedFor, made_so_far, sent_after}
use Rattle.vfm_migrate.proofs.Links.{appended_told, first_bytes, front_of, got, if_some, nothing, same_at, there_is, two_fronts}

-- ---- what one channel has sent

whole_sent : (made : Made) (k : ℕ) (was now : offers.Told) → TellsNone was.sent
    → SentWhole made.desc (due made k) was now
    → IfSome now.sent (HasSent Whole made k)
whole_sent made k was now none all = appended_told was.sent now.sent (ended_due made k) none all

prefix_sent : (was now : Option (List ℕ)) (bytes : List ℕ) (P : List ℕ → Type 0) → TellsNone was
    → (sent : SentPrefix was now bytes)
    → P (take sent.count bytes) → IfSome now P
prefix_sent was now bytes P none sent holds =
    if_some now (λ told. told ≡ take sent.count bytes) P (λ told is. subst P (sym is) holds)
    (appended_told was now (take sent.count bytes) none sent.sent)

given_up : (made : Made) (k : ℕ) (carried : List ℕ) (count : ℕ) → IsFront carried (due made k)
    → IsGivenUp made k (take count (carried ++ abort_bytes made.desc))
given_up made k carried count front =
    let both = two_fronts count carried (abort_bytes made.desc) in
    record {
      carried = both.one;
      aborting = both.other;
      begun = front_of both.one carried (due made k) both.begun front;
      cut = both.cut;
      both = both.are;
    }

front_sent : (made : Made) (k : ℕ) (was now : offers.Told) → TellsNone was.sent
    → SentFront made.desc (due made k) was now
    → IfSome now.sent (HasSent Front made k)
front_sent made k was now none (inl sent) =
    prefix_sent was.sent now.sent (ended_due made k) (HasSent Front made k) none sent
    (inl (first_bytes sent.count (ended_due made k)))
front_sent made k was now none (inr given) =
    prefix_sent was.sent now.sent (given.carried ++ abort_bytes made.desc) (HasSent Front made k) none given.sent
    (inr (given_up made k given.carried given.sent.count (record { rest = given.front.rest; is = given.front.is })))

some_sent : {T : Type 0} (result : Result T OfferFault) (made : Made) (k : ℕ) (was now : offers.Told)
    → TellsNone was.sent
    → offers.HasSent result made.desc (due made k) was now → IfSome now.sent (HasSent (sent_after result) made k)
some_sent (Ok value) made k was now none sent = whole_sent made k was now none sent
some_sent (Err fault) made k was now none sent = front_sent made k was now none sent

-- no arc failed in a journal without an arc that failed
pub none_failed : (core : CoreState) → is_over (past_in core) ≡ false → is_failed (past_in core) ≡ false
    → NoArcFailed (made_so_far core None)
none_failed core going unfailed d to found = true≢false (sym (still_failed (past_in core) going d to found) ∙ unfailed)

-- ---- the links of an offer

-- the words of a link
pub record LinkWords (L : Type 0) : Type 0 where
  pub ended : L → Bool
  pub finished : L → Bool
  pub failed_out : L → ℕ
  pub failed_in : L → ℕ
  pub sent : L → Option (List ℕ)
  pub received : L → Option (List ℕ)

-- what a link tells
abbrev pub tell : {L : Type 0} → LinkWords L → L → Told
tell words link = told_by words.ended words.failed_out words.failed_in words.sent words.received link

-- and what of that goes out
abbrev pub tell_out : {L : Type 0} → LinkWords L → L → offers.Told
tell_out words link = offers.told words.sent words.finished words.failed_out link

module _ {L : Type 0} (words : LinkWords L) (core : CoreState) (n : ℕ) (before now : List L)
    (channels : length before ≡ core.desc.channels)
    (count : length now ≡ length before) (fresh : All IsNew (map (tell words) before)) where
  abbrev offer : Offer
  offer = offer_of core n (map (tell_out words) before) (map (tell_out words) now)

  abbrev made : Made
  made = made_so_far core None

  -- link k before, and now
  was_new : (k : ℕ) → k < core.desc.channels → IsNew (slice_index_or (map (tell words) before) k nothing)
  was_new k inside = fresh k nothing
      (let many = length-map before (tell words) in omega (arith, many, channels, inside))

  was_none : (k : ℕ) → k < core.desc.channels → TellsNone (was_at offer k).sent
  was_none k inside =
      subst TellsNone
      (sym (same_at (tell_out words) (tell words) (λ (t : offers.Told). t.sent) (λ (t : Told). t.sent) (λ link. refl)
      before k untold nothing
      (omega (arith, channels, inside)))) (was_new k inside).sent

  was_zero : (k : ℕ) → k < core.desc.channels → (was_at offer k).failed_out ≡ 0
  was_zero k inside =
      same_at (tell_out words) (tell words) (λ (t : offers.Told). t.failed_out) (λ (t : Told). t.failed_out)
      (λ link. refl) before k untold nothing
      (omega (arith, channels, inside)) ∙ (was_new k inside).failed_out

  pub channels_sent : {T : Type 0} (result : Result T OfferFault) → AllSent offer result
      → ChannelsSent (sent_after result) made (map (tell words) now)
  channels_sent result all =
      got (λ (k : ℕ) (link : Told). IfSome link.sent (HasSent (sent_after result) made k)) (map (tell words) now)
      (λ k d inside.
      let low : k < length now = let many = length-map now (tell words) in omega (arith, many, inside) in
      let there : k < core.desc.channels = omega (arith, low, count, channels) in
      subst (λ (o : Option (List ℕ)). IfSome o (HasSent (sent_after result) made k))
      (same_at (tell_out words) (tell words) (λ (t : offers.Told). t.sent) (λ (t : Told). t.sent) (λ link. refl) now k
      untold d low)
      (some_sent result made k (was_at offer k) (now_at offer k) (was_none k there) (all k there)))

  -- ---- why

  failed_out : (k : ℕ) → k < core.desc.channels → offers.FailedOut offer k → FailedOut (map (tell words) now) k
  failed_out k inside rose =
      there_is (λ (link : Told). Rose 0 link.failed_out) (map (tell words) now) k
      (let many = length-map now (tell words) in omega (arith, many, count, channels, inside))
      (λ d.
      subst (λ (m : ℕ). Rose 0 m)
      (same_at (tell_out words) (tell words) (λ (t : offers.Told). t.failed_out) (λ (t : Told). t.failed_out)
      (λ link. refl) now k untold d
      (omega (arith, count, channels, inside)))
      (subst (λ (m : ℕ). Rose m (now_at offer k).failed_out) (was_zero k inside) rose))

  none_due : {T : Type 0} (value : T) → StopsAtPass offer (Ok value) → NoneDue n made
  none_due value stops some = not_true (has_passed core.desc n (past_in core)) (stops some)
    where
      not_true : (b : Bool) → (b ≡ true → ⊥) → b ≡ false
      not_true true none = absurd (none refl)
      not_true false none = refl

  pub offered_for : (result : Result (List ℕ) OfferFault) → is_over (past_in core) ≡ false → HasCause offer result
      → StopsAtPass offer result
      → FailsBeforePass offer result → IfOk result (IsOwnDigest core) → OfferedFor n core (map (tell words) now) result
  offered_for (Ok digest) going cause stops early own =
      record { copied = cause.0; unfailed = cause.1; none_due = none_due digest stops; own = own }
  offered_for (Err (faults.Link k)) going cause stops early own =
      (none_failed core going cause.0, failed_out k cause.1.there cause.1.failed)
  offered_for (Err (faults.Aborted pass)) going cause stops early own =
      (none_failed core going cause.0, sym cause.2, cause.3, cause.1)
  offered_for (Err (faults.ArcFailed d to)) going cause stops early own = (cause, early)
  offered_for (Err faults.NoMemory) going cause stops early own = tt

-- the digest that is told is the own one
pub own_digest_of : (core : CoreState) (kept : List ℕ) (result : Result (List ℕ) OfferFault)
    → IfOk result (λ digest. (digest ≡ state_digest core.desc (joint_machine core.desc (past_in core)))
    × (kept ≡ digest))
    → IfOk result (IsOwnDigest core)
own_digest_of core kept (Ok digest) is = is.0
own_digest_of core kept (Err fault) is = tt
