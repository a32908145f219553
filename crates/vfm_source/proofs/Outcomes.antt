-- How an offer is told, from what came of its rounds, of its channels and of its devices.
use Rattle.std.proofs.Common.{◌≡◌, ℕ, ◌<◌, ◌≤◌, ◌==◌, ◌&&◌, ◌||◌, ◌⊎◌, ◌++◌, not, Bool, true, false, nat_lt, nat_le, Option, Some, None, IfSome, IfNone, Result, Ok, Err, List, Contains, refl, ap, ap₂, sym, ◌∙◌, subst, arith, ⊎_elim, inl, inr, eqb-true, eq-eqb, ltb-true}
use Rattle.std.proofs.lemmas.Bool.{and_parts, or_right, false≢true, true≢false, le-leb, leb-true, lt-ltb, ltb-false}
use Rattle.vfm_types.specs.declared.desc.Desc.{Desc}
use Rattle.vfm_types.specs.declared.entry.Entry.{Entry}
use Rattle.vfm_types.specs.declared.entry.Entry.TheVariants.{Fail}
use Rattle.vfm_types.specs.Blocks.{is_no_pass_open}
use Rattle.vfm_types.specs.Phases.{is_failed, is_joint, is_last_begun, pass_count}
use Rattle.vfm_plain.specs.Ended.{is_last_ended}
use Rattle.vfm_plain.specs.Legal.{IsLegal}
use Rattle.vfm_laws.proofs.Rising.{by_bool}
use Rattle.vfm_order.specs.Coordinator.{is_abort_due}
use Rattle.vfm_order.specs.LookAfter.{is_over}
use Rattle.vfm_outside.specs.Counts.{Rose}
use Rattle.vfm_outside.specs.Told.{with_appended}
use Rattle.vfm_send.specs.Sends.{SentPrefix}
use Rattle.vfm_streams.specs.Packets.{share}
use Rattle.vfm_outlets.specs.Carrying.{Ends, Fares}
use Rattle.vfm_source.specs.declared.ending.FailedArc.{FailedArc}
use Rattle.vfm_source.specs.declared.fault.OfferFault.{OfferFault}
use Rattle.vfm_source.specs.declared.fault.OfferFault.TheVariants as faults
use Rattle.vfm_source.specs.declared.rounds.Stop.{Stop}
use Rattle.vfm_source.specs.declared.rounds.Stop.TheVariants as stops
use Rattle.vfm_source.specs.Offers.{AllFine, AllFinished, AllSent, FailsBeforePass, HasCause, IsComplete, IsFine, IsFront, Offer, Offers, SentFront, SentWhole, StopsAtPass, TellsFail, Told, end_bytes, has_passed, now_at, outcome_of, was_at}
use Rattle.vfm_source.specs.Rounds.{FailsEarly, Stops}
use Rattle.vfm_source.proofs.Early.{not_passed}
use Rattle.vfm_source.proofs.Fails.{never_fails, one_fail, still_failed}

-- ---- one channel

-- What came of a channel to which this was due, and whether it has failed; closed says that the streams were closed.
pub record ChannelFacts (closed : Bool) (D : Desc) (due : List ℕ) (was now : Told) (failed : Bool) : Type 0 where
  pub fine : failed ≡ false → IsFine was now
  pub rose : failed ≡ true → Rose was.failed_out now.failed_out
  pub whole : closed ≡ true → failed ≡ false → SentWhole D due was now
  pub front : SentFront D due was now

pub channel_facts : (closed : Bool) (D : Desc) (due left : List ℕ) (was now : Told) (failed : Bool)
    → Ends (not closed) D.session D.version (record { failed = failed; before = was.sent; left = left; now = now.sent; finished = now.finished })
    → Fares false failed was.failed_out now.failed_out → (closed ≡ true → left ≡ due) → IsFront left due → ChannelFacts closed D due was now failed
channel_facts true D due left was now failed ends fares all front =
    record {
      fine = λ ok. record { count = fares.quiet ok; finished = (ends.whole ok).1 };
      rose = λ bad. ⊎_elim (λ (before : false ≡ true). absurd (false≢true before)) (λ (rose : Rose was.failed_out now.failed_out). rose) (fares.fails bad);
      whole = λ yes ok. (ends.whole ok).0 ∙ ap (λ (bytes : List ℕ). with_appended was.sent (bytes ++ end_bytes D)) (all refl);
      front = inl (subst (λ (bytes : List ℕ). SentPrefix was.sent now.sent (bytes ++ end_bytes D)) (all refl) ends.begun);
    }
channel_facts false D due left was now failed ends fares all front =
    record {
      fine = λ ok. record { count = fares.quiet ok; finished = (ends.whole ok).1 };
      rose = λ bad. ⊎_elim (λ (before : false ≡ true). absurd (false≢true before)) (λ (rose : Rose was.failed_out now.failed_out). rose) (fares.fails bad);
      whole = λ yes. absurd (false≢true yes);
      front = inr (record { carried = left; front = front; sent = ends.begun });
    }

-- ---- all of it

-- What is known at the end of an offer, before it is told.
pub record Facts (offer : Offer) (arc : Option FailedArc) (channel : Option ℕ) (stop : Stop) (closed : Bool) : Type 0 where
  pub going : is_over offer.past ≡ false
  pub arc_some : IfSome arc (λ a. Contains offer.past (Fail a.d a.to))
  pub arc_none : IfNone arc (is_failed offer.past ≡ false)
  pub stopped : Stops stop offer.desc offer.abort_after offer.past
  pub early : FailsEarly offer.abort_after offer.past
  pub done : closed ≡ true → stop ≡ stops.Done
  pub failed : ℕ → Bool
  pub channels : (k : ℕ) → k < offer.desc.channels
      → ChannelFacts closed offer.desc (share offer.desc offer.past k) (was_at offer k) (now_at offer k) (failed k)
  pub none : IfNone channel ((k : ℕ) → k < offer.desc.channels → failed k ≡ false)
  pub some : IfSome channel (λ least. (least < offer.desc.channels) × (failed least ≡ true) × ((k : ℕ) → k < least → failed k ≡ false))

module _ (offer : Offer) where
  -- every channel is finished, where none failed
  all_fine : (arc : Option FailedArc) (stop : Stop) (closed : Bool) → Facts offer arc None stop closed → AllFine offer offer.desc.channels
  all_fine arc stop closed facts k inside = (facts.channels k inside).fine (facts.none k inside)

  fronts : (arc : Option FailedArc) (channel : Option ℕ) (stop : Stop) (closed : Bool) → Facts offer arc channel stop closed
      → (fault : OfferFault) → AllSent {T = Unit {0}} offer (Err fault)
  fronts arc channel stop closed facts fault k inside = (facts.channels k inside).front

  sent_of : (arc : Option FailedArc) (channel : Option ℕ) (stop : Stop) (closed : Bool) → Facts offer arc channel stop closed
      → AllSent offer (outcome_of arc channel stop closed offer.abort_after)
  sent_of (Some arc) channel stop closed facts = fronts (Some arc) channel stop closed facts (faults.ArcFailed arc.d arc.to)
  sent_of None (Some least) stop closed facts = fronts None (Some least) stop closed facts (faults.Link least)
  sent_of None None stops.Done true facts = λ k inside. (facts.channels k inside).whole refl (facts.none k inside)
  sent_of None None stops.Done false facts = fronts None None stops.Done false facts faults.NoMemory
  sent_of None None stops.AbortDue closed facts = fronts None None stops.AbortDue closed facts (faults.Aborted offer.abort_after)
  sent_of None None stops.LinkFault closed facts = fronts None None stops.LinkFault closed facts faults.NoMemory
  sent_of None None stops.NoMemory closed facts = fronts None None stops.NoMemory closed facts faults.NoMemory

  -- ---- the pass after which the source was to give up

  passed_by : (n count : ℕ) (ended : Bool) → nat_le n count ≡ true → ended ≡ true → (nat_lt n count || (count == n && ended)) ≡ true
  passed_by n count ended reached over =
      by_bool (nat_lt n count) (λ b. (b || (count == n && ended)) ≡ true) (λ later. refl)
      (λ newest.
      let low : count ≤ n = ltb-false n count newest in
      let high : n ≤ count = leb-true n count reached in
      ap₂ (λ (a b : Bool). a && b) (eq-eqb count n (omega (arith, low, high))) over)

  reached_by : (n count : ℕ) (ended : Bool) → (nat_lt n count || (count == n && ended)) ≡ true → nat_le n count ≡ true
  reached_by n count ended passed =
      by_bool (nat_lt n count) (λ b. nat_lt n count ≡ b → (b || (count == n && ended)) ≡ true → nat_le n count ≡ true)
      (λ later e h. le-leb n count (let low : n < count = ltb-true n count e in omega (arith, low)))
      (λ newest e h. le-leb n count (let same : count ≡ n = eqb-true count n (and_parts (count == n) ended h).0 in omega (arith, same)))
      refl passed

  record IsDue : Type 0 where
    positive : 0 < offer.abort_after
    passed : has_passed offer.desc offer.abort_after offer.past ≡ true

  due : is_failed offer.past ≡ false → is_abort_due offer.desc offer.past offer.abort_after ≡ true → IsDue
  due unfailed is =
      let n = offer.abort_after in
      let asked = nat_lt 0 n && nat_le n (pass_count offer.past) && is_no_pass_open offer.desc offer.past in
      let either = (and_parts (not (is_over offer.past)) (is_failed offer.past || asked) is).1 in
      let all : asked ≡ true = sym (ap (λ (b : Bool). b || asked) unfailed) ∙ either in
      let two = and_parts (nat_lt 0 n && nat_le n (pass_count offer.past)) (is_no_pass_open offer.desc offer.past) all in
      let one = and_parts (nat_lt 0 n) (nat_le n (pass_count offer.past)) two.0 in
      record {
        positive = ltb-true 0 n one.0;
        passed = passed_by n (pass_count offer.past) (is_no_pass_open offer.desc offer.past) one.1 two.1;
      }

  cause_of : (arc : Option FailedArc) (channel : Option ℕ) (stop : Stop) (closed : Bool) → Facts offer arc channel stop closed
      → HasCause offer (outcome_of arc channel stop closed offer.abort_after)
  cause_of (Some arc) channel stop closed facts = facts.arc_some
  cause_of None (Some least) stop closed facts = (
    facts.arc_none,
    record {
      there = facts.some.0;
      failed = (facts.channels least facts.some.0).rose facts.some.1;
      below = λ k below. (facts.channels k (let inside = facts.some.0 in omega (arith, below, inside))).fine (facts.some.2 k below);
    },
  )
  cause_of None None stops.Done true facts = (facts.stopped.0, facts.stopped.1, all_fine None stops.Done true facts)
  cause_of None None stops.Done false facts = (facts.arc_none, all_fine None stops.Done false facts)
  cause_of None None stops.AbortDue closed facts =
      let is = due facts.arc_none facts.stopped in
      (facts.arc_none, is.passed, refl, is.positive, all_fine None stops.AbortDue closed facts)
  cause_of None None stops.LinkFault closed facts = (facts.arc_none, all_fine None stops.LinkFault closed facts)
  cause_of None None stops.NoMemory closed facts = (facts.arc_none, all_fine None stops.NoMemory closed facts)

  -- where everything was copied and the pass has ended, Abort would be due
  undue : is_over offer.past ≡ false → is_last_ended offer.desc offer.past ≡ true → is_abort_due offer.desc offer.past offer.abort_after ≡ false
      → 0 < offer.abort_after → has_passed offer.desc offer.abort_after offer.past ≡ true → ⊥
  undue going ended is positive passed =
      let n = offer.abort_after in
      let open_ = is_no_pass_open offer.desc offer.past in
      let closed_ : open_ ≡ true = (and_parts (is_joint offer.past && is_last_begun offer.past) open_ ended).1 in
      let reached : nat_le n (pass_count offer.past) ≡ true = reached_by n (pass_count offer.past) open_ passed in
      let asked : (nat_lt 0 n && nat_le n (pass_count offer.past) && open_) ≡ true =
      ap₂ (λ (a b : Bool). a && b && open_) (lt-ltb 0 n positive) reached ∙ closed_ in
      true≢false
      (sym (ap (λ (b : Bool). not b && (is_failed offer.past || (nat_lt 0 n && nat_le n (pass_count offer.past) && open_))) going
      ∙ or_right (is_failed offer.past) (nat_lt 0 n && nat_le n (pass_count offer.past) && open_) asked) ∙ is)

  pass_of : (arc : Option FailedArc) (channel : Option ℕ) (stop : Stop) (closed : Bool) → Facts offer arc channel stop closed
      → StopsAtPass offer (outcome_of arc channel stop closed offer.abort_after)
  pass_of (Some arc) channel stop closed facts = λ positive passed. tt
  pass_of None (Some least) stop closed facts = λ positive passed. tt
  pass_of None None stops.Done true facts = λ positive passed. undue facts.going facts.stopped.0 facts.stopped.2 positive passed
  pass_of None None stops.Done false facts = λ positive passed. tt
  pass_of None None stops.AbortDue closed facts = λ positive passed. tt
  pass_of None None stops.LinkFault closed facts = λ positive passed. tt
  pass_of None None stops.NoMemory closed facts = λ positive passed. tt

  finished_of : (arc : Option FailedArc) (channel : Option ℕ) (stop : Stop) (closed : Bool) → Facts offer arc channel stop closed → AllFinished offer
  finished_of arc channel stop closed facts k inside =
      let is = facts.channels k inside in
      by_bool (facts.failed k) (λ b. IsFine (was_at offer k) (now_at offer k) ⊎ Rose (was_at offer k).failed_out (now_at offer k).failed_out)
      (λ bad. inr (is.rose bad)) (λ ok. inl (is.fine ok))

  early_of : (arc : Option FailedArc) (channel : Option ℕ) (stop : Stop) (closed : Bool) → Facts offer arc channel stop closed
      → FailsBeforePass offer (outcome_of arc channel stop closed offer.abort_after)
  early_of (Some arc) channel stop closed facts = λ some.
      not_passed offer.desc offer.abort_after offer.past
      (facts.early some (still_failed offer.past facts.going arc.d arc.to facts.arc_some))
  early_of None (Some least) stop closed facts = tt
  early_of None None stops.Done true facts = tt
  early_of None None stops.Done false facts = tt
  early_of None None stops.AbortDue closed facts = tt
  early_of None None stops.LinkFault closed facts = tt
  early_of None None stops.NoMemory closed facts = tt

  pub offers_of : (arc : Option FailedArc) (channel : Option ℕ) (stop : Stop) (closed : Bool) → Facts offer arc channel stop closed
      → Offers offer (outcome_of arc channel stop closed offer.abort_after)
  offers_of arc channel stop closed facts =
      record {
        sent = sent_of arc channel stop closed facts;
        cause = cause_of arc channel stop closed facts;
        finished = finished_of arc channel stop closed facts;
        pass = pass_of arc channel stop closed facts;
        early = early_of arc channel stop closed facts;
      }

-- ---- what follows of the cause

abbrev arc_of : Entry → OfferFault
arc_of (Fail d to) = faults.ArcFailed d to
arc_of entry = faults.NoMemory

pub tells_fail : {T : Type 0} (offer : Offer) (result : Result T OfferFault) → IsLegal offer.desc offer.past → is_over offer.past ≡ false
    → HasCause offer result → TellsFail offer result
tells_fail offer (Ok value) legal going cause d to found =
    absurd (true≢false (sym (still_failed offer.past going d to found) ∙ cause.1))
tells_fail offer (Err (faults.ArcFailed e other)) legal going cause d to found =
    ap (λ (entry : Entry). Err (arc_of entry)) (one_fail offer.desc offer.past legal going e other cause d to found)
tells_fail offer (Err (faults.Link k)) legal going cause d to found =
    absurd (true≢false (sym (still_failed offer.past going d to found) ∙ cause.0))
tells_fail offer (Err (faults.Aborted pass)) legal going cause d to found =
    absurd (true≢false (sym (still_failed offer.past going d to found) ∙ cause.0))
tells_fail offer (Err faults.NoMemory) legal going cause d to found =
    absurd (true≢false (sym (still_failed offer.past going d to found) ∙ cause.0))

pub complete : {T : Type 0} (offer : Offer) (result : Result T OfferFault) → IsLegal offer.desc offer.past → HasCause offer result → IsComplete offer result
complete offer (Ok value) legal cause = λ none never zero. tt
complete offer (Err (faults.ArcFailed d to)) legal cause = λ none never zero. never_fails offer.desc offer.past legal never d to cause
complete offer (Err (faults.Link k)) legal cause = λ none never zero. none k cause.1.there cause.1.failed
complete offer (Err (faults.Aborted pass)) legal cause = λ none never zero. let same = cause.2 in let positive = cause.3 in omega (arith, same, positive, zero)
complete offer (Err faults.NoMemory) legal cause = λ none never zero. tt
