-- How an offer ends: what each channel sent, which fault it answers, and why.
use Rattle.std.specs.Prelude.{◌≡◌, ℕ, ◌<◌, ◌++◌, ◌==◌, ◌&&◌, ◌||◌, ◌⊎◌, Bool, true, false, nat_lt, Option, Some, None, Result, Ok, Err, List, slice_index_or, Contains, ⊤, IsTrue, IsFalse}
use Rattle.vfm_types.specs.declared.desc.Desc.{Desc}
use Rattle.vfm_types.specs.declared.entry.Entry.{Entry}
use Rattle.vfm_types.specs.declared.entry.Entry.TheVariants.{Fail}
use Rattle.vfm_types.specs.declared.state.MigState.{MigState}
use Rattle.vfm_types.specs.Blocks.{is_no_pass_open}
use Rattle.vfm_types.specs.Desc.{device_count, shape_at}
use Rattle.vfm_types.specs.Phases.{is_failed, pass_count}
use Rattle.vfm_plain.specs.Ended.{is_last_ended}
use Rattle.vfm_outside.specs.Counts.{Rose}
use Rattle.vfm_outside.specs.Told.{with_appended}
use Rattle.vfm_core.specs.CoreState.{CoreState}
use Rattle.vfm_packet.specs.Packet.{packet_bytes}
use Rattle.vfm_send.specs.Sends.{SentPrefix, mark_of}
use Rattle.vfm_streams.specs.Packets.{share}
use Rattle.vfm_source.specs.declared.fault.OfferFault.{OfferFault}
use Rattle.vfm_source.specs.declared.fault.OfferFault.TheVariants as faults
use Rattle.vfm_source.specs.declared.ending.FailedArc.{FailedArc}
use Rattle.vfm_source.specs.declared.rounds.Stop.{Stop}
use Rattle.vfm_source.specs.declared.rounds.Stop.TheVariants as stops
use Rattle.vfm_source.specs.Moving.{past_in}

-- ---- the links

-- what a link tells of what goes out
pub record Told : Type 0 where
  pub sent : Option (List ℕ)
  pub finished : Bool
  pub failed_out : ℕ

-- by the words of a link
abbrev pub told : {L : Type 0} → (L → Option (List ℕ)) → (L → Bool) → (L → ℕ) → L → Told
told sent finished failed_out link = record { sent = sent link; finished = finished link; failed_out = failed_out link }

-- a link that tells nothing
abbrev pub untold : Told
untold = record { sent = None; finished = false; failed_out = 0 }

-- What is known of an offer at its end: the description, the pass after which the source was to give up, the entries that were
-- made, newest first, and what the links of the channels told before and tell now.
pub record Offer : Type 0 where
  pub desc : Desc
  pub abort_after : ℕ
  pub past : List Entry
  pub before : List Told
  pub now : List Told

-- of a core that has made all of its entries in it
abbrev pub offer_of : CoreState → ℕ → List Told → List Told → Offer
offer_of core abort_after before now =
    record {
      desc = core.desc;
      abort_after = abort_after;
      past = past_in core;
      before = before;
      now = now;
    }

-- the link of channel k before, and now
abbrev pub was_at : Offer → ℕ → Told
was_at offer k = slice_index_or offer.before k untold

abbrev pub now_at : Offer → ℕ → Told
now_at offer k = slice_index_or offer.now k untold

-- ---- what was sent

-- the first of these bytes
pub record IsFront (front whole : List ℕ) : Type 0 where
  pub rest : List ℕ
  pub is : whole ≡ front ++ rest

-- the packet that ends a channel; the one that says that the source gave up
abbrev pub end_bytes : Desc → List ℕ
end_bytes D = packet_bytes (mark_of false D.session D.version)

abbrev pub abort_bytes : Desc → List ℕ
abort_bytes D = packet_bytes (mark_of true D.session D.version)

-- the link sent all that was due, and the packet that ends its channel
abbrev pub SentWhole : Desc → List ℕ → Told → Told → Type 0
SentWhole D due was now = now.sent ≡ with_appended was.sent (due ++ end_bytes D)

-- it sent the first of what was due, and then that the source gave up; or a prefix of that
pub record IsGivenUp (D : Desc) (due : List ℕ) (was now : Told) : Type 0 where
  pub carried : List ℕ
  pub front : IsFront carried due
  pub sent : SentPrefix was.sent now.sent (carried ++ abort_bytes D)

-- it sent a prefix of all that was due and of the packet that ends its channel; or it was given up
abbrev pub SentFront : Desc → List ℕ → Told → Told → Type 0
SentFront D due was now = SentPrefix was.sent now.sent (due ++ end_bytes D) ⊎ IsGivenUp D due was now

-- what a link sent by the answer of an offer
abbrev pub HasSent : {T : Type 0} → Result T OfferFault → Desc → List ℕ → Told → Told → Type 0
HasSent (Ok value) D due was now = SentWhole D due was now
HasSent (Err fault) D due was now = SentFront D due was now

-- Each channel carries its share of what the source's journal sends.
abbrev pub AllSent : {T : Type 0} → Offer → Result T OfferFault → Type 0
AllSent offer result =
    (k : ℕ) → k < offer.desc.channels → HasSent result offer.desc (share offer.desc offer.past k) (was_at offer k) (now_at offer k)

-- ---- which links failed

-- the count of channel k rose
abbrev pub FailedOut : Offer → ℕ → Type 0
FailedOut offer k = Rose (was_at offer k).failed_out (now_at offer k).failed_out

-- the count of a link is as before, and it is finished
pub record IsFine (was now : Told) : Type 0 where
  pub count : now.failed_out ≡ was.failed_out
  pub finished : now.finished ≡ true

-- so are the links of the channels below this one
abbrev pub AllFine : Offer → ℕ → Type 0
AllFine offer n = (k : ℕ) → k < n → IsFine (was_at offer k) (now_at offer k)

-- so are those of all channels, but for the ones whose count rose
abbrev pub AllFinished : Offer → Type 0
AllFinished offer = (k : ℕ) → k < offer.desc.channels → IsFine (was_at offer k) (now_at offer k) ⊎ FailedOut offer k

-- channel k is the least that failed
pub record IsFirstFailed (offer : Offer) (k : ℕ) : Type 0 where
  pub there : k < offer.desc.channels
  pub failed : FailedOut offer k
  pub below : AllFine offer k

-- ---- why

-- pass n has ended: it is the newest one and nothing of it is left, or a later one has begun
abbrev pub has_passed : Desc → ℕ → List Entry → Bool
has_passed D n past = nat_lt n (pass_count past) || (pass_count past == n && is_no_pass_open D past)

-- Why an offer ended as it did. A fault that stands further up is told before those below it.
abbrev pub HasCause : {T : Type 0} → Offer → Result T OfferFault → Type 0
HasCause offer (Ok value) =
    IsTrue (is_last_ended offer.desc offer.past) × IsFalse (is_failed offer.past) × AllFine offer offer.desc.channels
HasCause offer (Err (faults.ArcFailed d to)) = Contains offer.past (Fail d to)
HasCause offer (Err (faults.Link k)) = IsFalse (is_failed offer.past) × IsFirstFailed offer k
HasCause offer (Err (faults.Aborted pass)) =
    IsFalse (is_failed offer.past) × IsTrue (has_passed offer.desc pass offer.past) × (pass ≡ offer.abort_after) × (0 < pass)
    × AllFine offer offer.desc.channels
HasCause offer (Err faults.NoMemory) = IsFalse (is_failed offer.past) × AllFine offer offer.desc.channels

-- not everything was sent
abbrev pub IsFault : {T : Type 0} → Result T OfferFault → Type 0
IsFault (Ok value) = ⊥
IsFault (Err fault) = Unit {0}

-- where the pass has ended after which the source is to give up, not everything is sent
abbrev pub StopsAtPass : {T : Type 0} → Offer → Result T OfferFault → Type 0
StopsAtPass offer result = 0 < offer.abort_after → IsTrue (has_passed offer.desc offer.abort_after offer.past) → IsFault result

-- where an arc failed, the pass hasn't ended after which the source is to give up
abbrev pub FailsBeforePass : {T : Type 0} → Offer → Result T OfferFault → Type 0
FailsBeforePass offer (Err (faults.ArcFailed d to)) = 0 < offer.abort_after → IsFalse (has_passed offer.desc offer.abort_after offer.past)
FailsBeforePass offer result = Unit {0}

-- What holds of an offer at its end.
pub record Offers {T : Type 0} (offer : Offer) (result : Result T OfferFault) : Type 0 where
  pub sent : AllSent offer result
  pub cause : HasCause offer result
  pub finished : AllFinished offer
  pub pass : StopsAtPass offer result
  pub early : FailsBeforePass offer result

-- the answer tells an arc that failed
abbrev pub TellsFail : {T : Type 0} → Offer → Result T OfferFault → Type 0
TellsFail offer result = (d : ℕ) (to : MigState) → Contains offer.past (Fail d to) → result ≡ Err (faults.ArcFailed d to)

-- ---- when it must be Ok

-- no arc of any device fails
abbrev pub NeverFails : Desc → Type 0
NeverFails D = (d : ℕ) → d < device_count D → (shape_at D d).fails ≡ 0

-- no channel's count rose
abbrev pub NoneRose : Offer → Type 0
NoneRose offer = (k : ℕ) → k < offer.desc.channels → FailedOut offer k → ⊥

-- everything was sent, or memory was wanting
abbrev pub IsOkOrNoMemory : {T : Type 0} → Result T OfferFault → Type 0
IsOkOrNoMemory (Ok value) = Unit {0}
IsOkOrNoMemory (Err faults.NoMemory) = Unit {0}
IsOkOrNoMemory (Err fault) = ⊥

-- Where no count rose, no arc fails and the source was not to give up, everything was sent, or memory was wanting.
abbrev pub IsComplete : {T : Type 0} → Offer → Result T OfferFault → Type 0
IsComplete offer result = NoneRose offer → NeverFails offer.desc → offer.abort_after ≡ 0 → IsOkOrNoMemory result

-- ---- how it is told

-- the answer with what it says where everything was sent
abbrev pub with_digest : List ℕ → Result ⊤ OfferFault → Result (List ℕ) OfferFault
with_digest digest (Ok value) = Ok digest
with_digest digest (Err fault) = Err fault

-- The answer of an offer: an arc that failed, a link that failed, the end of the rounds.
abbrev pub outcome_of : Option FailedArc → Option ℕ → Stop → Bool → ℕ → Result ⊤ OfferFault
outcome_of (Some arc) channel stop closed abort_after = Err (faults.ArcFailed arc.d arc.to)
outcome_of None (Some k) stop closed abort_after = Err (faults.Link k)
outcome_of None None stops.Done true abort_after = Ok tt
outcome_of None None stops.AbortDue closed abort_after = Err (faults.Aborted abort_after)
outcome_of None None stop closed abort_after = Err faults.NoMemory
