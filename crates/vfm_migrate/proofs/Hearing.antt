-- What a source hears over its control link, as its links tell it.
use Rattle.std.proofs.Common.{◌≡◌, ℕ, ◌<◌, List, length, Option, None, Result, Ok, Err, is_err, true, false, OnOk, IfSome, refl, ap, sym, ◌∙◌, subst}
use Rattle.std.proofs.lemmas.Bool.{false≢true, true≢false}
use Rattle.vfm_types.specs.declared.desc.Desc.{Desc}
use Rattle.vfm_types.specs.declared.fault.LinkFault.{LinkFault as NotSent}
use Rattle.vfm_types.specs.declared.fault.LinkPlace.TheVariants.{Control}
use Rattle.vfm_types.specs.declared.fault.Refusal.{Refusal}
use Rattle.vfm_outside.specs.Counts.{CountsFaults, Rose}
use Rattle.vfm_outside.specs.Told.{TellsNone, with_appended}
use Rattle.vfm_migrate.specs.Brought.{HaveBrought}
use Rattle.vfm_migrate.proofs.Links.{appended_told}
use Rattle.vfm_outside.specs.Links.{IsNew, Told, ToldEnds}
use Rattle.vfm_core.specs.CoreState.{CoreState}
use Rattle.vfm_source.specs.declared.fault.OfferFault.{OfferFault}
use Rattle.vfm_source.specs.declared.fault.OfferFault.TheVariants as offering
use Rattle.vfm_source.specs.declared.phase.Phase.{Phase}
use Rattle.vfm_source.specs.declared.phase.Phase.TheVariants as phases
use Rattle.vfm_dest.specs.StagedCores.{StagedState}
use Rattle.vfm_dest.specs.Stages.{core_of}
use Rattle.vfm_handshake.specs.declared.fault.SettleFault.{SettleFault}
use Rattle.vfm_handshake.specs.declared.fault.SettleFault.TheVariants as settling
use Rattle.vfm_control.specs.declared.frame.Frame.{Frame}
use Rattle.vfm_control.specs.Frame.{frame_bytes}
use Rattle.vfm_move.specs.Carried.{verdict_frame}
use Rattle.vfm_streams.specs.Verdict.{Loads, Refuses, Verdict}
use Rattle.vfm_status.specs.declared.status.Status.{Status}
use Rattle.vfm_status.specs.declared.status.Status.TheVariants.{Differs, LinkFault, Refused}
use Rattle.vfm_move.specs.Causes.{Attempt}
use Rattle.vfm_move.specs.Move.{IsDecided, IsUnheard}
use Rattle.vfm_move.specs.Table.{WentOn, owner_at}
use Rattle.vfm_migrate.specs.Answers.{AnswersOrFails, AwaitsAnswer, Compares, HasAnsweredBy, HeardNothing, HearsAnswer, StagedAs, ends_of, status_of_offer, status_of_settle, with_source}
use Rattle.vfm_migrate.specs.Carrying.{ComesTo, IsStepOf, machine_of_staged}
use Rattle.vfm_migrate.specs.Offered.{made_so_far}
use Rattle.vfm_migrate.specs.declared.step.Step.{Step}
use Rattle.vfm_migrate.specs.declared.step.Step.TheVariants as steps
use Rattle.vfm_migrate.proofs.Answering.{answer_failed, heard_fault, heard_own_differs, heard_own_refused, heard_own_staged, unheard_new, unheard_nothing}

-- every fault of settling leaves the source to go on
goes_on : (fault : SettleFault) → owner_at (status_of_settle fault) ≡ WentOn
goes_on settling.Link = refl
goes_on (settling.Refused why) = refl
goes_on (settling.Unconfirmed ours theirs) = refl
goes_on (settling.NoControl heard) = refl

-- and so does every fault of an offer
pub offers_on : (fault : OfferFault) → owner_at (status_of_offer fault) ≡ WentOn
offers_on (offering.Link k) = refl
offers_on (offering.Aborted pass) = refl
offers_on (offering.ArcFailed d to) = refl
offers_on offering.NoMemory = refl

-- an answer that was sent, or failed to be
pub was_sent : (D : Desc) (v : Verdict) (ends : ToldEnds) (answered : Result (Unit {0}) NotSent)
    → is_err answered ≡ false
    → AnswersOrFails D v ends answered → HasAnsweredBy D v ends
was_sent D v ends (Ok value) fine is = is
was_sent D v ends (Err fault) fine is = absurd (true≢false fine)

pub failed_to_send : (D : Desc) (v : Verdict) (ends : ToldEnds) (answered : Result (Unit {0}) NotSent)
    → is_err answered ≡ true
    → AnswersOrFails D v ends answered → Rose 0 ends.dest_control.failed_out
failed_to_send D v ends (Ok value) bad is = absurd (false≢true bad)
failed_to_send D v ends (Err fault) bad is = is

module _ (attempt : Attempt) (core : CoreState) (digest : List ℕ) (v : Verdict) (ends : ToldEnds) (was now : Told)
    (same : ends.source_control ≡ was) (waits : AwaitsAnswer attempt core digest ends)
    (answered : Result (Unit {0}) NotSent)
    (answers : AnswersOrFails core.desc v ends answered) where
  -- the answer wasn't sent, and nothing was waited for
  pub not_sent : is_err answered ≡ true
      → IsDecided attempt (LinkFault Control) (made_so_far core None) (with_source was ends)
  not_sent bad =
      answer_failed attempt core (with_source was ends) digest waits.offered (subst IsNew same waits.source)
      (unheard_nothing ends.dest_control waits.dest) (failed_to_send core.desc v ends answered bad answers)

  hears_as : (r : Result (Unit {0}) SettleFault) → HearsAnswer core.desc.session digest was now r
      → HearsAnswer core.desc.session digest ends.source_control now r
  hears_as r hears = subst (λ (t : Told). HearsAnswer core.desc.session digest t now r) (sym same) hears

  -- it was, and the source heard another thing than its own digest
  pub heard_other : (fault : SettleFault) → is_err answered ≡ false
      → HearsAnswer core.desc.session digest was now (Err fault)
      → IsDecided attempt (status_of_settle fault) (made_so_far core None) (with_source now ends)
  heard_other fault fine hears =
      heard_fault attempt core digest v ends now waits (was_sent core.desc v ends answered fine answers) fault
      (hears_as (Err fault) hears)

  -- or that
  pub heard_refused : (why : Refusal) → v ≡ Refuses why → is_err answered ≡ false
      → HearsAnswer core.desc.session digest was now (Ok tt)
      → IsDecided attempt (Refused why) (made_so_far core None) (with_source now ends)
  heard_refused why refuses fine hears =
      heard_own_refused attempt core digest v ends now waits (was_sent core.desc v ends answered fine answers) why
      refuses (hears_as (Ok tt) hears)

  pub heard_compared : (staged : StagedState) (step : Step) → v ≡ Loads (machine_of_staged staged)
      → StagedAs core.desc staged
      → is_err answered ≡ false → HearsAnswer core.desc.session digest was now (Ok tt) → Compares core staged step
      → ComesTo attempt core digest (with_source now ends) step
  heard_compared staged (steps.Confirmed other) loads as_is fine hears compared =
      subst (λ (one : StagedState). ComesTo attempt core digest (with_source now ends) (steps.Confirmed one))
      (sym compared.0)
      (heard_own_staged attempt core digest v ends now waits (was_sent core.desc v ends answered fine answers) staged
      loads compared.1 as_is
      (hears_as (Ok tt) hears))
  heard_compared staged (steps.Decided status loaded) loads as_is fine hears compared =
      subst (λ (s : Status). ComesTo attempt core digest (with_source now ends) (steps.Decided s loaded))
      (sym compared.0)
      (subst (λ (o : Option StagedState). ComesTo attempt core digest (with_source now ends)
      (steps.Decided Differs o)) (sym compared.1) (
        heard_own_differs attempt core digest v ends now waits (was_sent core.desc v ends answered fine answers)
            (machine_of_staged staged) loads
            compared.2 (hears_as (Ok tt) hears),
        refl,
      ))

  pub heard_other_step : (fault : SettleFault) (status : Status) → status ≡ status_of_settle fault
      → is_err answered ≡ false
      → HearsAnswer core.desc.session digest was now (Err fault)
      → ComesTo attempt core digest (with_source now ends) (steps.Decided status None)
  heard_other_step fault status is fine hears =
      subst (λ (s : Status). ComesTo attempt core digest (with_source now ends) (steps.Decided s None)) (sym is)
      (heard_other fault fine hears, goes_on fault)

-- ---- the answer

-- what the destination's control link sent
pub answers_by : (D : Desc) (v : Verdict) (from to : List Told) (control before now : Told) (frame : Frame)
    (answered : Result (Unit {0}) NotSent)
    → IsNew before → OnOk answered (now.sent ≡ with_appended before.sent (frame_bytes frame))
    → CountsFaults answered before.failed_out now.failed_out
    → frame ≡ verdict_frame D v → HaveBrought D to v → AnswersOrFails D v (ends_of from to control now) answered
answers_by D v from to control before now frame (Ok value) new sent count is brought =
    λ lines line are told.
    record {
      brought = brought lines are;
      sent =
          subst (λ (t : Told). IfSome t.sent (λ bytes. bytes ≡ frame_bytes frame)) told
          (appended_told before.sent now.sent (frame_bytes frame) new.sent sent) ∙ ap frame_bytes is;
    }
answers_by D v from to control before now frame (Err fault) new sent count is brought =
    subst (λ (n : ℕ). Rose n now.failed_out) new.failed_out count.failed

pub still_nothing : (before now : Told) → IsNew before → now.received ≡ before.received → now.ended ≡ before.ended
    → now.failed_in ≡ before.failed_in
    → HeardNothing now
still_nothing before now new received ended count =
    record {
      received = subst TellsNone (sym received) new.received;
      still_open = ended ∙ new.ended;
      sound = count ∙ new.failed_in;
    }

-- a new link over which nothing more came is unheard
pub still_unheard : (before now : Told) → IsNew before → now.received ≡ before.received → now.ended ≡ before.ended
    → IsUnheard now
still_unheard before now new received ended =
    let un = unheard_new before new in
    record {
      received = subst (λ (o : Option (List ℕ)). IfSome o (λ xs. length xs < 44)) (sym received) un.received;
      ended = ended ∙ un.ended;
    }

-- both machines compared, where the source has settled
pub kind_compared : (D : Desc) (core : CoreState) (staged : StagedState) (step : Step) (phase : Phase)
    → phase ≡ phases.Settled
    → (core_of staged).desc ≡ D → Compares core staged step → IsStepOf D phase step
kind_compared D core staged (steps.Confirmed other) phase settled same compared =
    (ap (λ (one : StagedState). (core_of one).desc) compared.0 ∙ same, settled)
kind_compared D core staged (steps.Decided status loaded) phase settled same compared = (
  subst (λ (o : Option StagedState). IfSome o (λ one. (core_of one).desc ≡ D)) (sym compared.1) same,
  λ gone. settled_not_gone (sym settled ∙ gone),
  λ given. settled_not_given_up (sym settled ∙ given),
)
  where
    settled_not_gone : phases.Settled ≡ phases.Gone → ⊥
    settled_not_gone same = cc

    settled_not_given_up : phases.Settled ≡ phases.GivenUp → ⊥
    settled_not_given_up same = cc
