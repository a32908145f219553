-- A source before anything was offered, and after.
use Rattle.std.proofs.Common.{◌≡◌, ℕ, ◌&&◌, true, false, List, [], reverse, None, Result, Ok, Err, IfOk, OnOk, refl, ap, sym, ◌∙◌, subst}
use Rattle.std.proofs.lemmas.Bool.{and_parts, or_parts, false≢true}
use Rattle.vfm_types.specs.declared.entry.Entry.{Entry}
use Rattle.vfm_types.specs.Machine.{Machine}
use Rattle.vfm_types.specs.Blocks.{is_no_pass_open}
use Rattle.vfm_types.specs.Deliveries.{joint_machine}
use Rattle.vfm_types.specs.Phases.{is_aborted, is_joint, is_last_begun, is_resumed}
use Rattle.vfm_plain.specs.Legal.{IsLegal}
use Rattle.vfm_plain.specs.Shape.{HasShape}
use Rattle.vfm_plain.specs.StateText.{state_digest}
use Rattle.vfm_copying.proofs.LastPass.{standing_machine}
use Rattle.vfm_order.specs.LookAfter.{is_over}
use Rattle.vfm_core.specs.CoreState.{CoreState, FitsDesc, IsAfter}
use Rattle.vfm_core.specs.Machines.{machine_in}
use Rattle.vfm_drive.specs.Runs.{HasRun}
use Rattle.vfm_source.specs.declared.fault.OfferFault.{OfferFault}
use Rattle.vfm_source.specs.declared.fault.OfferFault.TheVariants as faults
use Rattle.vfm_source.specs.Moving.{IsUnderWay, past_in}
use Rattle.vfm_source.specs.Offers.{FailsBeforePass, HasCause, IsComplete, Offer, TellsFail, Told, offer_of, with_digest}
use Rattle.vfm_source.specs.Source.{IsFresh}
use Rattle.vfm_source.proofs.Moves.{machine_now}
use Rattle.vfm_source.proofs.Outcomes.{complete, tells_fail}

-- nothing was made yet
pub fresh_past : (core : CoreState) → core.entries ≡ [] → past_in core ≡ []
fresh_past core none = ap (λ (entries : List Entry). reverse entries) none

pub fresh_of : (core : CoreState) (joint : Machine) → core.entries ≡ [] → IsAfter core.desc [] core.world → HasShape core.desc joint → IsFresh core joint
fresh_of core joint none run shape =
    let past = fresh_past core none in
    record {
      entries = none;
      way = record {
        run = subst (λ (list : List Entry). IsAfter core.desc list core.world) (sym past) run;
        keeps = λ reached. absurd (false≢true (sym (ap is_joint past) ∙ reached));
        shape = shape;
        going = ap is_over past;
      };
    }

pub run_of : (joint : Machine) (core : CoreState) → IsUnderWay joint core → HasRun core.desc core.world
run_of joint core way = record { origin = None; mine = past_in core; run = way.run }

-- ---- the answer with a digest

pub cause_with : (offer : Offer) (digest : List ℕ) (r : Result (Unit {0}) OfferFault) → HasCause offer r → HasCause offer (with_digest digest r)
cause_with offer digest (Ok value) cause = cause
cause_with offer digest (Err (faults.Link k)) cause = cause
cause_with offer digest (Err (faults.Aborted pass)) cause = cause
cause_with offer digest (Err (faults.ArcFailed d to)) cause = cause
cause_with offer digest (Err faults.NoMemory) cause = cause

pub fails_with : (offer : Offer) (digest : List ℕ) (r : Result (Unit {0}) OfferFault) → IsLegal offer.desc offer.past → is_over offer.past ≡ false
    → HasCause offer r → TellsFail offer (with_digest digest r)
fails_with offer digest r legal going cause = tells_fail offer (with_digest digest r) legal going (cause_with offer digest r cause)

pub complete_with : (offer : Offer) (digest : List ℕ) (r : Result (Unit {0}) OfferFault) → IsLegal offer.desc offer.past → HasCause offer r
    → IsComplete offer (with_digest digest r)
complete_with offer digest r legal cause = complete offer (with_digest digest r) legal (cause_with offer digest r cause)

pub early_with : (offer : Offer) (digest : List ℕ) (r : Result (Unit {0}) OfferFault) → FailsBeforePass offer r
    → FailsBeforePass offer (with_digest digest r)
early_with offer digest (Ok value) early = tt
early_with offer digest (Err (faults.Link k)) early = tt
early_with offer digest (Err (faults.Aborted pass)) early = tt
early_with offer digest (Err (faults.ArcFailed d to)) early = early
early_with offer digest (Err faults.NoMemory) early = tt

-- the digest of the machine as it stands is that of the machine at the joint stop
pub digest_with : (core : CoreState) (joint : Machine) (n : ℕ) (before now : List Told) (digest : List ℕ) (r : Result (Unit {0}) OfferFault) → FitsDesc core.desc core.world
    → IsUnderWay joint core → HasCause (offer_of core n before now) r → OnOk r (digest ≡ state_digest core.desc (machine_in core.world))
    → IfOk (with_digest digest r) (λ told. (told ≡ state_digest core.desc (joint_machine core.desc (past_in core))) × (digest ≡ told))
digest_with core joint n before now digest (Ok value) fit way cause is =
    let D = core.desc in
    let past = past_in core in
    let open_ = or_parts (is_aborted past) (is_resumed past) way.going in
    let standing : is_joint past ≡ true =
    (and_parts (is_joint past) (is_last_begun past) (and_parts (is_joint past && is_last_begun past) (is_no_pass_open D past) cause.0).0).0 in (
      is ∙ ap (state_digest D)
          (machine_now D past core.world fit way.run ∙ standing_machine D past fit.valid way.run.legal standing open_.0 open_.1),
      refl,
    )
digest_with core joint n before now digest (Err fault) fit way cause is = tt
