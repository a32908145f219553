-- The control links of a move: the destination's answer and Go, and the status that comes of them.
use Rattle.std.specs.Prelude.{◌≡◌, ◌≢◌, ℕ, false, List, Some, Result, Ok, Err, MatchResult, ⊤}
use Rattle.vfm_types.specs.declared.desc.Desc.{Desc}
use Rattle.vfm_types.specs.declared.fault.LinkFault.{LinkFault as NotSent}
use Rattle.vfm_types.specs.declared.fault.LinkPlace.TheVariants.{Control, Source}
use Rattle.vfm_outside.specs.Counts.{Rose}
use Rattle.vfm_outside.specs.Links.{IsNew, Told, ToldEnds}
use Rattle.vfm_outside.specs.Told.{TellsNone}
use Rattle.vfm_core.specs.CoreState.{CoreState}
use Rattle.vfm_core.specs.Machines.{machine_in}
use Rattle.vfm_plain.specs.StateText.{state_digest}
use Rattle.vfm_dest.specs.StagedCores.{StagedState}
use Rattle.vfm_dest.specs.Stages.{core_of, digest_of}
use Rattle.vfm_migrate.specs.declared.step.Step.{Step}
use Rattle.vfm_migrate.specs.declared.step.Step.TheVariants as steps
use Rattle.vfm_control.specs.Frame.{frame_bytes}
use Rattle.vfm_handshake.specs.declared.fault.GoFault.{GoFault}
use Rattle.vfm_handshake.specs.declared.fault.GoFault.TheVariants as going
use Rattle.vfm_handshake.specs.declared.fault.SettleFault.{SettleFault}
use Rattle.vfm_handshake.specs.declared.fault.SettleFault.TheVariants as settling
use Rattle.vfm_handshake.specs.Control.{Receipt, Settles}
use Rattle.vfm_streams.specs.Verdict.{Verdict}
use Rattle.vfm_source.specs.Source.{MoverState}
use Rattle.vfm_source.specs.declared.phase.Phase.TheVariants as phases
use Rattle.vfm_source.specs.declared.fault.OfferFault.{OfferFault}
use Rattle.vfm_source.specs.declared.fault.OfferFault.TheVariants as offering
use Rattle.vfm_status.specs.declared.status.Doubt.{Doubt}
use Rattle.vfm_status.specs.declared.status.Doubt.TheVariants as doubts
use Rattle.vfm_status.specs.declared.status.Status.{Status}
use Rattle.vfm_status.specs.declared.status.Status.TheVariants as statuses
use Rattle.vfm_move.specs.Contact.{Line, told_line}
use Rattle.vfm_move.specs.Carried.{verdict_frame}
use Rattle.vfm_move.specs.Causes.{Attempt}
use Rattle.vfm_migrate.specs.Brought.{BroughtBy}
use Rattle.vfm_migrate.specs.Links.{AreLines}
use Rattle.vfm_migrate.specs.Offered.{IsOffered}

-- ---- statuses

-- where an offer failed
abbrev pub status_of_offer : OfferFault → Status
status_of_offer (offering.Link k) = statuses.LinkFault (Source k)
status_of_offer (offering.Aborted pass) = statuses.Aborted pass
status_of_offer (offering.ArcFailed d to) = statuses.ArcFailed d to
status_of_offer offering.NoMemory = statuses.NoMemory

-- where the source didn't hear its own digest
abbrev pub status_of_settle : SettleFault → Status
status_of_settle settling.Link = statuses.LinkFault Control
status_of_settle (settling.Refused refusal) = statuses.Refused refusal
status_of_settle (settling.Unconfirmed ours theirs) = statuses.Unconfirmed ours theirs
status_of_settle (settling.NoControl heard) = statuses.NoControl heard

-- the doubt where the destination didn't hear Go for its own digest
abbrev pub doubt_of : GoFault → Doubt
doubt_of going.Link = doubts.Read
doubt_of (going.NoGo heard) = doubts.NoGo heard
doubt_of (going.Other ours theirs) = doubts.Other ours theirs

-- ---- the source

-- The source is as it was, but for how far it has come: it neither said Go nor gave up.
pub record IsAsBefore (before now : MoverState) : Type 0 where
  pub core : now.core ≡ before.core
  pub joint : now.joint ≡ before.joint
  pub digest : now.digest ≡ before.digest
  pub not_gone : now.phase ≢ phases.Gone
  pub not_given_up : now.phase ≢ phases.GivenUp

-- ---- the answer

-- nothing was heard over this link, and it hasn't ended
pub record HeardNothing (link : Told) : Type 0 where
  pub received : TellsNone link.received
  pub still_open : link.ended ≡ false
  pub sound : link.failed_in ≡ 0

-- The source offered all of its machine over its channels, and nothing hindered it; its control link is new, and over
-- the destination's nothing was heard.
pub record AwaitsAnswer (attempt : Attempt) (core : CoreState) (digest : List ℕ) (ends : ToldEnds) : Type 0 where
  pub offered : IsOffered attempt.abort_after core ends.source (Ok digest)
  pub source : IsNew ends.source_control
  pub dest : HeardNothing ends.dest_control

-- the destination's channels were read out, and it sent the frame of this verdict on what they brought
pub record IsAnsweredBy (D : Desc) (v : Verdict) (lines : List Line) (control : Line) : Type 0 where
  pub brought : BroughtBy D lines v
  pub sent : control.sent ≡ frame_bytes (verdict_frame D v)

-- so it is where the destination's links tell their bytes
abbrev pub HasAnsweredBy : Desc → Verdict → ToldEnds → Type 0
HasAnsweredBy D v ends =
    (lines : List Line) (control : Line) → AreLines ends.dest lines → ends.dest_control ≡ told_line control
    → IsAnsweredBy D v lines control

-- the answer was sent, or the destination's control link failed
abbrev pub AnswersOrFails : Desc → Verdict → ToldEnds → Result ⊤ NotSent → Type 0
AnswersOrFails D v ends answered = MatchResult answered (λ _. HasAnsweredBy D v ends)
    (λ _. Rose 0 ends.dest_control.failed_out)

-- what a link received in a call
abbrev pub receipt : Told → Told → Receipt
receipt before now = record
    { before = before.received; now = now.received; had_ended = before.ended; ended = now.ended }

-- The source's control link from before the answer was waited for to after it.
pub record HearsAnswer (session : ℕ) (own : List ℕ) (before now : Told) (result : Result ⊤ SettleFault) : Type 0 where
  pub settles : Settles session own (receipt before now) result
  pub fault : result ≡ Err settling.Link → Rose before.failed_in now.failed_in
  pub sent : now.sent ≡ before.sent
  pub failed_out : now.failed_out ≡ before.failed_out

-- the ends with this source control link
abbrev pub with_source : Told → ToldEnds → ToldEnds
with_source link ends = record ends { source_control = link }

-- the ends with these channels and control links
abbrev pub ends_of : List Told → List Told → Told → Told → ToldEnds
ends_of source dest source_control dest_control =
    record { source_control = source_control; source = source; dest_control = dest_control; dest = dest }

-- ---- the two machines

-- the staged core is of this description, and its digest is that of its machine
pub record StagedAs (D : Desc) (staged : StagedState) : Type 0 where
  pub desc : (core_of staged).desc ≡ D
  pub digest : digest_of staged ≡ state_digest D (machine_in (core_of staged).world)

-- Both machines are the same, and the staged one awaits Go; or they differ, and it is to be printed.
abbrev pub Compares : CoreState → StagedState → Step → Type 0
Compares core staged (steps.Confirmed other) =
    (other ≡ staged) × (machine_in core.world ≡ machine_in (core_of staged).world)
Compares core staged (steps.Decided status loaded) =
    (status ≡ statuses.Differs) × (loaded ≡ Some staged) × (machine_in (core_of staged).world ≢ machine_in core.world)
