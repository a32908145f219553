-- A move from one end to the other, and where it stands on its way there.
use Rattle.std.specs.Prelude.{◌≡◌, ℕ, ◌<◌, IfSome, false, if◌then◌else◌, is_some, List, [], ◌∷◌, ◌++◌, length, reverse, Option, Some, None, IsTrue, IsFalse, Contains}
use Rattle.std.specs.Option.{IsSomeAnd}
use Rattle.vfm_types.specs.declared.desc.Desc.{Desc}
use Rattle.vfm_types.specs.declared.entry.Entry.{Entry}
use Rattle.vfm_types.specs.declared.entry.Entry.TheVariants.{Abort, Fail}
use Rattle.vfm_types.specs.declared.state.MigState.{MigState}
use Rattle.vfm_types.specs.Deliveries.{joint_machine, machine_of}
use Rattle.vfm_types.specs.Machine.{Machine}
use Rattle.vfm_types.specs.Phases.{is_aborted, is_joint, is_resumed}
use Rattle.vfm_types.specs.Valid.{IsValid}
use Rattle.vfm_outside.specs.Counts.{Rose, Includes}
use Rattle.vfm_outside.specs.Links.{Told, ToldEnds, ends_faults}
use Rattle.vfm_outside.specs.Tells.{WiresTell}
use Rattle.vfm_outside.specs.Told.{with_appended, TellsNone}
use Rattle.vfm_plain.specs.Clean.{IsClean}
use Rattle.vfm_plain.specs.Ended.{is_last_ended, went_on}
use Rattle.vfm_plain.specs.Legal.{IsLegal}
use Rattle.vfm_plain.specs.Report.{Made, source_past}
use Rattle.vfm_streams.specs.Verdict.{Loads}
use Rattle.vfm_control.specs.declared.frame.Frame.TheVariants as frames
use Rattle.vfm_control.specs.Frame.{IsFrame}
use Rattle.vfm_status.specs.declared.status.Status.{Status}
use Rattle.vfm_move.specs.Contact.{Contact, Untouched, Failed, Linked, Lines, WhereTold}
use Rattle.vfm_move.specs.Table.{GoSent, HasParts, Neither, channels_at, owner_at, parts_at, Whole}
use Rattle.vfm_move.specs.Headline.{IsSafeRun}
use Rattle.vfm_move.specs.Carried.{ChannelsCarry, HasAnswered, HasSaidGo, IsCarried, own_digest, staged_bytes, verdict_of}
use Rattle.vfm_move.specs.Causes.{Attempt, Story, IsAbortDue, IsExplained}
use Rattle.vfm_move.specs.Complete.{IsComplete}

-- ---- the whole move

-- What the wires did: nothing; they failed once; or they gave so many channels to each end, took the links in again and count
-- their faults.
abbrev pub WiresDid : Contact → ℕ → WiresTell → WiresTell → Type 0
WiresDid Untouched channels before now = (now.carried ≡ before.carried) × (now.faults ≡ before.faults)
WiresDid Failed channels before now = (now.carried ≡ before.carried) × Rose before.faults now.faults
WiresDid (Linked ends) channels before now =
    (now.carried ≡ Some ends) × Includes before.faults (ends_faults ends) now.faults
    × (length ends.source ≡ channels) × (length ends.dest ≡ channels)

-- how many channels they were asked for: once, where they failed or gave links
abbrev pub asked_by : Contact → ℕ → List ℕ
asked_by Untouched channels = []
asked_by Failed channels = channels ∷ []
asked_by (Linked ends) channels = channels ∷ []

-- What holds of a move whose source stood.
pub record IsMoveOf (attempt : Attempt) (story : Story) (made : Made) : Type 0 where
  pub valid : IsValid made.desc
  pub wires : WiresDid story.contact made.desc.channels attempt.before attempt.now
  pub connected : attempt.now.asked ≡ with_appended attempt.before.asked (asked_by story.contact made.desc.channels)
  pub parts : HasParts story.status made
  pub safe : IsSafeRun story.status made
  pub carried : WhereTold story.contact (λ lines. IsCarried story.status made lines)
  pub complete : IsComplete attempt made story

-- ---- on the way

-- The source so far: its journal, newest entry first, is a legal and clean run that was neither given up nor taken over.
pub record Stands (D : Desc) (past : List Entry) : Type 0 where
  pub legal : IsLegal D past
  pub clean : IsClean D past
  pub not_aborted : IsFalse (is_aborted past)
  pub not_resumed : IsFalse (is_resumed past)

-- the machine at the joint stop, where that was reached
abbrev pub joint_in : Desc → List Entry → Option Machine
joint_in D past = if is_joint past then Some (joint_machine D past) else None

-- What a source has made so far has this state at the joint stop; a loaded state is kept where the status prints it; and there
-- is no state at the end yet.
pub record IsHalfway (status : Status) (made : Made) : Type 0 where
  pub joint : made.joint ≡ joint_in made.desc (source_past made)
  pub loaded : is_some made.loaded ≡ (parts_at status false).loaded

-- a story with links
abbrev pub came_to : Status → Made → ToldEnds → Story
came_to status made ends = record { status = status; made = Some made; contact = Linked ends }

-- A move has come to a status while its source stands as it was left: it has its cause, and the links carried what they are to
-- carry. What is left is that the source gives up, unless neither end is to run; then everything was copied.
pub record IsDecided (attempt : Attempt) (status : Status) (made : Made) (ends : ToldEnds) : Type 0 where
  pub stands : Stands made.desc (source_past made)
  pub halfway : IsHalfway status made
  pub copied : owner_at status ≡ Neither → IsTrue (is_last_ended made.desc (source_past made))
  pub explained : IsExplained attempt (came_to status made ends)
  pub carried : WhereTold (Linked ends) (λ lines. IsCarried status made lines)
  pub complete : IsComplete attempt made (came_to status made ends)

-- The source gave up after this journal, and went on until every device was RUNNING and idle: what it had made then, newest
-- entry first, and its machine.
pub record GoesOn (D : Desc) (past later : List Entry) (final : Machine) : Type 0 where
  pub more : List Entry
  pub journal : later ≡ more ++ Abort ∷ past
  pub legal : IsLegal D later
  pub went_on : IsTrue (went_on D later)
  pub machine : machine_of D later ≡ final

-- what was made, with this journal and this state at the end
abbrev pub gone_on : Made → List Entry → Machine → Made
gone_on made later final =
    record {
      desc = made.desc;
      source = reverse later;
      joint = made.joint;
      loaded = made.loaded;
      destination = None;
      final = Some final;
    }

-- A move has come to its end over links, with what was made and what they tell: all that is promised of it but what the wires
-- tell.
pub record HasEnded (attempt : Attempt) (status : Status) (made : Made) (ends : ToldEnds) : Type 0 where
  pub parts : HasParts status made
  pub safe : IsSafeRun status made
  pub explained : IsExplained attempt (came_to status made ends)
  pub carried : WhereTold (Linked ends) (λ lines. IsCarried status made lines)
  pub complete : IsComplete attempt made (came_to status made ends)

-- ---- steps that fail

-- the link has received less than a frame, where it tells, and hasn't ended
pub record IsUnheard (link : Told) : Type 0 where
  pub received : IfSome link.received (λ xs. length xs < 44)
  pub ended : link.ended ≡ false

-- No whole answer and no whole Go was heard, and nothing was said of Go; the destination may have answered.
pub record AreUnheard (ends : ToldEnds) : Type 0 where
  pub source : IsUnheard ends.source_control
  pub dest : IsUnheard ends.dest_control
  pub unsaid : TellsNone ends.source_control.sent

-- no arc failed in the source's journal
abbrev pub NoArcFailed : Made → Type 0
NoArcFailed made = (d : ℕ) (to : MigState) → Contains (source_past made) (Fail d to) → ⊥

-- and the pass hasn't ended after which the source is to give up
pub record IsUnhindered (attempt : Attempt) (made : Made) : Type 0 where
  pub no_arc_failed : NoArcFailed made
  pub no_abort_due : (pass : ℕ) → IsAbortDue attempt pass made → ⊥

-- The source stands, its channels have sent what they are to send at this status, and no answer was heard yet.
pub record IsUnanswered (status : Status) (made : Made) (ends : ToldEnds) : Type 0 where
  pub stands : Stands made.desc (source_past made)
  pub halfway : IsHalfway status made
  pub unheard : AreUnheard ends
  pub sent : WhereTold (Linked ends) (λ lines. ChannelsCarry (channels_at status) made lines)

-- ---- once the destination has confirmed

-- The links have carried the machine at the joint stop and the destination's answer with its digest, and so much of Go was said.
pub record CarriedState (go : GoSent) (made : Made) (lines : Lines) : Type 0 where
  pub channels : ChannelsCarry Whole made lines
  pub state : IsSomeAnd made.joint (λ m. verdict_of made lines ≡ Loads m)
  pub answered : HasAnswered made lines
  pub heard : lines.source_control.received ≡ staged_bytes made
  pub said : HasSaidGo go made lines.source_control.sent

-- The destination confirmed the source's own state, and so much was said of Go.
pub record IsConfirmed (go : GoSent) (attempt : Attempt) (made : Made) (ends : ToldEnds) : Type 0 where
  pub stands : Stands made.desc (source_past made)
  pub copied : IsTrue (is_last_ended made.desc (source_past made))
  pub unhindered : IsUnhindered attempt made
  pub frame : IsFrame (frames.Staged made.desc.session (own_digest made))
  pub carried : WhereTold (Linked ends) (λ lines. CarriedState go made lines)
