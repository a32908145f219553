-- Why a move comes to its status: each status only with its cause, and what brings some of them for sure.
use Rattle.std.specs.Prelude.{◌≡◌, ◌≢◌, ◌⊎◌, ℕ, ◌<◌, ◌≤◌, ◌==◌, ◌&&◌, ◌||◌, Bool, true, nat_lt, List, length, Option, IfSome, IsTrue, Contains, slice_get}
use Rattle.std.specs.Option.{IsSomeAnd}
use Rattle.vfm_types.specs.declared.desc.Desc.{Desc}
use Rattle.vfm_types.specs.declared.entry.Entry.{Entry}
use Rattle.vfm_types.specs.declared.entry.Entry.TheVariants.{Fail}
use Rattle.vfm_types.specs.declared.fault.LinkPlace.TheVariants.{Connect, Source, Destination, Control}
use Rattle.vfm_types.specs.declared.fault.Refusal.{Refusal}
use Rattle.vfm_types.specs.Blocks.{is_no_pass_open}
use Rattle.vfm_types.specs.Machine.{Machine}
use Rattle.vfm_types.specs.Phases.{pass_count}
use Rattle.vfm_outside.specs.Counts.{Rose}
use Rattle.vfm_outside.specs.Links.{Told, ToldEnds, ends_faults}
use Rattle.vfm_outside.specs.Tells.{WiresTell}
use Rattle.vfm_plain.specs.Report.{Made, source_past}
use Rattle.vfm_streams.specs.Verdict.{Loads, Refuses}
use Rattle.vfm_control.specs.declared.frame.Frame.{Frame}
use Rattle.vfm_control.specs.declared.frame.Frame.TheVariants as frames
use Rattle.vfm_control.specs.Frame.{IsDigest, frame_at, frame_bytes}
use Rattle.vfm_handshake.specs.Control.{IsNoAnswer, IsNoGo}
use Rattle.vfm_status.specs.declared.status.Doubt.TheVariants.{Send, Read, NoGo, Other}
use Rattle.vfm_status.specs.declared.status.Status.{Status}
use Rattle.vfm_status.specs.declared.status.Status.TheVariants.{Moved, LinkFault, Refused, Unconfirmed, InDoubt, Differs, Aborted, ArcFailed, NoControl, NoMemory}
use Rattle.vfm_move.specs.Contact.{Contact, Untouched, Failed, Linked, Lines, WhereTold, AreTold, IsLinkedAnd}
use Rattle.vfm_move.specs.Carried.{own_digest, staged_bytes, verdict_of}

-- An attempt at a move: the pass after whose end the source is to give up, 0 for none, and what the wires tell before it and
-- after it.
pub record Attempt : Type 0 where
  pub abort_after : ℕ
  pub before : WiresTell
  pub now : WiresTell

-- What an attempt came to: its status, what was made, if a source was, and what came of the wires.
pub record Story : Type 0 where
  pub status : Status
  pub made : Option Made
  pub contact : Contact

-- a source was made, there were links, and of both this holds
abbrev pub OfRun : Story → (Made → ToldEnds → Type 0) → Type 0
OfRun story P = IsSomeAnd story.made (λ made. IsLinkedAnd story.contact (P made))

-- ---- what a cause speaks of

-- there is a link k, and the count of what it failed to send rose; a new link's is 0
abbrev pub FailedOut : List Told → ℕ → Type 0
FailedOut links k = IsSomeAnd (slice_get links k) (λ link. Rose 0 link.failed_out)

-- the same of what it failed to receive
abbrev pub FailedIn : List Told → ℕ → Type 0
FailedIn links k = IsSomeAnd (slice_get links k) (λ link. Rose 0 link.failed_in)

-- the link received these bytes and no others, where it tells them
abbrev pub Received : Told → List ℕ → Type 0
Received link bytes = IfSome link.received (λ came. came ≡ bytes)

-- In place of a frame that was waited for the link received these bytes, at most as many as a frame has, and fewer only where
-- it ended; this holds of the frame that they are, or of none.
pub record HeardInstead (Other : Option Frame → Type 0) (session : ℕ) (heard : List ℕ) (link : Told) : Type 0 where
  pub other : Other (frame_at session heard)
  pub most : length heard ≤ 44
  pub cut : length heard < 44 → link.ended ≡ true
  pub came : Received link heard

-- ours is the digest of the own state at the joint stop, and theirs is another one
pub record AreTwoDigests (made : Made) (ours theirs : List ℕ) : Type 0 where
  pub own : ours ≡ own_digest made
  pub digest : IsDigest theirs
  pub other : theirs ≢ ours

-- the destination said that it staged a state with this digest; the source said Go for one
abbrev pub SaidStaged : Made → ToldEnds → List ℕ → Type 0
SaidStaged made ends digest = Received ends.source_control (frame_bytes (frames.Staged made.desc.session digest))

abbrev pub SaidGo : Made → ToldEnds → List ℕ → Type 0
SaidGo made ends digest = Received ends.dest_control (frame_bytes (frames.Go made.desc.session digest))

-- the source was told this refusal, or it is the verdict on what came
abbrev pub IsRefused : Refusal → Made → Lines → Type 0
IsRefused why made lines =
    (lines.source_control.received ≡ frame_bytes (frames.Refused made.desc.session why)) ⊎ (verdict_of made lines ≡ Refuses why)

-- both states are printed, and differ
abbrev pub StatesDiffer : Made → Type 0
StatesDiffer made = IsSomeAnd made.joint (λ joint. IsSomeAnd made.loaded (λ loaded. loaded ≢ joint))

-- pass n has ended: it is the newest and nothing of it is left, or a later one has begun
abbrev pub has_passed : Desc → ℕ → List Entry → Bool
has_passed D n past = nat_lt n (pass_count past) || (pass_count past == n && is_no_pass_open D past)

-- the pass has ended after which the source was asked to give up
pub record IsAbortDue (attempt : Attempt) (pass : ℕ) (made : Made) : Type 0 where
  pub asked : attempt.abort_after ≡ pass
  pub some : 0 < pass
  pub passed : IsTrue (has_passed made.desc pass (source_past made))

-- ---- why a status comes

-- Why a status comes. A count that rose is that of a link, which was new, or that of the wires.
abbrev pub HasCause : Status → Attempt → Story → Type 0
HasCause Moved attempt story = Unit {0}
HasCause (LinkFault Connect) attempt story = (story.contact ≡ Failed) × Rose attempt.before.faults attempt.now.faults
HasCause (LinkFault (Source k)) attempt story = OfRun story (λ made ends. FailedOut ends.source k)
HasCause (LinkFault (Destination k)) attempt story = OfRun story (λ made ends. FailedIn ends.dest k)
HasCause (LinkFault Control) attempt story =
    OfRun story (λ made ends. Rose 0 ends.dest_control.failed_out ⊎ Rose 0 ends.source_control.failed_in)
HasCause (Refused why) attempt story = OfRun story (λ made ends. WhereTold story.contact (λ lines. IsRefused why made lines))
HasCause (Unconfirmed ours theirs) attempt story =
    OfRun story (λ made ends. AreTwoDigests made ours theirs × SaidStaged made ends theirs)
HasCause (InDoubt Send) attempt story = OfRun story (λ made ends. Rose 0 ends.source_control.failed_out)
HasCause (InDoubt Read) attempt story = OfRun story (λ made ends. Rose 0 ends.dest_control.failed_in)
HasCause (InDoubt (NoGo heard)) attempt story =
    OfRun story (λ made ends. HeardInstead IsNoGo made.desc.session heard ends.dest_control)
HasCause (InDoubt (Other ours theirs)) attempt story =
    OfRun story (λ made ends. AreTwoDigests made ours theirs × SaidGo made ends theirs)
HasCause Differs attempt story = OfRun story (λ made ends. StatesDiffer made)
HasCause (Aborted pass) attempt story = OfRun story (λ made ends. IsAbortDue attempt pass made)
HasCause (ArcFailed d to) attempt story = OfRun story (λ made ends. Contains (source_past made) (Fail d to))
HasCause (NoControl heard) attempt story =
    OfRun story (λ made ends. HeardInstead IsNoAnswer made.desc.session heard ends.source_control)
HasCause NoMemory attempt story = Unit {0}
HasCause status attempt story = ⊥

-- ---- what brings it for sure

-- the source heard its own digest, and the channels brought another machine than the one at the joint stop
pub record BroughtAnother (made : Made) (lines : Lines) : Type 0 where
  pub machine : Machine
  pub confirmed : lines.source_control.received ≡ staged_bytes made
  pub brought : verdict_of made lines ≡ Loads machine
  pub another : IsSomeAnd made.joint (λ joint. machine ≢ joint)

-- no link failed, and neither did the wires
abbrev pub NoneFailed : Contact → Type 0
NoneFailed Untouched = Unit {0}
NoneFailed Failed = ⊥
NoneFailed (Linked ends) = ends_faults ends ≡ 0

-- What brings a status for sure, where it comes exactly so: its cause, where that can be seen.
abbrev pub Brings : Status → Attempt → Story → Type 0
Brings (Unconfirmed ours theirs) attempt story = AreTold story.contact × HasCause (Unconfirmed ours theirs) attempt story
Brings (InDoubt (NoGo heard)) attempt story =
    AreTold story.contact × HasCause (InDoubt (NoGo heard)) attempt story × NoneFailed story.contact
Brings (InDoubt (Other ours theirs)) attempt story = AreTold story.contact × HasCause (InDoubt (Other ours theirs)) attempt story
Brings Differs attempt story =
    (told : AreTold story.contact) × IsSomeAnd story.made (λ made. BroughtAnother made told.lines)
Brings (Aborted pass) attempt story = IsSomeAnd story.made (λ made. IsAbortDue attempt pass made)
Brings (ArcFailed d to) attempt story = IsSomeAnd story.made (λ made. Contains (source_past made) (Fail d to))
Brings (NoControl heard) attempt story = AreTold story.contact × HasCause (NoControl heard) attempt story
Brings status attempt story = ⊥

-- which other status may come in place of a brought one: want of memory; and for a pass that ended a link of the source
abbrev pub YieldsTo : Status → Status → Type 0
YieldsTo (Aborted pass) (LinkFault (Source k)) = Unit {0}
YieldsTo brought NoMemory = Unit {0}
YieldsTo brought came = ⊥

-- A status comes only with its cause; and a cause that can be seen brings its status, or one that it yields to.
pub record IsExplained (attempt : Attempt) (story : Story) : Type 0 where
  pub cause : HasCause story.status attempt story
  pub exact : (brought : Status) → Brings brought attempt story → (story.status ≡ brought) ⊎ YieldsTo brought story.status
