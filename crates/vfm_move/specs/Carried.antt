-- What the links of a move carried, where they tell their bytes: what the source's channels sent, what that brought, and the
-- frames of the control links.
use Rattle.std.specs.Prelude.{◌≡◌, ◌⊎◌, ℕ, ◌+◌, ◌<◌, ◌==◌, if◌then◌else◌, true, All, List, [], ◌++◌, length, IfSome, unwrap_or, option_map, slice_get}
use Rattle.std.specs.Option.{IsSomeAnd}
use Rattle.std.proofs.Math.Nat.{le_refl, le-suc}
use Rattle.vfm_types.specs.declared.desc.Desc.{Desc}
use Rattle.vfm_types.specs.Desc.{device_count}
use Rattle.vfm_outside.specs.Counts.{Rose}
use Rattle.vfm_plain.specs.Report.{Made, source_past}
use Rattle.vfm_plain.specs.StateText.{state_digest}
use Rattle.vfm_packet.specs.declared.answer.Expect.{Expect}
use Rattle.vfm_packet.specs.Channel.{channel_limit}
use Rattle.vfm_packet.specs.Packet.{packet_bytes}
use Rattle.vfm_send.specs.Sends.{mark_of}
use Rattle.vfm_streams.specs.Packets.{share, ended_share}
use Rattle.vfm_streams.specs.Verdict as streams
use Rattle.vfm_streams.specs.Verdict.{Verdict, Loads, Refuses}
use Rattle.vfm_control.specs.declared.frame.Frame.{Frame}
use Rattle.vfm_control.specs.declared.frame.Frame.TheVariants as frames
use Rattle.vfm_control.specs.Frame.{frame_bytes}
use Rattle.vfm_status.specs.declared.status.Status.{Status}
use Rattle.vfm_status.specs.declared.status.Status.TheVariants.{Moved, Differs}
use Rattle.vfm_move.specs.Contact.{Line, Lines, arrived}
use Rattle.vfm_move.specs.Table.{Channels, Whole, Front, channels_at, GoSent, WholeGo, FrontOfGo, NoGo, go_at, Heard, DigestAndGo, Digest, Unsaid, heard_at, Answering, HasAnswer, HasAnswerIfUnheard, MaybeNot, answering_at}

-- the first bytes of these, or all of them
pub record IsFront (front whole : List ℕ) : Type 0 where
  pub rest : List ℕ
  pub is : whole ≡ front ++ rest

-- ---- the channels

-- what channel k is to send by the source's journal, without the packet that ends it
abbrev pub due : Made → ℕ → List ℕ
due made k = share made.desc (source_past made) k

-- with that packet
abbrev pub ended_due : Made → ℕ → List ℕ
ended_due made k = ended_share made.desc (source_past made) k

-- the packet by which a source says on a channel that it gives up
abbrev pub abort_bytes : Desc → List ℕ
abort_bytes D = packet_bytes (mark_of true D.session D.version)

-- a front of what channel k is to send, and behind it a front of the packet that gives up
pub record IsGivenUp (made : Made) (k : ℕ) (sent : List ℕ) : Type 0 where
  pub carried : List ℕ
  pub aborting : List ℕ
  pub begun : IsFront carried (due made k)
  pub cut : IsFront aborting (abort_bytes made.desc)
  pub both : sent ≡ carried ++ aborting

-- channel k has sent all that it is to send, and the packet that ends it; or a front of that, or it was given up
abbrev pub HasSent : Channels → Made → ℕ → List ℕ → Type 0
HasSent Whole made k sent = sent ≡ ended_due made k
HasSent Front made k sent = IsFront sent (ended_due made k) ⊎ IsGivenUp made k sent

-- every channel of the source has sent what the source's journal says
abbrev pub ChannelsCarry : Channels → Made → Lines → Type 0
ChannelsCarry channels made lines = (k : ℕ) → IfSome (slice_get lines.source k) (λ line. HasSent channels made k line.sent)

-- ---- what they brought

-- What a destination of this description expects of its channels. A valid description has version 1 or 2.
abbrev pub expected : Desc → Expect
expected D =
    if D.version == 2
    then record { version = 2; session = D.session; streams = device_count D + 1; known = (le-suc 1, le_refl 2) }
    else record { version = 1; session = D.session; streams = device_count D + 1; known = (le_refl 1, le-suc 1) }

-- the verdict on what the destination's channels received: the machine that it loads, or why it is refused
abbrev pub verdict_of : Made → Lines → Verdict
verdict_of made lines = streams.verdict made.desc (expected made.desc) (arrived lines)

-- Where the machine was moved, the channels brought the state at the joint stop; where the states differ, they brought the
-- state that is printed as loaded.
abbrev pub BringsState : Status → Made → Lines → Type 0
BringsState Moved made lines = IsSomeAnd made.joint (λ m. verdict_of made lines ≡ Loads m)
BringsState Differs made lines = IsSomeAnd made.loaded (λ m. verdict_of made lines ≡ Loads m)
BringsState status made lines = Unit {0}

-- ---- the control links

-- the digest of the state at the joint stop; none where the joint stop wasn't reached
abbrev pub own_digest : Made → List ℕ
own_digest made = unwrap_or (option_map (state_digest made.desc) made.joint) []

-- the frame by which the destination says that it staged that state, and the one by which the source says Go for it
abbrev pub staged_bytes : Made → List ℕ
staged_bytes made = frame_bytes (frames.Staged made.desc.session (own_digest made))

abbrev pub go_bytes : Made → List ℕ
go_bytes made = frame_bytes (frames.Go made.desc.session (own_digest made))

-- the frame that tells a verdict: the digest of the machine that it loads, or the refusal
abbrev pub verdict_frame : Desc → Verdict → Frame
verdict_frame D (Loads m) = frames.Staged D.session (state_digest D m)
verdict_frame D (Refuses refusal) = frames.Refused D.session refusal

-- what the control links received
abbrev pub HasHeard : Heard → Made → Lines → Type 0
HasHeard DigestAndGo made lines =
    (lines.source_control.received ≡ staged_bytes made) × (lines.dest_control.received ≡ go_bytes made)
HasHeard Digest made lines = lines.source_control.received ≡ staged_bytes made
HasHeard Unsaid made lines = Unit {0}

-- what the source's control link sent of Go
abbrev pub HasSaidGo : GoSent → Made → List ℕ → Type 0
HasSaidGo WholeGo made sent = sent ≡ go_bytes made
HasSaidGo FrontOfGo made sent = IsFront sent (go_bytes made)
HasSaidGo NoGo made sent = sent ≡ []

-- the channel was read to its end, or past the most bytes that a channel may have
abbrev pub IsReadOut : Line → Type 0
IsReadOut line = (line.ended ≡ true) ⊎ (channel_limit < length line.received)

-- the destination has read its channels out, and sent the one frame of their verdict
pub record HasAnswered (made : Made) (lines : Lines) : Type 0 where
  pub read_out : All IsReadOut lines.dest
  pub answered : lines.dest_control.sent ≡ frame_bytes (verdict_frame made.desc (verdict_of made lines))

abbrev pub AnswersAt : Answering → Made → Lines → Type 0
AnswersAt HasAnswer made lines = HasAnswered made lines
AnswersAt HasAnswerIfUnheard made lines = Rose 0 lines.source_control.failed_in → HasAnswered made lines
AnswersAt MaybeNot made lines = Unit {0}

-- The control links carried frames of one session and of one digest: the destination's answer, and then Go.
pub record ShakeHands (status : Status) (made : Made) (lines : Lines) : Type 0 where
  pub heard : HasHeard (heard_at status) made lines
  pub go : HasSaidGo (go_at status) made lines.source_control.sent
  pub answer : AnswersAt (answering_at status) made lines

-- what the links of a run with this status carried
pub record IsCarried (status : Status) (made : Made) (lines : Lines) : Type 0 where
  pub channels : ChannelsCarry (channels_at status) made lines
  pub state : BringsState status made lines
  pub hands : ShakeHands status made lines
