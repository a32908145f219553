-- What stands at which status of a move: who has the machine, which parts its report has, and what the links carried. Each
-- status is named where it differs; the last line of a table says what holds of all others.
use Rattle.std.specs.Prelude.{◌≡◌, Bool, true, false, is_some}
use Rattle.vfm_types.specs.Phases.{is_joint}
use Rattle.vfm_plain.specs.Report.{Made, source_past}
use Rattle.vfm_types.specs.declared.fault.LinkPlace.TheVariants.{Destination, Control}
use Rattle.vfm_status.specs.declared.status.Doubt.TheVariants.{Send}
use Rattle.vfm_status.specs.declared.status.Status.{Status}
use Rattle.vfm_status.specs.declared.status.Status.TheVariants.{Moved, LinkFault, Refused, Unconfirmed, InDoubt, Differs, NoControl}

-- who has the machine at the end: the destination took it over; neither end runs; or the source went on
pub data Owner : Type 0 where
  TookOver : Owner
  Neither : Owner
  WentOn : Owner

abbrev pub owner_at : Status → Owner
owner_at Moved = TookOver
owner_at (InDoubt doubt) = Neither
owner_at status = WentOn

-- which parts stand in a report after the source's journal
pub record Parts : Type 0 where
  pub joint : Bool
  pub loaded : Bool
  pub destination : Bool
  pub final : Bool

-- the parts at a status, where the source's journal has a Joint or hasn't
abbrev pub parts_at : Status → Bool → Parts
parts_at Moved joint = record { joint = joint; loaded = false; destination = true; final = true }
parts_at (InDoubt doubt) joint = record { joint = joint; loaded = false; destination = false; final = false }
parts_at Differs joint = record { joint = joint; loaded = true; destination = false; final = true }
parts_at status joint = record { joint = joint; loaded = false; destination = false; final = true }

-- the parts that there are after the source's journal
abbrev pub parts_of : Made → Parts
parts_of made =
    record {
      joint = is_some made.joint;
      loaded = is_some made.loaded;
      destination = is_some made.destination;
      final = is_some made.final;
    }

-- They are those of the status. The state at the joint stop is there exactly where the source's journal has a Joint.
abbrev pub HasParts : Status → Made → Type 0
HasParts status made = parts_of made ≡ parts_at status (is_joint (source_past made))

-- what each channel of the source has sent: all that it is to send, and the packet that ends it; or a front of that
pub data Channels : Type 0 where
  Whole : Channels
  Front : Channels

abbrev pub channels_at : Status → Channels
channels_at Moved = Whole
channels_at (LinkFault (Destination k)) = Whole
channels_at (LinkFault Control) = Whole
channels_at (Refused refusal) = Whole
channels_at (Unconfirmed ours theirs) = Whole
channels_at (InDoubt doubt) = Whole
channels_at Differs = Whole
channels_at (NoControl heard) = Whole
channels_at status = Front

-- what the source's control link has sent: the whole frame Go, a front of it, or nothing
pub data GoSent : Type 0 where
  WholeGo : GoSent
  FrontOfGo : GoSent
  NoGo : GoSent

abbrev pub go_at : Status → GoSent
go_at Moved = WholeGo
go_at (InDoubt Send) = FrontOfGo
go_at (InDoubt doubt) = WholeGo
go_at status = NoGo

-- what the control links have received: the source's the own digest, and the destination's Go with it; the source's the own
-- digest; or what isn't said
pub data Heard : Type 0 where
  DigestAndGo : Heard
  Digest : Heard
  Unsaid : Heard

abbrev pub heard_at : Status → Heard
heard_at Moved = DigestAndGo
heard_at (InDoubt doubt) = Digest
heard_at Differs = Digest
heard_at status = Unsaid

-- whether the destination has read its channels out and answered: it has; it has where the source's control link failed; or
-- that isn't said
pub data Answering : Type 0 where
  HasAnswer : Answering
  HasAnswerIfUnheard : Answering
  MaybeNot : Answering

abbrev pub answering_at : Status → Answering
answering_at Moved = HasAnswer
answering_at (LinkFault Control) = HasAnswerIfUnheard
answering_at (Refused refusal) = HasAnswer
answering_at (Unconfirmed ours theirs) = HasAnswer
answering_at (InDoubt doubt) = HasAnswer
answering_at Differs = HasAnswer
answering_at (NoControl heard) = HasAnswer
answering_at status = MaybeNot
