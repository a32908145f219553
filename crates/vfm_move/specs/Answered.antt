-- Where a move stands once the destination has answered, and how it ends from there on.
use Rattle.std.specs.Prelude.{◌≡◌, ℕ, ◌<◌, ◌≤◌, true, List, [], ◌∷◌, ◌++◌, length, reverse, Some, None, ⊤, Result, IsTrue}
use Rattle.std.specs.Option.{IsSomeAnd}
use Rattle.vfm_base.specs.Words.{IsBytes}
use Rattle.vfm_types.specs.declared.desc.Desc.{Desc}
use Rattle.vfm_types.specs.declared.entry.Entry.{Entry}
use Rattle.vfm_types.specs.declared.entry.Entry.TheVariants.{Resume}
use Rattle.vfm_types.specs.Deliveries.{delivers}
use Rattle.vfm_types.specs.Machine.{Machine}
use Rattle.vfm_types.specs.Requests.{plain}
use Rattle.vfm_types.specs.Valid.{IsValid}
use Rattle.vfm_outside.specs.Links.{Told, ToldEnds}
use Rattle.vfm_outside.specs.Told.{TellsNone, with_appended}
use Rattle.vfm_handshake.specs.declared.fault.GoFault.{GoFault}
use Rattle.vfm_handshake.specs.declared.fault.SettleFault.{SettleFault}
use Rattle.vfm_handshake.specs.Control.{SettledBy, TakenBy}
use Rattle.vfm_plain.specs.Clean.{IsClean}
use Rattle.vfm_plain.specs.Ended.{has_ended, is_last_ended}
use Rattle.vfm_plain.specs.Legal.{IsLegal}
use Rattle.vfm_plain.specs.Report.{Made, source_past}
use Rattle.vfm_streams.specs.Verdict.{Loads}
use Rattle.vfm_status.specs.declared.status.Status.{Status}
use Rattle.vfm_move.specs.Contact.{Contact, Linked, Lines, WhereTold}
use Rattle.vfm_move.specs.Table.{Whole}
use Rattle.vfm_move.specs.Carried.{ChannelsCarry, HasAnswered, own_digest, verdict_of}
use Rattle.vfm_move.specs.Causes.{Attempt, Received, Story}
use Rattle.vfm_move.specs.Move.{IsHalfway, IsUnheard, IsUnhindered, Stands, gone_on}

-- ---- what is heard where a frame is waited for

-- These bytes came over a link that was new: at most a frame's, and fewer only where the link ended.
pub record HeardBytes (link : Told) (bytes : List ℕ) : Type 0 where
  pub fits : IsBytes bytes
  pub came : Received link bytes
  pub most : length bytes ≤ 44
  pub cut : length bytes < 44 → link.ended ≡ true

-- over a control link that was new the source heard some bytes, and settles so to them
pub record HasSettled (made : Made) (ends : ToldEnds) (result : Result ⊤ SettleFault) : Type 0 where
  pub bytes : List ℕ
  pub heard : HeardBytes ends.source_control bytes
  pub settles : SettledBy made.desc.session (own_digest made) bytes result

-- over a control link that was new the destination heard some bytes, and takes over so, or doesn't
pub record HasHeardGo (made : Made) (ends : ToldEnds) (result : Result ⊤ GoFault) : Type 0 where
  pub bytes : List ℕ
  pub heard : HeardBytes ends.dest_control bytes
  pub takes : TakenBy made.desc.session (own_digest made) bytes result

-- ---- once the destination has answered

-- The channels carried all that they are to carry, and the destination read them out and sent the frame of its verdict.
pub record CarriedAnswer (made : Made) (lines : Lines) : Type 0 where
  pub channels : ChannelsCarry Whole made lines
  pub answered : HasAnswered made lines

-- The source copied everything and stands, and nothing hindered it; the destination has answered; nothing was said of
-- Go, and none was heard.
pub record IsAnswered (status : Status) (attempt : Attempt) (made : Made) (ends : ToldEnds) : Type 0 where
  pub valid : IsValid made.desc
  pub stands : Stands made.desc (source_past made)
  pub halfway : IsHalfway status made
  pub copied : IsTrue (is_last_ended made.desc (source_past made))
  pub unhindered : IsUnhindered attempt made
  pub channels : length ends.source ≡ made.desc.channels
  pub unsaid : TellsNone ends.source_control.sent
  pub unheard : IsUnheard ends.dest_control
  pub carried : WhereTold (Linked ends) (CarriedAnswer made)

-- the channels brought the machine at the joint stop; they brought the one that is printed as loaded
abbrev pub BroughtJoint : Made → Lines → Type 0
BroughtJoint made lines = IsSomeAnd made.joint (λ m. verdict_of made lines ≡ Loads m)

abbrev pub BroughtLoaded : Made → Lines → Type 0
BroughtLoaded made lines = IsSomeAnd made.loaded (λ m. verdict_of made lines ≡ Loads m)

-- More was said and heard of Go: the source's control link has sent these bytes besides those from before, and the
-- destination's has received some besides; all else that the links carried is as before.
pub record SaidOfGo (said : List ℕ) (before now : ToldEnds) : Type 0 where
  pub came : List ℕ
  pub source : now.source ≡ before.source
  pub dest : now.dest ≡ before.dest
  pub sent : now.source_control.sent ≡ with_appended before.source_control.sent said
  pub heard : now.source_control.received ≡ before.source_control.received
  pub answer : now.dest_control.sent ≡ before.dest_control.sent
  pub received : now.dest_control.received ≡ with_appended before.dest_control.received came

-- ---- how a move ends

-- The destination took over behind this journal, and went on until every device was RUNNING and idle: what it has made
-- then, newest entry first, and its machine.
pub record GoesOver (D : Desc) (past more : List Entry) (final : Machine) : Type 0 where
  pub legal : IsLegal D (more ++ Resume ∷ past)
  pub clean : IsClean D (more ++ Resume ∷ past)
  pub run_ended : IsTrue (has_ended D (more ++ Resume ∷ past))
  pub machine : plain D (delivers (reverse (more ++ Resume ∷ past))) ≡ Some final

-- what was made, with the destination's journal and this state at the end
abbrev pub taken_over : Made → List Entry → Machine → Made
taken_over made more final =
    record {
      desc = made.desc;
      source = made.source;
      joint = made.joint;
      loaded = made.loaded;
      destination = Some (Resume ∷ reverse more);
      final = Some final;
    }

-- a source that has made nothing yet; and what was made where it then gave up
abbrev pub nothing_made : Desc → Made
nothing_made D = record { desc = D; source = []; joint = None; loaded = None; destination = None; final = None }

abbrev pub gone_alone : Desc → List Entry → Machine → Made
gone_alone D later final = gone_on (nothing_made D) later final

-- a story without links
abbrev pub without_links : Status → Made → Contact → Story
without_links status made contact = record { status = status; made = Some made; contact = contact }
