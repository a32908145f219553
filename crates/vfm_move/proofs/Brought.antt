-- What is seen to bring a status: an abort that is due, an arc that failed, or what the control link of either end received.
use Rattle.std.proofs.Common.{◌≡◌, ◌≢◌, ℕ, ◌<◌, true, false, List, ◌++◌, [], length, Option, Some, None, IfSome, option_map, unwrap_or, Result, Ok, Err, Contains, refl, sym, ap, subst, arith}
use Rattle.std.specs.Prelude.{⊤}
use Rattle.std.specs.Option.{IsSomeAnd}
use Rattle.sha2.proofs.Facts256.{length-sha256}
use Rattle.vfm_types.specs.declared.desc.Desc.{Desc}
use Rattle.vfm_types.specs.declared.entry.Entry.TheVariants.{Fail}
use Rattle.vfm_types.specs.declared.fault.LinkPlace.TheVariants.{Control}
use Rattle.vfm_types.specs.declared.state.MigState.{MigState}
use Rattle.vfm_types.specs.Machine.{Machine}
use Rattle.vfm_outside.specs.Links.{Told, ToldEnds}
use Rattle.vfm_outside.specs.Told.{TellsNone, with_appended}
use Rattle.vfm_control.specs.declared.frame.Frame.{Frame}
use Rattle.vfm_control.specs.declared.frame.Frame.TheVariants as frames
use Rattle.vfm_control.specs.Frame.{frame_at, frame_bytes}
use Rattle.vfm_handshake.specs.declared.fault.GoFault.{GoFault}
use Rattle.vfm_handshake.specs.declared.fault.GoFault.TheVariants as going
use Rattle.vfm_handshake.specs.declared.fault.SettleFault.{SettleFault}
use Rattle.vfm_handshake.specs.declared.fault.SettleFault.TheVariants as settling
use Rattle.vfm_handshake.specs.Control.{IsNoAnswer, IsNoGo}
use Rattle.vfm_plain.specs.Report.{Made, source_past}
use Rattle.vfm_plain.specs.StateText.{state_digest, state_text}
use Rattle.vfm_status.specs.declared.status.Doubt.TheVariants.{Send, Read, NoGo as NoGoCame, Other}
use Rattle.vfm_status.specs.declared.status.Status.{Status}
use Rattle.vfm_status.specs.declared.status.Status.TheVariants.{Moved, LinkFault, Refused, Unconfirmed, InDoubt, Differs, Aborted, ArcFailed, NoControl}
use Rattle.vfm_move.specs.Contact.{Line, Lines, Linked, told_line, told_lines}
use Rattle.vfm_move.specs.Carried.{own_digest}
use Rattle.vfm_move.specs.Causes.{Attempt, AreTwoDigests, Brings, BroughtAnother, HeardInstead, IsAbortDue, Received}
use Rattle.vfm_move.specs.Move.{IsUnheard, came_to}

-- ---- links that tell

pub linked_once : (one other : ToldEnds) → Linked one ≡ Linked other → one ≡ other
linked_once one other same = cc

pub source_line : (ends : ToldEnds) (lines : Lines) → Linked ends ≡ Linked (told_lines lines)
    → ends.source_control ≡ told_line lines.source_control
source_line ends lines told = ap (λ (e : ToldEnds). e.source_control) (linked_once ends (told_lines lines) told)

pub dest_line : (ends : ToldEnds) (lines : Lines) → Linked ends ≡ Linked (told_lines lines)
    → ends.dest_control ≡ told_line lines.dest_control
dest_line ends lines told = ap (λ (e : ToldEnds). e.dest_control) (linked_once ends (told_lines lines) told)

-- what a link that tells received, and what it sent where it tells of none
pub received_line : (link : Told) (line : Line) (bytes : List ℕ) → link ≡ told_line line → Received link bytes
    → line.received ≡ bytes
received_line link line bytes is came = subst (λ (t : Told). Received t bytes) is came

pub sent_none : (link : Told) (line : Line) → link ≡ told_line line → TellsNone link.sent → line.sent ≡ []
sent_none link line is none = subst (λ (t : Told). TellsNone t.sent) is none

pub ended_line : (link : Told) (line : Line) → link ≡ told_line line → link.ended ≡ true → line.ended ≡ true
ended_line link line is ended = subst (λ (t : Told). t.ended ≡ true) is ended

-- ---- new links

-- what a link that was new has received is what came
pub new_received : (before : Option (List ℕ)) (link : Told) (bytes : List ℕ) → TellsNone before
    → link.received ≡ with_appended before bytes → Received link bytes
new_received None link bytes none is = subst (λ (o : Option (List ℕ)). IfSome o (λ came. came ≡ bytes)) (sym is) tt
new_received (Some told) link bytes none is =
    subst (λ (o : Option (List ℕ)). IfSome o (λ came. came ≡ bytes)) (sym is) (ap (λ (xs : List ℕ). xs ++ bytes) none)

few_some : (came : Option (List ℕ)) (bytes : List ℕ) → IfSome came (λ xs. xs ≡ bytes) → length bytes < 44
    → IfSome came (λ xs. length xs < 44)
few_some None bytes is few = tt
few_some (Some xs) bytes is few = subst (λ (ys : List ℕ). length ys < 44) (sym is) few

-- and less than a frame without an end is unheard
pub cut_unheard : (before : Option (List ℕ)) (link : Told) (bytes : List ℕ) → TellsNone before
    → link.received ≡ with_appended before bytes → length bytes < 44 → link.ended ≡ false → IsUnheard link
cut_unheard before link bytes none is few going =
    record { received = few_some link.received bytes (new_received before link bytes none is) few; ended = going }

-- ---- what was heard

-- these bytes came in place of a frame, fewer than a frame's only where the link ended
pub record ReceivedInstead (IsOther : Option Frame → Type 0) (session : ℕ) (heard : List ℕ) (line : Line) : Type 0 where
  pub other : IsOther (frame_at session heard)
  pub cut : length heard < 44 → line.ended ≡ true
  pub came : line.received ≡ heard

-- The status that comes where a source settles so; where it heard its own digest, that the machines differ.
abbrev pub settled_status : Result ⊤ SettleFault → Status
settled_status (Ok done) = Differs
settled_status (Err settling.Link) = LinkFault Control
settled_status (Err (settling.Refused why)) = Refused why
settled_status (Err (settling.Unconfirmed ours theirs)) = Unconfirmed ours theirs
settled_status (Err (settling.NoControl heard)) = NoControl heard

-- and what is heard there, as far as that brings the status
abbrev pub HeardAnswer : Made → Lines → Result ⊤ SettleFault → Type 0
HeardAnswer made lines (Ok done) = BroughtAnother made lines
HeardAnswer made lines (Err (settling.Unconfirmed ours theirs)) =
    AreTwoDigests made ours theirs × (lines.source_control.received ≡ frame_bytes (frames.Staged made.desc.session theirs))
HeardAnswer made lines (Err (settling.NoControl heard)) = ReceivedInstead IsNoAnswer made.desc.session heard lines.source_control
HeardAnswer made lines (Err fault) = ⊥

-- the status that comes where a destination takes over so
abbrev pub gone_status : Result ⊤ GoFault → Status
gone_status (Ok done) = Moved
gone_status (Err going.Link) = InDoubt Read
gone_status (Err (going.NoGo heard)) = InDoubt (NoGoCame heard)
gone_status (Err (going.Other ours theirs)) = InDoubt (Other ours theirs)

-- and what is heard there, as far as that brings the status
abbrev pub HeardGo : Made → Lines → Result ⊤ GoFault → Type 0
HeardGo made lines (Err (going.NoGo heard)) = ReceivedInstead IsNoGo made.desc.session heard lines.dest_control
HeardGo made lines (Err (going.Other ours theirs)) =
    AreTwoDigests made ours theirs × (lines.dest_control.received ≡ frame_bytes (frames.Go made.desc.session theirs))
HeardGo made lines result = ⊥

-- ---- what brings a status

-- An abort is due, an arc failed, or the links tell what either end heard; nothing else brings a status.
pub data IsBrought (brought : Status) (attempt : Attempt) (made : Made) (ends : ToldEnds) : Type 0 where
  due : (pass : ℕ) → Aborted pass ≡ brought → IsAbortDue attempt pass made → IsBrought brought attempt made ends
  arc : (d : ℕ) (to : MigState) → ArcFailed d to ≡ brought → Contains (source_past made) (Fail d to)
      → IsBrought brought attempt made ends
  answer : (lines : Lines) (result : Result ⊤ SettleFault) → Linked ends ≡ Linked (told_lines lines)
      → settled_status result ≡ brought
      → HeardAnswer made lines result → IsBrought brought attempt made ends
  go : (lines : Lines) (result : Result ⊤ GoFault) → Linked ends ≡ Linked (told_lines lines)
      → gone_status result ≡ brought
      → HeardGo made lines result → IsBrought brought attempt made ends

instead : (IsOther : Option Frame → Type 0) (session : ℕ) (heard : List ℕ) (link : Told) (line : Line)
    → link ≡ told_line line
    → HeardInstead IsOther session heard link → ReceivedInstead IsOther session heard line
instead IsOther session heard link line is came =
    record {
      other = came.other;
      cut = λ few. ended_line link line is (came.cut few);
      came = received_line link line heard is came.came;
    }

pub brought_by : (brought at : Status) (attempt : Attempt) (made : Made) (ends : ToldEnds)
    → Brings brought attempt (came_to at made ends)
    → IsBrought brought attempt made ends
brought_by (Unconfirmed ours theirs) at attempt made ends brings =
    let lines = brings.0.lines in
    answer lines (Err (settling.Unconfirmed ours theirs)) brings.0.told refl (
      brings.1.0,
      received_line ends.source_control lines.source_control (frame_bytes (frames.Staged made.desc.session theirs))
          (source_line ends lines brings.0.told) brings.1.1,
    )
brought_by (NoControl heard) at attempt made ends brings =
    let lines = brings.0.lines in
    answer lines (Err (settling.NoControl heard)) brings.0.told refl
    (instead IsNoAnswer made.desc.session heard ends.source_control lines.source_control (source_line ends lines brings.0.told) brings.1)
brought_by Differs at attempt made ends brings = answer brings.0.lines (Ok tt) brings.0.told refl brings.1
brought_by (InDoubt (NoGoCame heard)) at attempt made ends brings =
    let lines = brings.0.lines in
    go lines (Err (going.NoGo heard)) brings.0.told refl
    (instead IsNoGo made.desc.session heard ends.dest_control lines.dest_control (dest_line ends lines brings.0.told) brings.1)
brought_by (InDoubt (Other ours theirs)) at attempt made ends brings =
    let lines = brings.0.lines in
    go lines (Err (going.Other ours theirs)) brings.0.told refl (
      brings.1.0,
      received_line ends.dest_control lines.dest_control (frame_bytes (frames.Go made.desc.session theirs))
          (dest_line ends lines brings.0.told) brings.1.1,
    )
brought_by (Aborted pass) at attempt made ends brings = due pass refl brings
brought_by (ArcFailed d to) at attempt made ends brings = arc d to refl brings
brought_by (InDoubt Send) at attempt made ends brings = absurd brings
brought_by (InDoubt Read) at attempt made ends brings = absurd brings
brought_by brought at attempt made ends brings = absurd brings

-- ---- a whole frame, or the end

whole_staged : (session : ℕ) (digest : List ℕ) → length digest ≡ 32
    → length (frame_bytes (frames.Staged session digest)) < 44 → ⊥
unfolding frame_bytes
whole_staged session digest len few = absurd (omega (arith, len, few))

whole_go : (session : ℕ) (digest : List ℕ) → length digest ≡ 32
    → length (frame_bytes (frames.Go session digest)) < 44 → ⊥
unfolding frame_bytes
whole_go session digest len few = absurd (omega (arith, len, few))

-- where there is a state at the joint stop, its digest has 32 bytes
own_len : (D : Desc) (joint : Option Machine) (P : Machine → Type 0) → IsSomeAnd joint P
    → length (unwrap_or (option_map (state_digest D) joint) []) ≡ 32
own_len D None P is = absurd is
own_len D (Some m) P is = length-sha256 (state_text D m)

-- fewer bytes than a frame's bring a status only where the link ended
pub answer_cut : (made : Made) (lines : Lines) (result : Result ⊤ SettleFault) → HeardAnswer made lines result
    → length lines.source_control.received < 44 → lines.source_control.ended ≡ true
answer_cut made lines (Ok done) heard few =
    absurd (whole_staged made.desc.session (own_digest made) (own_len made.desc made.joint (λ joint. heard.machine ≢ joint) heard.another)
    (subst (λ (xs : List ℕ). length xs < 44) heard.confirmed few))
answer_cut made lines (Err (settling.Unconfirmed ours theirs)) heard few =
    absurd (whole_staged made.desc.session theirs heard.0.digest.len (subst (λ (xs : List ℕ). length xs < 44) heard.1 few))
answer_cut made lines (Err (settling.NoControl came)) heard few = heard.cut (subst (λ (xs : List ℕ). length xs < 44) heard.came few)
answer_cut made lines (Err settling.Link) heard few = absurd heard
answer_cut made lines (Err (settling.Refused why)) heard few = absurd heard

pub go_cut : (made : Made) (lines : Lines) (result : Result ⊤ GoFault) → HeardGo made lines result
    → length lines.dest_control.received < 44
    → lines.dest_control.ended ≡ true
go_cut made lines (Err (going.Other ours theirs)) heard few =
    absurd (whole_go made.desc.session theirs heard.0.digest.len (subst (λ (xs : List ℕ). length xs < 44) heard.1 few))
go_cut made lines (Err (going.NoGo came)) heard few = heard.cut (subst (λ (xs : List ℕ). length xs < 44) heard.came few)
go_cut made lines (Err going.Link) heard few = absurd heard
go_cut made lines (Ok done) heard few = absurd heard
