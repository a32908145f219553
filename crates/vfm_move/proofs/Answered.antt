-- Once the destination has answered, what the source heard decides the status, and nothing else that can be seen brings another.
use Rattle.std.proofs.Common.{◌≡◌, ◌≢◌, ◌⊎◌, ℕ, ◌<◌, ◌≤◌, List, [], length, Result, Ok, Err, refl, sym, ap, ◌∙◌, subst, inl, inr}
use Rattle.std.specs.Prelude.{⊤}
use Rattle.vfm_types.specs.declared.fault.Refusal.{Refusal}
use Rattle.vfm_types.specs.Machine.{Machine}
use Rattle.vfm_outside.specs.Links.{ToldEnds}
use Rattle.vfm_streams.specs.Verdict.{Loads, Refuses, Verdict}
use Rattle.vfm_control.specs.declared.frame.Frame.TheVariants as frames
use Rattle.vfm_control.specs.Frame.{IsFrame, frame_at}
use Rattle.vfm_handshake.specs.declared.fault.SettleFault.{SettleFault}
use Rattle.vfm_handshake.specs.declared.fault.SettleFault.TheVariants as settling
use Rattle.vfm_handshake.specs.Control.{IsNoAnswer, SettledBy}
use Rattle.vfm_plain.specs.Report.{Made}
use Rattle.vfm_status.specs.declared.status.Status.{Status}
use Rattle.vfm_status.specs.declared.status.Status.TheVariants.{Refused, Unconfirmed, Differs, NoControl}
use Rattle.vfm_move.specs.Contact.{Lines, Linked, WhereTold, told_lines}
use Rattle.vfm_move.specs.Carried.{AnswersAt, HasHeard, HasSaidGo, IsCarried, ShakeHands, own_digest, staged_bytes, verdict_of}
use Rattle.vfm_move.specs.Causes.{Attempt, Brings, HasCause, Received, StatesDiffer, YieldsTo}
use Rattle.vfm_move.specs.Complete.{IsComplete}
use Rattle.vfm_move.specs.Move.{IsConfirmed, IsDecided, came_to}
use Rattle.vfm_move.specs.Table.{Answering, GoSent, HasAnswer, Heard, NoGo, Unsaid, answering_at, go_at, heard_at}
use Rattle.vfm_move.specs.Undisturbed.{IsCopied, IsReadAndAnswered}
use Rattle.vfm_move.specs.Answered.{BroughtJoint, BroughtLoaded, HasSettled, HeardBytes, IsAnswered}
use Rattle.vfm_move.proofs.AnswerHeard.{copied_from, own_is_digest}
use Rattle.vfm_move.proofs.NotRefused.{differs_complete, no_control_complete, refused_complete, unconfirmed_complete}
use Rattle.vfm_move.proofs.Brought.{IsBrought, due, arc, answer, go, HeardAnswer, brought_by, dest_line, go_cut, received_line, sent_none, settled_status, source_line}
use Rattle.vfm_move.proofs.HeardOnce.{heard_refused, heard_staged, one_answer}
use Rattle.vfm_move.proofs.Unanswered.{unheard_line}

-- what the source heard, where the links tell
heard_line : (ends : ToldEnds) (lines : Lines) (bytes : List ℕ) → Linked ends ≡ Linked (told_lines lines)
    → HeardBytes ends.source_control bytes
    → lines.source_control.received ≡ bytes
heard_line ends lines bytes told heard = received_line ends.source_control lines.source_control bytes (source_line ends lines told) heard.came

-- ---- what is known where the destination has answered

copied_of : (status : Status) (attempt : Attempt) (made : Made) (ends : ToldEnds)
    → IsAnswered status attempt made ends → IsCopied made
copied_of status attempt made ends un = copied_from status made un.stands un.copied un.halfway

own_frame : (status : Status) (attempt : Attempt) (made : Made) (ends : ToldEnds) → IsAnswered status attempt made ends
    → IsFrame (frames.Staged made.desc.session (own_digest made))
own_frame status attempt made ends un =
    record { session = un.valid.in_range.session; body = own_is_digest made (copied_of status attempt made ends un) }

read_and_answered : (status : Status) (attempt : Attempt) (made : Made) (ends : ToldEnds)
    → IsAnswered status attempt made ends
    → IsReadAndAnswered made ends
read_and_answered status attempt made ends un =
    record {
      valid = un.valid;
      copied = copied_of status attempt made ends un;
      channels = un.channels;
      sent = λ lines told. (un.carried lines told).channels;
      answered = λ lines told. (un.carried lines told).answered;
    }

-- ---- what brings a status

-- Where something brings a status, it is what the source heard.
answer_brings : (brought status : Status) (attempt : Attempt) (made : Made) (ends : ToldEnds) (bytes : List ℕ) (settled : Result ⊤ SettleFault)
    → IsAnswered status attempt made ends → HeardBytes ends.source_control bytes
    → SettledBy made.desc.session (own_digest made) bytes settled
    → IsBrought brought attempt made ends
    → (lines : Lines) × (Linked ends ≡ Linked (told_lines lines)) × (settled_status settled ≡ brought) × HeardAnswer made lines settled
answer_brings brought status attempt made ends bytes settled un heard settles (due pass same abort) =
    absurd (un.unhindered.no_abort_due pass abort)
answer_brings brought status attempt made ends bytes settled un heard settles (arc d to same has) =
    absurd (un.unhindered.no_arc_failed d to has)
answer_brings brought status attempt made ends bytes settled un heard settles (answer lines result told same came) =
    let is = sym (heard_line ends lines bytes told heard) in
    let once = one_answer made lines settled result (own_frame status attempt made ends un)
    (subst (λ (xs : List ℕ). SettledBy made.desc.session (own_digest made) xs settled) is settles) came in
    (lines, told, ap settled_status once ∙ same, subst (λ (r : Result ⊤ SettleFault). HeardAnswer made lines r) (sym once) came)
answer_brings brought status attempt made ends bytes settled un heard settles (go lines result told same came) =
    absurd (unheard_line ends.dest_control lines.dest_control (dest_line ends lines told) un.unheard (go_cut made lines result came))

-- so it is the status that comes
exactly : (brought status : Status) (attempt : Attempt) (made : Made) (ends : ToldEnds) (bytes : List ℕ) (settled : Result ⊤ SettleFault)
    → IsAnswered status attempt made ends → HeardBytes ends.source_control bytes
    → SettledBy made.desc.session (own_digest made) bytes settled
    → settled_status settled ≡ status → Brings brought attempt (came_to status made ends)
    → (status ≡ brought) ⊎ YieldsTo brought status
exactly brought status attempt made ends bytes settled un heard settles is brings =
    inl (sym is ∙ (answer_brings brought status attempt made ends bytes settled un heard settles
    (brought_by brought status attempt made ends brings)).2)

-- ---- what was carried

silent : (status : Status) (attempt : Attempt) (made : Made) (ends : ToldEnds) (lines : Lines)
    → IsAnswered status attempt made ends
    → Linked ends ≡ Linked (told_lines lines) → lines.source_control.sent ≡ []
silent status attempt made ends lines un told = sent_none ends.source_control lines.source_control (source_line ends lines told) un.unsaid

-- ---- the steps

-- A move is decided by its cause, where what was heard is the only one, and the answer was carried.
decided : (status : Status) (attempt : Attempt) (made : Made) (ends : ToldEnds) → IsAnswered status attempt made ends
    → HasCause status attempt (came_to status made ends)
    → ((brought : Status) → Brings brought attempt (came_to status made ends) → (status ≡ brought) ⊎ YieldsTo brought status)
    → WhereTold (Linked ends) (λ lines. IsCarried status made lines)
    → IsComplete attempt made (came_to status made ends)
    → IsDecided attempt status made ends
decided status attempt made ends un cause exact carried complete =
    record {
      stands = un.stands;
      halfway = un.halfway;
      copied = λ neither. un.copied;
      explained = record { cause = cause; exact = exact };
      carried = carried;
      complete = complete;
    }

-- what the control links carried where nothing is said of what was heard
hands : (status : Status) (attempt : Attempt) (made : Made) (ends : ToldEnds) (lines : Lines)
    → IsAnswered status attempt made ends
    → heard_at status ≡ Unsaid → go_at status ≡ NoGo → answering_at status ≡ HasAnswer
    → Linked ends ≡ Linked (told_lines lines)
    → ShakeHands status made lines
hands status attempt made ends lines un unsaid no_go answers told =
    record {
      heard = subst (λ (h : Heard). HasHeard h made lines) (sym unsaid) tt;
      go = subst (λ (g : GoSent). HasSaidGo g made lines.source_control.sent) (sym no_go) (silent status attempt made ends lines un told);
      answer = subst (λ (a : Answering). AnswersAt a made lines) (sym answers) (un.carried lines told).answered;
    }

-- the source heard a refusal
pub refusal_heard : (attempt : Attempt) (made : Made) (ends : ToldEnds) (why : Refusal)
    → IsAnswered (Refused why) attempt made ends → HasSettled made ends (Err (settling.Refused why))
    → IsDecided attempt (Refused why) made ends
refusal_heard attempt made ends why un has =
    let cause : HasCause (Refused why) attempt (came_to (Refused why) made ends) =
    λ lines told.
    inl (heard_line ends lines has.bytes told has.heard
    ∙ heard_refused made.desc.session why has.bytes has.heard.fits has.settles) in
    decided (Refused why) attempt made ends un cause
    (λ brought brings.
    exactly brought (Refused why) attempt made ends has.bytes (Err (settling.Refused why)) un has.heard has.settles refl brings)
    (λ lines told. record {
      channels = (un.carried lines told).channels;
      state = tt;
      hands = hands (Refused why) attempt made ends lines un refl refl refl told;
    })
    (refused_complete attempt made ends why (read_and_answered (Refused why) attempt made ends un) cause)

-- the destination refused, and the source heard its own digest all the same
pub refusal_unheeded : (attempt : Attempt) (made : Made) (ends : ToldEnds) (why : Refusal)
    → IsAnswered (Refused why) attempt made ends → HasSettled made ends (Ok tt)
    → WhereTold (Linked ends) (λ lines. verdict_of made lines ≡ Refuses why) → IsDecided attempt (Refused why) made ends
refusal_unheeded attempt made ends why un has refuses =
    let cause : HasCause (Refused why) attempt (came_to (Refused why) made ends) = λ lines told. inr (refuses lines told) in
    decided (Refused why) attempt made ends un cause
    (λ brought brings.
    let came = answer_brings brought (Refused why) attempt made ends has.bytes (Ok tt) un has.heard has.settles
    (brought_by brought (Refused why) attempt made ends brings) in
    absurd (refused_or_loaded (verdict_of made came.0) came.3.machine (refuses came.0 came.1) came.3.brought))
    (λ lines told. record {
      channels = (un.carried lines told).channels;
      state = tt;
      hands = hands (Refused why) attempt made ends lines un refl refl refl told;
    })
    (refused_complete attempt made ends why (read_and_answered (Refused why) attempt made ends un) cause)
  where
    refused_or_loaded : (verdict : Verdict) (m : Machine) → verdict ≡ Refuses why → verdict ≡ Loads m → ⊥
    refused_or_loaded verdict m refuses loads = absurd cc

-- the source heard another digest
pub other_heard : (attempt : Attempt) (made : Made) (ends : ToldEnds) (ours theirs : List ℕ)
    → IsAnswered (Unconfirmed ours theirs) attempt made ends
    → HasSettled made ends (Err (settling.Unconfirmed ours theirs))
    → IsDecided attempt (Unconfirmed ours theirs) made ends
other_heard attempt made ends ours theirs un has =
    let frame = heard_staged made.desc.session theirs has.bytes has.heard.fits has.settles.2 in
    let cause : HasCause (Unconfirmed ours theirs) attempt (came_to (Unconfirmed ours theirs) made ends) = (
      record {
        own = has.settles.0;
        digest = frame.0.body;
        other = subst (λ (own : List ℕ). theirs ≢ own) (sym has.settles.0) has.settles.1;
      },
      subst (λ (xs : List ℕ). Received ends.source_control xs) frame.1 has.heard.came,
    ) in
    decided (Unconfirmed ours theirs) attempt made ends un cause
    (λ brought brings.
    exactly brought (Unconfirmed ours theirs) attempt made ends has.bytes (Err (settling.Unconfirmed ours theirs)) un has.heard has.settles
    refl brings)
    (λ lines told. record {
      channels = (un.carried lines told).channels;
      state = tt;
      hands = hands (Unconfirmed ours theirs) attempt made ends lines un refl refl refl told;
    })
    (unconfirmed_complete attempt made ends ours theirs (read_and_answered (Unconfirmed ours theirs) attempt made ends un) cause)

-- the source heard no answer
pub no_answer_heard : (attempt : Attempt) (made : Made) (ends : ToldEnds) (came : List ℕ)
    → IsAnswered (NoControl came) attempt made ends → HasSettled made ends (Err (settling.NoControl came))
    → IsDecided attempt (NoControl came) made ends
no_answer_heard attempt made ends came un has =
    let same = sym has.settles.0 in
    let cause : HasCause (NoControl came) attempt (came_to (NoControl came) made ends) = record {
      other = subst (λ (xs : List ℕ). IsNoAnswer (frame_at made.desc.session xs)) same has.settles.1;
      most = subst (λ (xs : List ℕ). length xs ≤ 44) same has.heard.most;
      cut = λ few. has.heard.cut (subst (λ (xs : List ℕ). length xs < 44) has.settles.0 few);
      came = subst (λ (xs : List ℕ). Received ends.source_control xs) same has.heard.came;
    } in
    decided (NoControl came) attempt made ends un cause
    (λ brought brings.
    exactly brought (NoControl came) attempt made ends has.bytes (Err (settling.NoControl came)) un has.heard has.settles refl brings)
    (λ lines told. record {
      channels = (un.carried lines told).channels;
      state = tt;
      hands = hands (NoControl came) attempt made ends lines un refl refl refl told;
    })
    (no_control_complete attempt made ends came (read_and_answered (NoControl came) attempt made ends un) cause)

-- what the source heard is its own frame, where the links tell
own_line : (made : Made) (ends : ToldEnds) (lines : Lines) → HasSettled made ends (Ok tt)
    → Linked ends ≡ Linked (told_lines lines) → lines.source_control.received ≡ staged_bytes made
own_line made ends lines has told =
    heard_line ends lines has.bytes told has.heard
    ∙ (heard_staged made.desc.session (own_digest made) has.bytes has.heard.fits has.settles).1

-- the source heard its own digest, and another machine was staged
pub machines_differ : (attempt : Attempt) (made : Made) (ends : ToldEnds) → IsAnswered Differs attempt made ends
    → HasSettled made ends (Ok tt) → StatesDiffer made → WhereTold (Linked ends) (λ lines. BroughtLoaded made lines)
    → IsDecided attempt Differs made ends
machines_differ attempt made ends un has differ loaded =
    decided Differs attempt made ends un differ
    (λ brought brings. exactly brought Differs attempt made ends has.bytes (Ok tt) un has.heard has.settles refl brings)
    (λ lines told. record {
      channels = (un.carried lines told).channels;
      state = loaded lines told;
      hands = record {
        heard = own_line made ends lines has told;
        go = silent Differs attempt made ends lines un told;
        answer = (un.carried lines told).answered;
      };
    })
    (differs_complete attempt made ends (read_and_answered Differs attempt made ends un) differ loaded)

-- the source heard its own digest, and that machine was staged
pub own_confirmed : (status : Status) (attempt : Attempt) (made : Made) (ends : ToldEnds)
    → IsAnswered status attempt made ends
    → HasSettled made ends (Ok tt) → WhereTold (Linked ends) (λ lines. BroughtJoint made lines)
    → IsConfirmed NoGo attempt made ends
own_confirmed status attempt made ends un has joint =
    record {
      stands = un.stands;
      copied = un.copied;
      unhindered = un.unhindered;
      frame = own_frame status attempt made ends un;
      carried = λ lines told. record {
        channels = (un.carried lines told).channels;
        state = joint lines told;
        answered = (un.carried lines told).answered;
        heard = own_line made ends lines has told;
        said = silent status attempt made ends lines un told;
      };
    }
