-- What becomes of a move once Go was said: what the destination heard decides it.
use Rattle.std.proofs.Common.{◌≡◌, ◌≢◌, ℕ, ◌<◌, ◌≤◌, List, [], ◌∷◌, ◌++◌, length, reverse, Option, Some, Result, Ok, Err, is_some, IfSome, IsFalse, refl, sym, ap, ◌∙◌, subst, inl, append_assoc, IsTrue}
use Rattle.std.specs.Prelude.{⊤}
use Rattle.std.proofs.lemmas.List.{reverse-append, reverse-reverse}
use Rattle.vfm_types.specs.declared.entry.Entry.{Entry}
use Rattle.vfm_types.specs.declared.entry.Entry.TheVariants.{Resume}
use Rattle.vfm_types.specs.Deliveries.{before_joint, delivers}
use Rattle.vfm_types.specs.Machine.{Machine}
use Rattle.vfm_types.specs.Phases.{is_failed}
use Rattle.vfm_types.specs.Requests.{plain}
use Rattle.vfm_types.specs.Valid.{IsValid}
use Rattle.vfm_outside.specs.Links.{ToldEnds}
use Rattle.vfm_control.specs.Frame.{frame_at}
use Rattle.vfm_handshake.specs.declared.fault.GoFault.{GoFault}
use Rattle.vfm_handshake.specs.declared.fault.GoFault.TheVariants as going
use Rattle.vfm_handshake.specs.Control.{IsNoGo, TakenBy}
use Rattle.vfm_plain.specs.Clean.{IsClean}
use Rattle.vfm_plain.specs.Ended.{has_ended}
use Rattle.vfm_plain.specs.Legal.{IsLegal}
use Rattle.vfm_plain.specs.Report.{Made, journal, past, source_past}
use Rattle.vfm_laws.proofs.Conditions.{on_unfailed, resume_on}
use Rattle.vfm_status.specs.declared.status.Doubt.TheVariants.{NoGo as NoGoCame, Other}
use Rattle.vfm_status.specs.declared.status.Status.{Status}
use Rattle.vfm_status.specs.declared.status.Status.TheVariants.{InDoubt, Moved}
use Rattle.vfm_move.specs.Contact.{Lines, Linked, WhereTold, told_lines}
use Rattle.vfm_move.specs.Table.{HasParts, WholeGo}
use Rattle.vfm_move.specs.Headline.{IsSafeRun}
use Rattle.vfm_move.specs.Carried.{HasSaidGo, own_digest}
use Rattle.vfm_move.specs.Causes.{Attempt, Brings, HasCause, Received}
use Rattle.vfm_move.specs.Move.{HasEnded, IsConfirmed, IsDecided, IsHalfway, came_to}
use Rattle.vfm_move.specs.Answered.{HasHeardGo, HeardBytes, GoesOver, taken_over}
use Rattle.vfm_move.proofs.AnswerHeard.{copied_from}
use Rattle.vfm_move.proofs.NotRefused.{no_go_complete, other_go_complete}
use Rattle.vfm_move.proofs.Brought.{HeardGo, brought_by, dest_line, gone_status, received_line}
use Rattle.vfm_move.proofs.Confirmed.{doubted, go_brings}
use Rattle.vfm_move.proofs.GivenUp.{joint_same, joint_stands}
use Rattle.vfm_move.proofs.HeardOnce.{heard_go, one_taking}

-- what the destination heard, where the links tell
go_line : (ends : ToldEnds) (lines : Lines) (bytes : List ℕ) → Linked ends ≡ Linked (told_lines lines)
    → HeardBytes ends.dest_control bytes
    → lines.dest_control.received ≡ bytes
go_line ends lines bytes told heard = received_line ends.dest_control lines.dest_control bytes (dest_line ends lines told) heard.came

-- ---- what brings a status

-- where something brings a status, it is what the destination heard
takes_brings : (brought at : Status) (attempt : Attempt) (made : Made) (ends : ToldEnds) (bytes : List ℕ) (taken : Result ⊤ GoFault)
    → IsConfirmed WholeGo attempt made ends → HeardBytes ends.dest_control bytes
    → TakenBy made.desc.session (own_digest made) bytes taken
    → Brings brought attempt (came_to at made ends)
    → (lines : Lines) × (gone_status taken ≡ brought) × HeardGo made lines taken
takes_brings brought at attempt made ends bytes taken is heard takes brings =
    let came = go_brings brought WholeGo attempt made ends is (brought_by brought at attempt made ends brings) in
    let same = sym (go_line ends came.0 bytes came.2 heard) in
    let once = one_taking made came.0 taken came.1 is.frame
    (subst (λ (xs : List ℕ). TakenBy made.desc.session (own_digest made) xs taken) same takes) came.4 in
    (came.0, ap gone_status once ∙ came.3, subst (λ (r : Result ⊤ GoFault). HeardGo made came.0 r) (sym once) came.4)

-- ---- in doubt

-- Go was said, where the links tell
whole_go : (attempt : Attempt) (made : Made) (ends : ToldEnds) → IsConfirmed WholeGo attempt made ends
    → WhereTold (Linked ends) (λ lines. HasSaidGo WholeGo made lines.source_control.sent)
whole_go attempt made ends is lines told = (is.carried lines told).said

-- the destination heard no Go
pub no_go_heard : (attempt : Attempt) (made : Made) (ends : ToldEnds) (came : List ℕ) → IsValid made.desc
    → IsConfirmed WholeGo attempt made ends → IsHalfway (InDoubt (NoGoCame came)) made
    → HasHeardGo made ends (Err (going.NoGo came)) → IsDecided attempt (InDoubt (NoGoCame came)) made ends
no_go_heard attempt made ends came valid is half has =
    let same = sym has.takes.0 in
    let cause : HasCause (InDoubt (NoGoCame came)) attempt (came_to (InDoubt (NoGoCame came)) made ends) = record {
      other = subst (λ (xs : List ℕ). IsNoGo (frame_at made.desc.session xs)) same has.takes.1;
      most = subst (λ (xs : List ℕ). length xs ≤ 44) same has.heard.most;
      cut = λ few. has.heard.cut (subst (λ (xs : List ℕ). length xs < 44) has.takes.0 few);
      came = subst (λ (xs : List ℕ). Received ends.dest_control xs) same has.heard.came;
    } in
    doubted (NoGoCame came) WholeGo attempt made ends refl is half cause
    (λ brought brings.
    (takes_brings brought (InDoubt (NoGoCame came)) attempt made ends has.bytes (Err (going.NoGo came)) is has.heard has.takes brings).1)
    (no_go_complete attempt made ends came valid (copied_from (InDoubt (NoGoCame came)) made is.stands is.copied half)
    (whole_go attempt made ends is) cause)

-- the destination heard Go for another state
pub other_go_heard : (attempt : Attempt) (made : Made) (ends : ToldEnds) (ours theirs : List ℕ)
    → IsConfirmed WholeGo attempt made ends → IsHalfway (InDoubt (Other ours theirs)) made
    → HasHeardGo made ends (Err (going.Other ours theirs)) → IsDecided attempt (InDoubt (Other ours theirs)) made ends
other_go_heard attempt made ends ours theirs is half has =
    let frame = heard_go made.desc.session theirs has.bytes has.heard.fits has.takes.2 in
    let cause : HasCause (InDoubt (Other ours theirs)) attempt (came_to (InDoubt (Other ours theirs)) made ends) = (
      record {
        own = has.takes.0;
        digest = frame.0.body;
        other = subst (λ (own : List ℕ). theirs ≢ own) (sym has.takes.0) has.takes.1;
      },
      subst (λ (xs : List ℕ). Received ends.dest_control xs) frame.1 has.heard.came,
    ) in
    doubted (Other ours theirs) WholeGo attempt made ends refl is half cause
    (λ brought brings.
    (takes_brings brought (InDoubt (Other ours theirs)) attempt made ends has.bytes (Err (going.Other ours theirs)) is has.heard has.takes
    brings).1)
    (other_go_complete attempt made ends ours theirs (copied_from (InDoubt (Other ours theirs)) made is.stands is.copied half)
    (whole_go attempt made ends is) cause)

-- ---- moved

-- both journals, newest entry first
one_list : (made : Made) (more : List Entry) (final : Machine)
    → past (taken_over made more final) ≡ more ++ Resume ∷ source_past made
one_list made more final =
    reverse-append made.source (Resume ∷ reverse more)
    ∙ ap (λ (l : List Entry). l ++ source_past made)
    (reverse-append (Resume ∷ []) (reverse more) ∙ ap (λ (l : List Entry). l ++ Resume ∷ []) (reverse-reverse more))
    ∙ append_assoc more (Resume ∷ []) (source_past made)

-- what is confirmed stays so with the destination's journal
confirmed_over : (attempt : Attempt) (made : Made) (ends : ToldEnds) (more : List Entry) (final : Machine)
    → IsConfirmed WholeGo attempt made ends
    → IsConfirmed WholeGo attempt (taken_over made more final) ends
confirmed_over attempt made ends more final is =
    record {
      stands = is.stands;
      copied = is.copied;
      unhindered = record {
        no_arc_failed = is.unhindered.no_arc_failed;
        no_abort_due = λ pass due. is.unhindered.no_abort_due pass (record { asked = due.asked; some = due.some; passed = due.passed });
      };
      frame = is.frame;
      carried = λ lines told.
          let carried = is.carried lines told in
          record {
            channels = carried.channels;
            state = carried.state;
            answered = record { read_out = carried.answered.read_out; answered = carried.answered.answered };
            heard = carried.heard;
            said = carried.said;
          };
    }

moved_parts : (made : Made) (more : List Entry) (final : Machine) → IsHalfway Moved made
    → HasParts Moved (taken_over made more final)
moved_parts made more final half =
    let joint = ap is_some half.joint ∙ joint_same made.desc (source_past made) in
    rw (joint, half.loaded) refl

moved_safely : (attempt : Attempt) (made : Made) (ends : ToldEnds) (more : List Entry) (final : Machine)
    → IsValid made.desc
    → IsConfirmed WholeGo attempt made ends → IsHalfway Moved made → GoesOver made.desc (source_past made) more final
    → IsSafeRun Moved (taken_over made more final)
moved_safely attempt made ends more final valid is half over =
    let list = one_list made more final in
    record {
      run = record {
        legal = subst (λ (l : List Entry). IsLegal made.desc l) (sym list) over.legal;
        clean = subst (λ (l : List Entry). IsClean made.desc l) (sym list) over.clean;
      };
      states = record {
        joint = subst (λ (o : Option Machine). IfSome o (λ m. plain made.desc (delivers (before_joint made.source)) ≡ Some m)) (sym half.joint)
            (joint_stands made valid is.stands.legal);
        final = ap (λ (l : List Entry). plain made.desc (delivers l)) (sym (reverse-reverse (journal (taken_over made more final))) ∙ ap reverse list)
            ∙ over.machine;
      };
      owner = record {
        copied = is.copied;
        not_aborted = is.stands.not_aborted;
        not_failed = unfailed more over.legal;
        takes_over = refl;
        run_ended = subst (λ (l : List Entry). IsTrue (has_ended made.desc l)) (sym list) over.run_ended;
      };
    }
  where
    unfailed : (later : List Entry) → IsLegal made.desc (later ++ Resume ∷ source_past made)
        → IsFalse (is_failed (source_past made))
    unfailed [] legal = on_unfailed (source_past made) (resume_on made.desc (source_past made) legal.1)
    unfailed (entry ∷ later) legal = unfailed later legal.2

-- the destination heard the own Go, and took the machine over
pub went_over : (attempt : Attempt) (made : Made) (ends : ToldEnds) (more : List Entry) (final : Machine)
    → IsValid made.desc
    → IsConfirmed WholeGo attempt made ends → IsHalfway Moved made → HasHeardGo made ends (Ok tt)
    → GoesOver made.desc (source_past made) more final
    → HasEnded attempt Moved (taken_over made more final) ends
went_over attempt made ends more final valid is half has over =
    let heard = has.heard in
    let takes = has.takes in
    let moved = taken_over made more final in
    let is_over = confirmed_over attempt made ends more final is in
    record {
      parts = moved_parts made more final half;
      safe = moved_safely attempt made ends more final valid is half over;
      explained = record {
        cause = tt;
        exact = λ brought brings.
            absurd (takes_brings brought Moved attempt moved ends has.bytes (Ok tt) is_over heard takes brings).2;
      };
      carried = λ lines told.
          let carried = is_over.carried lines told in
          record {
            channels = carried.channels;
            state = carried.state;
            hands = record {
              heard = (
                carried.heard,
                go_line ends lines has.bytes told heard ∙ (heard_go made.desc.session (own_digest made) has.bytes heard.fits takes).1,
              );
              go = carried.said;
              answer = carried.answered;
            };
          };
      complete = λ moves never quiet carry. inl refl;
    }
