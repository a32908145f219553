-- What stands of a decided move once its source has given up and gone on: its cause, what the links carried, and its parts.
use Rattle.std.proofs.Common.{◌≡◌, ◌⊎◌, ℕ, ◌<◌, Bool, true, false, List, [], ◌∷◌, ◌++◌, Option, Some, None, IfSome, is_some, Contains, slice_get, reverse, refl, sym, ap, ◌∙◌, subst, inl, inr, IsTrue, append-nil}
use Rattle.std.proofs.lemmas.List.{reverse-reverse}
use Rattle.std.proofs.lemmas.List.Elements.{Contains-append_cases, Contains-append_right}
use Rattle.vfm_types.specs.declared.desc.Desc.{Desc}
use Rattle.vfm_types.specs.declared.entry.Entry.{Entry}
use Rattle.vfm_types.specs.declared.entry.Entry.TheVariants.{Abort, Fail}
use Rattle.vfm_types.specs.declared.fault.LinkPlace.TheVariants.{Connect, Source, Destination, Control}
use Rattle.vfm_types.specs.declared.state.MigState.{MigState}
use Rattle.vfm_types.specs.Deliveries.{before_joint, delivers}
use Rattle.vfm_types.specs.Machine.{Machine}
use Rattle.vfm_types.specs.Phases.{is_joint, pass_count}
use Rattle.vfm_types.specs.Requests.{plain}
use Rattle.vfm_types.specs.Valid.{IsValid}
use Rattle.vfm_outside.specs.Links.{ToldEnds}
use Rattle.vfm_packet.specs.Channel.{all_bytes}
use Rattle.vfm_packet.specs.Packet.{packet_bytes}
use Rattle.vfm_plain.specs.Clean.{IsClean}
use Rattle.vfm_plain.specs.Ended.{went_on}
use Rattle.vfm_plain.specs.Legal.{IsLegal}
use Rattle.vfm_plain.specs.Report.{Made, past, source_past}
use Rattle.vfm_record.specs.Packing.{end_of}
use Rattle.vfm_laws.proofs.Cleanness.{legal_clean}
use Rattle.vfm_laws.proofs.Enabled.{plain_exists}
use Rattle.vfm_laws.proofs.JointStop.{joint_exists}
use Rattle.vfm_streams.specs.Packets.{lane_packets, share}
use Rattle.vfm_streams.specs.Sent.{Sent}
use Rattle.vfm_move_laws.proofs.AfterAbort.{all_kept, none_fails}
use Rattle.vfm_move_laws.proofs.FailedArcs.{is_it}
use Rattle.vfm_move_laws.specs.Copies.{KeepsCopies}
use Rattle.vfm_status.specs.declared.status.Doubt.TheVariants.{Send, Read, NoGo as NoGoCame, Other}
use Rattle.vfm_status.specs.declared.status.Status.{Status}
use Rattle.vfm_status.specs.declared.status.Status.TheVariants.{Moved, LinkFault, Unconfirmed, InDoubt, Differs, Aborted, ArcFailed}
use Rattle.vfm_move.specs.Contact.{Line, Lines}
use Rattle.vfm_move.specs.Table.{Answering, Channels, DigestAndGo, Digest, Front, FrontOfGo, GoSent, HasAnswer, HasAnswerIfUnheard, HasParts, Heard, MaybeNot, NoGo, Owner, Unsaid, WentOn, Whole, WholeGo, answering_at, channels_at, go_at, heard_at, owner_at, parts_at}
use Rattle.vfm_move.specs.Headline.{EndsWith, IsSafeRun}
use Rattle.vfm_move.specs.Carried.{AnswersAt, BringsState, HasAnswered, HasHeard, HasSaidGo, HasSent, IsCarried, IsFront, due}
use Rattle.vfm_move.specs.Causes.{Attempt, Brings, HasCause, IsAbortDue, IsExplained, has_passed}
use Rattle.vfm_move.specs.Complete.{IsComplete, IsToMove}
use Rattle.vfm_move.specs.Move.{GoesOn, HasEnded, IsDecided, IsHalfway, came_to, gone_on, joint_in}

-- ---- the journal

-- what an abort leaves as it was
pub kept : (D : Desc) (before later : List Entry) (final : Machine) → GoesOn D before later final
    → KeepsCopies D before later
kept D before later final goes =
    subst (λ (l : List Entry). KeepsCopies D before l) (sym goes.journal)
    (all_kept D before goes.more (subst (λ (l : List Entry). IsLegal D l) goes.journal goes.legal))

pub passed_same : (D : Desc) (n : ℕ) (before later : List Entry) → KeepsCopies D before later
    → has_passed D n later ≡ has_passed D n before
passed_same D n before later keeps = rw (keeps.passes, keeps.ended) refl

-- an arc that is in the longer list failed before the abort
failed_first : (before : List Entry) (d : ℕ) (to : MigState)
    → Contains (Abort ∷ []) (Fail d to) ⊎ Contains before (Fail d to)
    → Contains before (Fail d to)
failed_first before d to (inl first) = let e = is_it Abort (Fail d to) first in absurd cc
failed_first before d to (inr rest) = rest

failed_in : (D : Desc) (before more : List Entry) (d : ℕ) (to : MigState) (entry : Entry)
    → IsLegal D (entry ∷ more ++ Abort ∷ before)
    → (Contains (more ++ Abort ∷ before) (Fail d to) → Contains before (Fail d to))
    → Contains (entry ∷ []) (Fail d to) ⊎ Contains (more ++ Abort ∷ before) (Fail d to) → Contains before (Fail d to)
failed_in D before more d to entry legal later (inl first) =
    absurd (none_fails D before [] more d to (subst (λ (e : Entry). IsLegal D (e ∷ more ++ Abort ∷ before)) (is_it entry (Fail d to) first) legal))
failed_in D before more d to entry legal later (inr rest) = later rest

failed_before : (D : Desc) (before more : List Entry) (d : ℕ) (to : MigState) → IsLegal D (more ++ Abort ∷ before)
    → Contains (more ++ Abort ∷ before) (Fail d to) → Contains before (Fail d to)
failed_before D before [] d to legal has = failed_first before d to (Contains-append_cases (Abort ∷ []) before (Fail d to) has)
failed_before D before (entry ∷ more) d to legal has =
    failed_in D before more d to entry legal (failed_before D before more d to legal.2)
    (Contains-append_cases (entry ∷ []) (more ++ Abort ∷ before) (Fail d to) has)

pub fail_back : (D : Desc) (before later : List Entry) (final : Machine) (d : ℕ) (to : MigState)
    → GoesOn D before later final
    → Contains later (Fail d to) → Contains before (Fail d to)
fail_back D before later final d to goes has =
    failed_before D before goes.more d to (subst (λ (l : List Entry). IsLegal D l) goes.journal goes.legal)
    (subst (λ (l : List Entry). Contains l (Fail d to)) goes.journal has)

fail_on : (D : Desc) (before later : List Entry) (final : Machine) (d : ℕ) (to : MigState) → GoesOn D before later final
    → Contains before (Fail d to) → Contains later (Fail d to)
fail_on D before later final d to goes has =
    subst (λ (l : List Entry). Contains l (Fail d to)) (sym goes.journal)
    (Contains-append_right goes.more (Abort ∷ before) (Fail d to) (Contains-append_right (Abort ∷ []) before (Fail d to) has))

-- ---- what the links carried

due_same : (made : Made) (later : List Entry) (final : Machine) (k : ℕ) → KeepsCopies made.desc (source_past made) later
    → due (gone_on made later final) k ≡ due made k
due_same made later final k keeps =
    ap (λ (l : List Entry). share made.desc l k) (reverse-reverse later)
    ∙ ap (λ (all : List Sent). all_bytes (lane_packets made.desc k all)) keeps.sent

sent_on : (channels : Channels) (made : Made) (later : List Entry) (final : Machine) (k : ℕ) (sent : List ℕ)
    → due (gone_on made later final) k ≡ due made k → HasSent channels made k sent
    → HasSent channels (gone_on made later final) k sent
sent_on Whole made later final k sent same has =
    has ∙ ap (λ (bytes : List ℕ). bytes ++ packet_bytes (end_of made.desc.version made.desc.session)) (sym same)
sent_on Front made later final k sent same (inl front) =
    inl (subst (λ (bytes : List ℕ). IsFront sent (bytes ++ packet_bytes (end_of made.desc.version made.desc.session))) (sym same) front)
sent_on Front made later final k sent same (inr given) =
    inr (record {
      carried = given.carried;
      aborting = given.aborting;
      begun = subst (λ (bytes : List ℕ). IsFront given.carried bytes) (sym same) given.begun;
      cut = given.cut;
      both = given.both;
    })

if_some : {X : Type 0} (o : Option X) (P Q : X → Type 0) → ((x : X) → P x → Q x) → IfSome o P → IfSome o Q
if_some None P Q more is = tt
if_some (Some x) P Q more is = more x is

state_on : (status : Status) (made : Made) (later : List Entry) (final : Machine) (lines : Lines)
    → BringsState status made lines
    → BringsState status (gone_on made later final) lines
state_on Moved made later final lines is = is
state_on Differs made later final lines is = is
state_on status made later final lines is = tt

heard_on : (heard : Heard) (made : Made) (later : List Entry) (final : Machine) (lines : Lines)
    → HasHeard heard made lines
    → HasHeard heard (gone_on made later final) lines
heard_on DigestAndGo made later final lines is = is
heard_on Digest made later final lines is = is
heard_on Unsaid made later final lines is = tt

go_on : (go : GoSent) (made : Made) (later : List Entry) (final : Machine) (sent : List ℕ) → HasSaidGo go made sent
    → HasSaidGo go (gone_on made later final) sent
go_on WholeGo made later final sent is = is
go_on FrontOfGo made later final sent is = is
go_on NoGo made later final sent is = is

answered_on : (made : Made) (later : List Entry) (final : Machine) (lines : Lines) → HasAnswered made lines
    → HasAnswered (gone_on made later final) lines
answered_on made later final lines is = record { read_out = is.read_out; answered = is.answered }

answer_on : (answering : Answering) (made : Made) (later : List Entry) (final : Machine) (lines : Lines)
    → AnswersAt answering made lines
    → AnswersAt answering (gone_on made later final) lines
answer_on HasAnswer made later final lines is = answered_on made later final lines is
answer_on HasAnswerIfUnheard made later final lines is = λ rose. answered_on made later final lines (is rose)
answer_on MaybeNot made later final lines is = tt

carried_on : (status : Status) (made : Made) (later : List Entry) (final : Machine) (lines : Lines)
    → KeepsCopies made.desc (source_past made) later → IsCarried status made lines
    → IsCarried status (gone_on made later final) lines
carried_on status made later final lines keeps is =
    record {
      channels = λ k.
          if_some (slice_get lines.source k) (λ (line : Line). HasSent (channels_at status) made k line.sent)
          (λ (line : Line). HasSent (channels_at status) (gone_on made later final) k line.sent)
          (λ line. sent_on (channels_at status) made later final k line.sent (due_same made later final k keeps)) (is.channels k);
      state = state_on status made later final lines is.state;
      hands = record {
        heard = heard_on (heard_at status) made later final lines is.hands.heard;
        go = go_on (go_at status) made later final lines.source_control.sent is.hands.go;
        answer = answer_on (answering_at status) made later final lines is.hands.answer;
      };
    }

-- ---- why

due_abort : (attempt : Attempt) (pass : ℕ) (one other : Made) → other.desc ≡ one.desc
    → has_passed one.desc pass (source_past other) ≡ has_passed one.desc pass (source_past one)
    → IsAbortDue attempt pass one → IsAbortDue attempt pass other
due_abort attempt pass one other same passed due =
    record { asked = due.asked; some = due.some; passed = rw (same, passed) due.passed }

cause_on : (status at : Status) (attempt : Attempt) (made : Made) (later : List Entry) (final : Machine) (ends : ToldEnds)
    → GoesOn made.desc (source_past made) later final → HasCause status attempt (came_to at made ends)
    → HasCause status attempt (came_to at (gone_on made later final) ends)
cause_on (Aborted pass) at attempt made later final ends goes cause =
    due_abort attempt pass made (gone_on made later final) refl
    (ap (λ (l : List Entry). has_passed made.desc pass l) (reverse-reverse later)
    ∙ passed_same made.desc pass (source_past made) later (kept made.desc (source_past made) later final goes)) cause
cause_on (ArcFailed d to) at attempt made later final ends goes cause =
    subst (λ (l : List Entry). Contains l (Fail d to)) (sym (reverse-reverse later)) (fail_on made.desc (source_past made) later final d to goes cause)
cause_on (Unconfirmed ours theirs) at attempt made later final ends goes cause =
    (record { own = cause.0.own; digest = cause.0.digest; other = cause.0.other }, cause.1)
cause_on (InDoubt (Other ours theirs)) at attempt made later final ends goes cause =
    (record { own = cause.0.own; digest = cause.0.digest; other = cause.0.other }, cause.1)
cause_on (LinkFault Connect) at attempt made later final ends goes cause = cause
cause_on (LinkFault (Source k)) at attempt made later final ends goes cause = cause
cause_on (LinkFault (Destination k)) at attempt made later final ends goes cause = cause
cause_on (LinkFault Control) at attempt made later final ends goes cause = cause
cause_on (InDoubt Send) at attempt made later final ends goes cause = cause
cause_on (InDoubt Read) at attempt made later final ends goes cause = cause
cause_on (InDoubt (NoGoCame heard)) at attempt made later final ends goes cause = cause
cause_on status at attempt made later final ends goes cause = cause

brings_back : (brought at : Status) (attempt : Attempt) (made : Made) (later : List Entry) (final : Machine) (ends : ToldEnds)
    → GoesOn made.desc (source_past made) later final
    → Brings brought attempt (came_to at (gone_on made later final) ends)
    → Brings brought attempt (came_to at made ends)
brings_back (Aborted pass) at attempt made later final ends goes brings =
    due_abort attempt pass (gone_on made later final) made refl
    (sym (ap (λ (l : List Entry). has_passed made.desc pass l) (reverse-reverse later)
    ∙ passed_same made.desc pass (source_past made) later (kept made.desc (source_past made) later final goes))) brings
brings_back (ArcFailed d to) at attempt made later final ends goes brings =
    fail_back made.desc (source_past made) later final d to goes
    (subst (λ (l : List Entry). Contains l (Fail d to)) (reverse-reverse later) brings)
brings_back (Unconfirmed ours theirs) at attempt made later final ends goes brings =
    (brings.0, (record { own = brings.1.0.own; digest = brings.1.0.digest; other = brings.1.0.other }, brings.1.1))
brings_back (InDoubt (Other ours theirs)) at attempt made later final ends goes brings =
    (brings.0, (record { own = brings.1.0.own; digest = brings.1.0.digest; other = brings.1.0.other }, brings.1.1))
brings_back Differs at attempt made later final ends goes brings = (
  brings.0,
  record {
    machine = brings.1.machine;
    confirmed = brings.1.confirmed;
    brought = brings.1.brought;
    another = brings.1.another;
  },
)
brings_back (InDoubt (NoGoCame heard)) at attempt made later final ends goes brings = brings
brings_back (InDoubt Send) at attempt made later final ends goes brings = brings
brings_back (InDoubt Read) at attempt made later final ends goes brings = brings
brings_back status at attempt made later final ends goes brings = brings

explained_on : (status : Status) (attempt : Attempt) (made : Made) (later : List Entry) (final : Machine) (ends : ToldEnds)
    → GoesOn made.desc (source_past made) later final → IsExplained attempt (came_to status made ends)
    → IsExplained attempt (came_to status (gone_on made later final) ends)
explained_on status attempt made later final ends goes is =
    record {
      cause = cause_on status status attempt made later final ends goes is.cause;
      exact = λ brought brings. is.exact brought (brings_back brought status attempt made later final ends goes brings);
    }

-- ---- completeness

to_move_back : (attempt : Attempt) (made : Made) (later : List Entry) (final : Machine)
    → KeepsCopies made.desc (source_past made) later
    → IsToMove attempt (gone_on made later final) → IsToMove attempt made
to_move_back attempt made later final keeps (inl never) = inl never
to_move_back attempt made later final keeps (inr fewer) =
    inr (subst (λ (n : ℕ). n < attempt.abort_after) (ap pass_count (reverse-reverse later) ∙ keeps.passes) fewer)

complete_on : (status : Status) (attempt : Attempt) (made : Made) (later : List Entry) (final : Machine) (ends : ToldEnds)
    → KeepsCopies made.desc (source_past made) later → IsComplete attempt made (came_to status made ends)
    → IsComplete attempt (gone_on made later final) (came_to status (gone_on made later final) ends)
complete_on status attempt made later final ends keeps is =
    λ moves never none carry.
    is (to_move_back attempt made later final keeps moves) never none (record { told = carry.told; carry = carry.carry })

-- ---- parts and states

pub joint_same : (D : Desc) (l : List Entry) → is_some (joint_in D l) ≡ is_joint l
joint_same D l = by_cases (is_joint l) refl
  where
    by_cases : (b : Bool) → is_joint l ≡ b → is_some (joint_in D l) ≡ is_joint l
    by_cases true is = rw is refl
    by_cases false is = rw is refl

-- the parts of a source that went on
parts_went_on : (status : Status) (joint : Bool) → owner_at status ≡ WentOn
    → parts_at status joint ≡ (record { joint = joint; loaded = (parts_at status false).loaded; destination = false; final = true })
parts_went_on Moved joint on = absurd cc
parts_went_on (InDoubt doubt) joint on = absurd cc
parts_went_on status joint on = refl

pub parts_on : (status : Status) (made : Made) (later : List Entry) (final : Machine) → owner_at status ≡ WentOn
    → IsHalfway status made
    → KeepsCopies made.desc (source_past made) later → HasParts status (gone_on made later final)
parts_on status made later final on half keeps =
    let joint = ap is_some half.joint ∙ joint_same made.desc (source_past made) ∙ sym (ap is_joint (reverse-reverse later) ∙ keeps.joint) in
    rw (joint, half.loaded) (sym (parts_went_on status (is_joint (source_past (gone_on made later final))) on))

one_list : (made : Made) (later : List Entry) (final : Machine) → past (gone_on made later final) ≡ later
one_list made later final = ap reverse (append-nil (reverse later)) ∙ reverse-reverse later

joint_state : (D : Desc) (before later : List Entry) → IsValid D → IsLegal D later → KeepsCopies D before later
    → IfSome (joint_in D before) (λ m. plain D (delivers (before_joint (reverse later))) ≡ Some m)
joint_state D before later valid legal keeps = by_cases (is_joint before) refl
  where
    by_cases : (b : Bool) → is_joint before ≡ b
        → IfSome (joint_in D before) (λ m. plain D (delivers (before_joint (reverse later))) ≡ Some m)
    by_cases true is = rw is (joint_exists D valid later legal (keeps.joint ∙ is) ∙ ap Some keeps.machine)
    by_cases false is = rw is tt

-- a journal that stands has its state at the joint stop
pub joint_stands : (made : Made) → IsValid made.desc → IsLegal made.desc (source_past made)
    → IfSome (joint_in made.desc (source_past made)) (λ m. plain made.desc (delivers (before_joint made.source)) ≡ Some m)
joint_stands made valid legal =
    subst
    (λ (l : List Entry). IfSome (joint_in made.desc (source_past made)) (λ m. plain made.desc (delivers (before_joint l)) ≡ Some m))
    (reverse-reverse made.source)
    (joint_state made.desc (source_past made) (source_past made) valid legal
    (record { sent = refl; joint = refl; machine = refl; passes = refl; last = refl; ended = refl }))

pub safe_on : (status : Status) (made : Made) (later : List Entry) (final : Machine) → IsValid made.desc
    → owner_at status ≡ WentOn
    → IsHalfway status made → GoesOn made.desc (source_past made) later final
    → IsSafeRun status (gone_on made later final)
safe_on status made later final valid on half goes =
    record {
      run = record {
        legal = subst (λ (l : List Entry). IsLegal made.desc l) (sym (one_list made later final)) goes.legal;
        clean = subst (λ (l : List Entry). IsClean made.desc l) (sym (one_list made later final)) (legal_clean made.desc valid later goes.legal);
      };
      states = record {
        joint = subst (λ (o : Option Machine). IfSome o (λ m. plain made.desc (delivers (before_joint (reverse later))) ≡ Some m)) (sym half.joint)
            (joint_state made.desc (source_past made) later valid goes.legal (kept made.desc (source_past made) later final goes));
        final = ap (λ (l : List Entry). plain made.desc (delivers l)) (append-nil (reverse later))
            ∙ plain_exists made.desc valid later goes.legal ∙ ap Some goes.machine;
      };
      owner = subst (λ (owner : Owner). EndsWith owner (gone_on made later final)) (sym on)
          (record {
            went_on = subst (λ (l : List Entry). IsTrue (went_on made.desc l)) (sym (reverse-reverse later)) goes.went_on;
            not_taken_over = refl;
          });
    }

-- A decided move whose source went on has ended.
pub ended : (attempt : Attempt) (status : Status) (made : Made) (ends : ToldEnds) (later : List Entry) (final : Machine) → IsValid made.desc
    → owner_at status ≡ WentOn → IsDecided attempt status made ends → GoesOn made.desc (source_past made) later final
    → HasEnded attempt status (gone_on made later final) ends
ended attempt status made ends later final valid on decided goes =
    let keeps = kept made.desc (source_past made) later final goes in
    record {
      parts = parts_on status made later final on decided.halfway keeps;
      safe = safe_on status made later final valid on decided.halfway goes;
      explained = explained_on status attempt made later final ends goes decided.explained;
      carried = λ lines told. carried_on status made later final lines keeps (decided.carried lines told);
      complete = complete_on status attempt made later final ends keeps decided.complete;
    }
