-- What a move comes to by the answer that its source hears.
use Rattle.std.proofs.Common.{◌≡◌, ◌≢◌, ℕ, zero, suc, ◌<◌, ◌&&◌, true, false, List, [], ◌∷◌, length, map, slice_get, Option, None, Some, IfSome, Result, Ok, Err, IsTrue, IsFalse, is_some, unwrap_or, option_map, refl, ap, sym, ◌∙◌, subst, arith}
use Rattle.std.proofs.lemmas.Bool.{and_parts, cond-true, or_parts, true≢false}
use Rattle.std.specs.Option.{IsSomeAnd}
use Rattle.vfm_types.specs.declared.desc.Desc.{Desc}
use Rattle.vfm_types.specs.declared.entry.Entry.{Entry}
use Rattle.vfm_types.specs.declared.fault.LinkPlace.TheVariants.{Control, Destination, Source}
use Rattle.vfm_types.specs.declared.fault.Refusal.{Refusal}
use Rattle.vfm_types.specs.Blocks.{is_no_pass_open}
use Rattle.vfm_types.specs.Deliveries.{joint_machine, machine_of}
use Rattle.vfm_types.specs.Machine.{Machine}
use Rattle.vfm_types.specs.Phases.{is_aborted, is_failed, is_joint, is_last_begun, is_resumed}
use Rattle.vfm_laws.proofs.Cleanness.{legal_clean}
use Rattle.vfm_outside.specs.Counts.{Rose}
use Rattle.vfm_outside.specs.Links.{IsNew, Told, ToldEnds}
use Rattle.vfm_outside.specs.Told.{TellsNone}
use Rattle.vfm_copying.proofs.LastPass.{standing_machine}
use Rattle.vfm_core.specs.CoreState.{CoreState}
use Rattle.vfm_core.specs.Machines.{machine_in}
use Rattle.vfm_handshake.specs.declared.fault.SettleFault.{SettleFault}
use Rattle.vfm_handshake.specs.declared.fault.SettleFault.TheVariants as settling
use Rattle.vfm_handshake.specs.Control.{AnswersTo, SettledBy}
use Rattle.vfm_plain.specs.Ended.{is_last_ended}
use Rattle.vfm_plain.specs.Legal.{IsLegal}
use Rattle.vfm_plain.specs.Report.{Made}
use Rattle.vfm_plain.specs.StateText.{state_digest}
use Rattle.vfm_streams.specs.Verdict.{Loads, Refuses, Verdict}
use Rattle.vfm_control.specs.Frame.{frame_bytes}
use Rattle.vfm_dest.specs.StagedCores.{EndsFor, StagedState}
use Rattle.vfm_dest.specs.Stages.{core_of}
use Rattle.vfm_source.specs.declared.fault.OfferFault.{OfferFault}
use Rattle.vfm_source.specs.declared.fault.OfferFault.TheVariants as faults
use Rattle.vfm_source.specs.Moving.{past_in}
use Rattle.vfm_source.proofs.Moves.{machine_now}
use Rattle.vfm_status.specs.declared.status.Status.{Status}
use Rattle.vfm_status.specs.declared.status.Status.TheVariants.{Aborted, ArcFailed, Differs, LinkFault, NoControl, NoMemory, Refused, Unconfirmed}
use Rattle.vfm_move.specs.Contact.{Line, Linked, WhereTold, told_line, told_lines}
use Rattle.vfm_move.specs.Table.{Channels, Front, Whole, channels_at, parts_at}
use Rattle.vfm_move.specs.Carried.{ChannelsCarry, HasAnswered, HasSent, own_digest, verdict_frame, verdict_of}
use Rattle.vfm_move.specs.Causes.{Attempt, FailedIn, IsAbortDue, has_passed}
use Rattle.vfm_move.specs.Answered.{HasSettled, IsAnswered}
use Rattle.vfm_move.specs.Move.{IsDecided, IsUnanswered, IsUnheard, IsUnhindered, Stands}
use Rattle.vfm_move.proofs.Answered.{machines_differ, no_answer_heard, other_heard, own_confirmed, refusal_heard, refusal_unheeded}
use Rattle.vfm_move.proofs.Brought.{cut_unheard, linked_once, new_received}
use Rattle.vfm_move.proofs.Cases.{whole_front}
use Rattle.vfm_move.proofs.Unanswered as un
use Rattle.vfm_migrate.specs.Answers.{AwaitsAnswer, HasAnsweredBy, HearsAnswer, HeardNothing, StagedAs, receipt, status_of_offer, status_of_settle, with_source}
use Rattle.vfm_migrate.specs.Carrying.{IsReadyForGo, machine_of_staged}
use Rattle.vfm_migrate.specs.Offered.{ChannelsSent, IsOffered, NoneDue, made_so_far}
use Rattle.vfm_migrate.proofs.Links.{if_some}
use Rattle.vfm_migrate.proofs.Offers.{none_failed}

-- ---- what the channels carried, where their links tell

line_sent : (P : List ℕ → Type 0) (lines : List Line) (k : ℕ)
    → IfSome (slice_get (map told_line lines) k) (λ link. IfSome link.sent P)
    → IfSome (slice_get lines k) (λ line. P line.sent)
line_sent P [] k is = tt
line_sent P (line ∷ lines) zero is = is
line_sent P (line ∷ lines) (suc k) is = line_sent P lines k is

carry_where_told : (channels : Channels) (made : Made) (ends : ToldEnds) → ChannelsSent channels made ends.source
    → WhereTold (Linked ends) (ChannelsCarry channels made)
carry_where_told channels made ends sent lines told k =
    line_sent (HasSent channels made k) lines.source k
    (subst (λ (links : List Told). IfSome (slice_get links k) (λ link. IfSome link.sent (HasSent channels made k)))
    (ap (λ (e : ToldEnds). e.source) (linked_once ends (told_lines lines) told)) (sent k))

-- a link that is new, or over which nothing was heard, is unheard
none_short : (o : Option (List ℕ)) → TellsNone o → IfSome o (λ xs. length xs < 44)
none_short None none = tt
none_short (Some xs) none = subst (λ (l : List ℕ). length l < 44) (sym none) (omega arith)

pub unheard_new : (link : Told) → IsNew link → IsUnheard link
unheard_new link new = record { received = none_short link.received new.received; ended = new.ended }

pub unheard_nothing : (link : Told) → HeardNothing link → IsUnheard link
unheard_nothing link nothing = record
    { received = none_short link.received nothing.received; ended = nothing.still_open }

-- ---- the source

module _ (attempt : Attempt) (core : CoreState) (ends : ToldEnds) where
  abbrev D : Desc
  D = core.desc

  abbrev past : List Entry
  past = past_in core

  abbrev made : Made
  made = made_so_far core None

  stands : (result : Result (List ℕ) OfferFault) → IsOffered attempt.abort_after core ends.source result → Stands D past
  stands result offered =
      let open_ = or_parts (is_aborted past) (is_resumed past) offered.going in
      record {
        legal = offered.run.legal;
        clean = legal_clean D offered.fits.valid past offered.run.legal;
        not_aborted = open_.0;
        not_resumed = open_.1;
      }

  -- no answer was heard
  unanswered : (status : Status) (result : Result (List ℕ) OfferFault)
      → IsOffered attempt.abort_after core ends.source result
      → is_some made.loaded ≡ (parts_at status false).loaded → IsUnheard ends.source_control
      → IsUnheard ends.dest_control
      → TellsNone ends.source_control.sent → WhereTold (Linked ends) (ChannelsCarry (channels_at status) made)
      → IsUnanswered status made ends
  unanswered status result offered half source dest unsaid sent =
      record {
        stands = stands result offered;
        halfway = record { joint = refl; loaded = half };
        unheard = record { source = source; dest = dest; unsaid = unsaid };
        sent = sent;
      }

  -- what is due after a pass is what was asked for
  undue : (loaded : Option Machine) → NoneDue attempt.abort_after made → (pass : ℕ)
      → IsAbortDue attempt pass (made_so_far core loaded) → ⊥
  undue loaded none pass due =
      true≢false (sym due.passed ∙ subst (λ (n : ℕ). 0 < n → IsFalse (has_passed D n past)) due.asked none due.some)

  -- an offer that failed
  pub offer_failed : (fault : OfferFault) → IsOffered attempt.abort_after core ends.source (Err fault)
      → IsNew ends.source_control
      → IsUnheard ends.dest_control → IsDecided attempt (status_of_offer fault) made ends
  offer_failed (faults.Link k) offered new dest =
      un.source_failed attempt made ends k
      (unanswered (LinkFault (Source k)) (Err (faults.Link k)) offered refl (unheard_new ends.source_control new) dest
      new.sent
      (carry_where_told Front made ends offered.sent)) offered.why.0 offered.why.1
  offer_failed (faults.Aborted pass) offered new dest =
      un.pass_ended attempt made ends pass
      (unanswered (Aborted pass) (Err (faults.Aborted pass)) offered refl (unheard_new ends.source_control new) dest
      new.sent
      (carry_where_told Front made ends offered.sent)) offered.why.0
      (record { asked = offered.why.1; some = offered.why.2; passed = offered.why.3 })
  offer_failed (faults.ArcFailed d to) offered new dest =
      un.arc_failed attempt made ends d to offered.fits.valid
      (unanswered (ArcFailed d to) (Err (faults.ArcFailed d to)) offered refl (unheard_new ends.source_control new)
      dest new.sent
      (carry_where_told Front made ends offered.sent)) offered.why.0 (undue None offered.why.1)
  offer_failed faults.NoMemory offered new dest =
      un.memory_wanting attempt made ends
      (unanswered NoMemory (Err faults.NoMemory) offered refl (unheard_new ends.source_control new) dest new.sent
      (carry_where_told Front made ends offered.sent))

  -- ---- all was sent

  module _ (digest : List ℕ) (offered : IsOffered attempt.abort_after core ends.source (Ok digest)) where
    pub unhindered : (loaded : Option Machine) → IsUnhindered attempt (made_so_far core loaded)
    unhindered loaded =
        record {
          no_arc_failed = none_failed core offered.going offered.why.unfailed;
          no_abort_due = undue loaded offered.why.none_due;
        }

    whole : WhereTold (Linked ends) (ChannelsCarry Whole made)
    whole = carry_where_told Whole made ends offered.sent

    front : WhereTold (Linked ends) (ChannelsCarry Front made)
    front lines told k =
        if_some (slice_get lines.source k) (λ (line : Line). HasSent Whole made k line.sent)
        (λ (line : Line). HasSent Front made k line.sent)
        (λ line all. whole_front made k line.sent all) (whole lines told k)

    pub dest_failed : (k : ℕ) → IsNew ends.source_control → IsUnheard ends.dest_control → FailedIn ends.dest k
        → IsDecided attempt (LinkFault (Destination k)) made ends
    dest_failed k new dest failed =
        un.dest_failed attempt made ends k
        (unanswered (LinkFault (Destination k)) (Ok digest) offered refl (unheard_new ends.source_control new) dest
        new.sent whole) (unhindered None) failed

    pub memory_wanting : IsNew ends.source_control → IsUnheard ends.dest_control → IsDecided attempt NoMemory made ends
    memory_wanting new dest =
        un.memory_wanting attempt made ends
        (unanswered NoMemory (Ok digest) offered refl (unheard_new ends.source_control new) dest new.sent front)

    pub answer_failed : IsNew ends.source_control → IsUnheard ends.dest_control → Rose 0 ends.dest_control.failed_out
        → IsDecided attempt (LinkFault Control) made ends
    answer_failed new dest rose =
        un.answer_failed attempt made ends
        (unanswered (LinkFault Control) (Ok digest) offered refl (unheard_new ends.source_control new) dest new.sent
        whole) (unhindered None) rose new.failed_in

    -- the joint stop was reached
    pub joined : is_joint past ≡ true
    joined =
        (and_parts (is_joint past) (is_last_begun past)
        (and_parts (is_joint past && is_last_begun past) (is_no_pass_open D past) offered.why.copied).0).0

    pub joint_is : made.joint ≡ Some (joint_machine D past)
    joint_is = cond-true (is_joint past) (Some (joint_machine D past)) None joined

    pub own_is : digest ≡ own_digest made
    own_is =
        offered.why.own ∙ sym (ap (λ (o : Option Machine). unwrap_or (option_map (state_digest D) o) []) joint_is)

    -- the machine as it stands is that at the joint stop
    pub machine_is : machine_in core.world ≡ joint_machine D past
    machine_is =
        let open_ = or_parts (is_aborted past) (is_resumed past) offered.going in
        machine_now D past core.world offered.fits offered.run
        ∙ standing_machine D past offered.fits.valid offered.run.legal joined open_.0 open_.1

    -- the destination answered
    answered : (loaded : Option Machine) (v : Verdict) → HasAnsweredBy D v ends
        → WhereTold (Linked ends) (HasAnswered (made_so_far core loaded))
    answered loaded v has lines told =
        let same = linked_once ends (told_lines lines) told in
        let is = has lines.dest lines.dest_control (ap (λ (e : ToldEnds). e.dest) same)
        (ap (λ (e : ToldEnds). e.dest_control) same) in
        record {
          read_out = is.brought.read_out;
          answered = is.sent ∙ ap (λ (w : Verdict). frame_bytes (verdict_frame D w)) (sym is.brought.verdict);
        }

    is_answered : (loaded : Option Machine) (status : Status) (v : Verdict)
        → is_some loaded ≡ (parts_at status false).loaded
        → TellsNone ends.source_control.sent → HeardNothing ends.dest_control → HasAnsweredBy D v ends
        → IsAnswered status attempt (made_so_far core loaded) ends
    is_answered loaded status v half unsaid nothing has =
        record {
          valid = offered.fits.valid;
          stands = stands (Ok digest) offered;
          halfway = record { joint = refl; loaded = half };
          copied = offered.why.copied;
          unhindered = unhindered loaded;
          channels = offered.channels;
          unsaid = unsaid;
          unheard = unheard_nothing ends.dest_control nothing;
          carried = λ lines told. record { channels = whole lines told; answered = answered loaded v has lines told };
        }

    -- the source heard some bytes, and settles so to them
    has_settled : (loaded : Option Machine) (before : Told) (r : Result (Unit {0}) SettleFault)
        → TellsNone before.received
        → AnswersTo (receipt before ends.source_control) (λ bytes. SettledBy D.session digest bytes r)
        → HasSettled (made_so_far core loaded) ends r
    has_settled loaded before r none answers =
        record {
          bytes = answers.bytes;
          heard = record {
            fits = answers.heard.fits;
            came = new_received before.received ends.source_control answers.bytes none answers.heard.came;
            most = answers.heard.most;
            cut = answers.heard.cut;
          };
          settles = subst (λ (own : List ℕ). SettledBy D.session own answers.bytes r) own_is answers.answers;
        }

-- ---- the answer was heard, or another thing

-- a core with the machine of a list that was copied to its end
ends_for_of : (staged : CoreState) (D : Desc) (past : List Entry) → staged.desc ≡ D → IsLegal D past
    → IsTrue (is_last_ended D past)
    → IsFalse (is_aborted past) → IsFalse (is_resumed past) → IsFalse (is_failed past)
    → machine_of D past ≡ machine_in staged.world
    → EndsFor staged past
ends_for_of staged D past same legal ended not_aborted not_resumed not_failed machine =
    record {
      legal = subst (λ (E : Desc). IsLegal E past) (sym same) legal;
      ended = subst (λ (E : Desc). IsTrue (is_last_ended E past)) (sym same) ended;
      not_aborted = not_aborted;
      not_resumed = not_resumed;
      not_failed = not_failed;
      machine = ap (λ (E : Desc). machine_of E past) same ∙ machine;
    }

module _ (attempt : Attempt) (core : CoreState) (digest : List ℕ) (v : Verdict) (ends : ToldEnds) (now : Told)
    (waits : AwaitsAnswer attempt core digest ends) (has : HasAnsweredBy core.desc v ends) where
  abbrev later : ToldEnds
  later = with_source now ends

  unsaid : (r : Result (Unit {0}) SettleFault) → HearsAnswer core.desc.session digest ends.source_control now r
      → TellsNone now.sent
  unsaid r hears = subst TellsNone (sym hears.sent) waits.source.sent

  -- the source didn't hear its own digest
  pub heard_fault : (fault : SettleFault) → HearsAnswer core.desc.session digest ends.source_control now (Err fault)
      → IsDecided attempt (status_of_settle fault) (made_so_far core None) later
  heard_fault settling.Link hears =
      let cut = hears.settles.cut in
      un.answer_unheard attempt (made_so_far core None) later
      (unanswered attempt core later (LinkFault Control) (Ok digest) waits.offered refl
      (cut_unheard ends.source_control.received now hears.settles.bytes waits.source.received cut.came cut.few
      (cut.ended ∙ waits.source.ended))
      (unheard_nothing ends.dest_control waits.dest) (unsaid (Err settling.Link) hears)
      (whole attempt core later digest waits.offered))
      (unhindered attempt core later digest waits.offered None)
      (subst (λ (n : ℕ). Rose n now.failed_in) waits.source.failed_in (hears.fault refl))
      (answered attempt core later digest waits.offered None v has)
  heard_fault (settling.Refused why) hears =
      refusal_heard attempt (made_so_far core None) later why
      (is_answered attempt core later digest waits.offered None (Refused why) v refl
      (unsaid (Err (settling.Refused why)) hears) waits.dest has)
      (has_settled attempt core later digest waits.offered None ends.source_control (Err (settling.Refused why))
      waits.source.received hears.settles)
  heard_fault (settling.Unconfirmed ours theirs) hears =
      other_heard attempt (made_so_far core None) later ours theirs
      (is_answered attempt core later digest waits.offered None (Unconfirmed ours theirs) v refl
      (unsaid (Err (settling.Unconfirmed ours theirs)) hears) waits.dest has)
      (has_settled attempt core later digest waits.offered None ends.source_control
      (Err (settling.Unconfirmed ours theirs)) waits.source.received
      hears.settles)
  heard_fault (settling.NoControl bytes) hears =
      no_answer_heard attempt (made_so_far core None) later bytes
      (is_answered attempt core later digest waits.offered None (NoControl bytes) v refl
      (unsaid (Err (settling.NoControl bytes)) hears) waits.dest has)
      (has_settled attempt core later digest waits.offered None ends.source_control (Err (settling.NoControl bytes))
      waits.source.received
      hears.settles)

  -- it did
  settled : (loaded : Option Machine) → HearsAnswer core.desc.session digest ends.source_control now (Ok tt)
      → HasSettled (made_so_far core loaded) later (Ok tt)
  settled loaded hears =
      has_settled attempt core later digest waits.offered loaded ends.source_control (Ok tt) waits.source.received
      hears.settles

  -- this is the verdict on what came, where the links tell
  verdict_is : (loaded : Option Machine)
      → WhereTold (Linked later) (λ lines. verdict_of (made_so_far core loaded) lines ≡ v)
  verdict_is loaded lines told =
      let same = linked_once later (told_lines lines) told in
      (has lines.dest lines.dest_control (ap (λ (e : ToldEnds). e.dest) same)
      (ap (λ (e : ToldEnds). e.dest_control) same)).brought.verdict

  -- though the destination refused
  pub heard_own_refused : (why : Refusal) → v ≡ Refuses why
      → HearsAnswer core.desc.session digest ends.source_control now (Ok tt)
      → IsDecided attempt (Refused why) (made_so_far core None) later
  heard_own_refused why refuses hears =
      refusal_unheeded attempt (made_so_far core None) later why
      (is_answered attempt core later digest waits.offered None (Refused why) v refl (unsaid (Ok tt) hears) waits.dest
      has) (settled None hears)
      (λ lines told. verdict_is None lines told ∙ refuses)

  -- and another machine was staged
  pub heard_own_differs : (m : Machine) → v ≡ Loads m → m ≢ machine_in core.world
      → HearsAnswer core.desc.session digest ends.source_control now (Ok tt)
      → IsDecided attempt Differs (made_so_far core (Some m)) later
  heard_own_differs m loads other hears =
      machines_differ attempt (made_so_far core (Some m)) later
      (is_answered attempt core later digest waits.offered (Some m) Differs v refl (unsaid (Ok tt) hears) waits.dest
      has) (settled (Some m) hears)
      (subst (λ (o : Option Machine). IsSomeAnd o (λ joint. m ≢ joint))
      (sym (joint_is attempt core later digest waits.offered))
      (λ same. other (same ∙ sym (machine_is attempt core later digest waits.offered))))
      (λ lines told. verdict_is (Some m) lines told ∙ loads)

  -- and its own machine was staged
  pub heard_own_staged : (staged : StagedState) → v ≡ Loads (machine_of_staged staged)
      → machine_in core.world ≡ machine_of_staged staged
      → StagedAs core.desc staged → HearsAnswer core.desc.session digest ends.source_control now (Ok tt)
      → IsReadyForGo attempt core digest staged later
  heard_own_staged staged loads same as_is hears =
      let offered = waits.offered in
      let joint = joint_is attempt core later digest offered in
      let machine = machine_is attempt core later digest offered in
      let own = own_is attempt core later digest offered in
      let open_ = or_parts (is_aborted (past_in core)) (is_resumed (past_in core)) offered.going in
      record {
        confirmed =
            own_confirmed (LinkFault Control) attempt (made_so_far core None) later
            (is_answered attempt core later digest offered None (LinkFault Control) v refl (unsaid (Ok tt) hears)
            waits.dest has) (settled None hears)
            (λ lines told.
            subst (λ (o : Option Machine). IsSomeAnd o (λ m. verdict_of (made_so_far core None) lines ≡ Loads m))
            (sym joint)
            (verdict_is None lines told ∙ loads ∙ ap Loads (sym same ∙ machine)));
        valid = offered.fits.valid;
        own = own;
        staged_own =
            as_is.digest ∙ ap (state_digest core.desc) (sym same ∙ machine)
            ∙ sym (ap (λ (o : Option Machine). unwrap_or (option_map (state_digest core.desc) o) []) joint);
        desc = as_is.desc;
        ends_for =
            ends_for_of (core_of staged) core.desc (past_in core) as_is.desc offered.run.legal offered.why.copied
            open_.0 open_.1 offered.why.unfailed
            (sym (machine_now core.desc (past_in core) core.world offered.fits offered.run) ∙ same);
        unsent = unsaid (Ok tt) hears;
        sound_out = hears.failed_out ∙ waits.source.failed_out;
        unheard = waits.dest.received;
        still_open = waits.dest.still_open;
        sound_in = waits.dest.sound;
      }
