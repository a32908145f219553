-- What the answers of a call mean to a caller, from what the call does.
use Rattle.std.proofs.Common.{◌≡◌, ◌⊎◌, ℕ, List, [], length, Option, Some, None, IfSome, IsTrue, IsFalse, IsOk, Result, Ok, Err, refl, sym, ◌∙◌, ap, inl, inr, arith, subst, Bool, true, ◌<◌, ◌^◌}
use Rattle.std.specs.Prelude.{unwrap_or}
use Rattle.vfm_types.specs.declared.fault.LinkPlace.{LinkPlace}
use Rattle.vfm_types.specs.declared.fault.LinkPlace.TheVariants.{Connect}
use Rattle.vfm_types.specs.declared.state.MigState.{MigState}
use Rattle.vfm_types.specs.declared.state.PathFault.{PathFault}
use Rattle.vfm_types.specs.Deliveries.{before_joint, delivers}
use Rattle.vfm_types.specs.Machine.{Machine}
use Rattle.vfm_types.specs.Paths.{path_of}
use Rattle.vfm_types.specs.Requests.{plain}
use Rattle.vfm_types.specs.Valid.{IsValid}
use Rattle.vfm_outside.specs.Tells.{SourceTells}
use Rattle.vfm_outside.specs.Told.{with_prepended-nil}
use Rattle.vfm_plain.specs.Report.{Made, journal}
use Rattle.vfm_report.specs.Printed.{IsPrinted as IsPrintedMade}
use Rattle.vfm_audit.specs.Audited.{IsAuditOf, IsJointState}
use Rattle.vfm_audit.proofs.Audits.{clean_run, legal_run}
use Rattle.vfm_top.specs.declared.words.Form.{Form}
use Rattle.vfm_top.specs.declared.words.Form.TheVariants.{Run, Load, Audit, Paths}
use Rattle.vfm_status.specs.declared.status.Status.{Status}
use Rattle.vfm_status.specs.declared.status.Status.TheVariants.{Moved, Printed, BadWords, BadDescription, ReadFault, WriteFault, LinkFault, Refused, Unconfirmed, InDoubt, Differs, Aborted, ArcFailed, NoControl, PathRefused, Broken, BadReport, StateDiffers, NoMemory}
use Rattle.vfm_status.specs.declared.status.Doubt.{Doubt}
use Rattle.vfm_top.specs.Form.{form_of}
use Rattle.vfm_move.specs.Contact.{Contact, Untouched}
use Rattle.vfm_move.specs.Causes.{Story}
use Rattle.vfm_move.specs.Table.{Owner, WentOn, owner_at}
use Rattle.vfm_migrate.specs.Migrations.{CameTo}
use Rattle.vfm_top.specs.Table.{Reached, ReachedIf, is_of_move}
use Rattle.vfm_top.specs.Call.{Call, read_limit, report_limit, HasReadFault, HasReportFault, HasWriteFault, IsPrefixRead, IsPrinted}
use Rattle.vfm_top.specs.Text.{moved_text, text, load_report, report, audit_text, path_text, path_status}
use Rattle.vfm_top.specs.Causes.{is_run, is_audit, load_of, pass_of, reads_description, MoveCause, AuditCause, PathCause, CauseOf, BringsOf, HasCause, IsUnforeseen, OfReport, OfShownBytes}
use Rattle.vfm_top.specs.Outcome.{HasOutcome, nothing_made}
use Rattle.vfm_top.specs.Answers.{is_refusal, IsCounted, IsLegalReport, IsOutcome, Ends, Answers, HasNoFault, LeavesRest, LeavesMachine, Means, Promises}
use Rattle.vfm_top.proofs.Causes.{explained, machine_or_refusal}
use Rattle.vfm_top.specs.Load.{EndsLoad, RanOut}
use Rattle.vfm_top.proofs.Outcomes.{cause_of}
use Rattle.vfm_top.proofs.Loads.{load_ends}
use Rattle.std.proofs.lemmas.Option.{none-some}

-- where no failed write was counted, the call answers what it came to, and the text of that was printed
by_end : (call : Call) (status : Status) (printed : List ℕ) → Ends call.answer status printed call.before.out call.now.out
    → (HasWriteFault call → ⊥) → (call.answer ≡ status) × IsPrinted printed call.before.out call.now.out
by_end call status printed (inl e) unwritten = e
by_end call status printed (inr e) unwritten = absurd (unwritten e.1.rose)

answered : (call : Call) (a : Answers call) → (HasWriteFault call → ⊥) → call.answer ≡ a.story.status
answered call a unwritten = (by_end call a.story.status _ a.ends unwritten).0

-- an answer that isn't of a failed write is what the call came to, and the text of that was printed
was_printed : (call : Call) (answer status : Status) (printed : List ℕ) → call.answer ≡ answer → (answer ≡ WriteFault → ⊥)
    → Ends call.answer status printed call.before.out call.now.out → (call.answer ≡ status) × IsPrinted printed call.before.out call.now.out
was_printed call answer status printed is other (inl e) = e
was_printed call answer status printed is other (inr e) = absurd (other (sym is ∙ e.0))

-- ---- where the machine is

-- a status at which no source is made, but for want of memory
came_made : (status : Status) (contact : Contact) → CameTo status None contact → (status ≡ NoMemory → ⊥) → ⊥
came_made (LinkFault place) contact came other = no_source place contact came
  where
    no_source : (place : LinkPlace) (contact : Contact) → CameTo (LinkFault place) None contact → ⊥
    no_source Connect contact came = came
    no_source place contact came = came
came_made NoMemory contact came other = other refl
came_made status contact came other = absurd came

-- an audit comes to no status of a move but for want of memory
no_audit : (call : Call) (status : Status) (made : Made) (contact : Contact) → Reached status (Some made) contact → (status ≡ NoMemory → ⊥)
    → AuditCause status call → ⊥
no_audit call Printed made contact reached other cause = reached
no_audit call (Broken place rule) made contact reached other cause = reached
no_audit call (StateDiffers section) made contact reached other cause = reached
no_audit call (BadReport line) made contact reached other cause = reached
no_audit call (BadDescription fault) made contact reached other cause = reached
no_audit call ReadFault made contact reached other cause = reached
no_audit call NoMemory made contact reached other cause = other refl
no_audit call status made contact reached other cause = absurd cause

no_path : (answer : Result (List MigState) PathFault) (status : Status) (made : Made) (contact : Contact) → Reached status (Some made) contact
    → PathCause answer status → ⊥
no_path answer Printed made contact reached cause = reached
no_path answer (PathRefused fault) made contact reached cause = reached
no_path answer status made contact reached cause = absurd cause

no_words : (status : Status) (made : Made) (contact : Contact) → Reached status (Some made) contact → status ≡ BadWords → ⊥
no_words BadWords made contact reached is = reached
no_words status made contact reached is = absurd cc

-- where a source was made and memory didn't run out, the words ask for a move, so that its report is printed
report_of : (form : Option Form) (call : Call) (status : Status) (made : Made) (contact : Contact) (n : ℕ) → Reached status (Some made) contact
    → (status ≡ NoMemory → ⊥) → CauseOf form status call (record { status = status; made = Some made; contact = contact })
    → text form status (Some made) n ≡ moved_text form status (Some made)
report_of None call status made contact n reached other cause = absurd (no_words status made contact reached cause)
report_of (Some (Run pass)) call status made contact n reached other cause = refl
report_of (Some (Load number)) call status made contact n reached other cause = refl
report_of (Some Audit) call status made contact n reached other cause = absurd (no_audit call status made contact reached other cause)
report_of (Some (Paths from to flags)) call status made contact n reached other cause = absurd (no_path (path_of from to flags) status made contact reached cause)

-- a status of a move has what a migration came to
reached_came : (status : Status) (made : Option Made) (contact : Contact) → is_of_move status ≡ true → Reached status made contact
    → CameTo status made contact
reached_came status made contact move reached = subst (λ (b : Bool). ReachedIf b status made contact) move reached

-- where memory didn't run out, the machine is with its owner, and the report of that was printed
leaves : (call : Call) (status : Status) (made : Option Made) (contact : Contact) (n : ℕ) → is_of_move status ≡ true → (status ≡ NoMemory → ⊥)
    → IsOutcome call (record { status = status; made = made; contact = contact })
    → IsPrinted (text (form_of call.words) status made n) call.before.out call.now.out → call.answer ≡ status
    → LeavesMachine (owner_at call.answer) call
leaves call status None contact n move other o p e =
    absurd (came_made status contact (reached_came status None contact move o.reached) other)
leaves call status (Some made) contact n move other o p e =
    record {
      made = made;
      asked = o.move_of.asked;
      run = o.move_of.move_of.safe.run;
      states = o.move_of.move_of.safe.states;
      kept = rw e o.move_of.move_of.safe.owner;
      printed = rw e (subst (λ (t : List ℕ). IsPrinted t call.before.out call.now.out)
          (report_of (form_of call.words) call status made contact n o.reached other o.explained.cause) p);
    }

-- what a call came to, by the status that it answers
left_at : (call : Call) (a : Answers call) (status : Status) → call.answer ≡ status → (status ≡ WriteFault → ⊥) → is_of_move status ≡ true
    → (status ≡ NoMemory → ⊥) → LeavesMachine (owner_at status) call
left_at call a status is written move other =
    let p = was_printed call status a.story.status _ is written a.ends in
    let same : a.story.status ≡ status = sym p.0 ∙ is in
    subst (λ (s : Status). LeavesMachine (owner_at s) call) is
    (leaves call a.story.status a.story.made a.story.contact a.entries (ap is_of_move same ∙ move) (λ memory. other (sym same ∙ memory)) a.outcome p.1 p.0)

-- a refusal is a status of a move before which the source went on
refusal_moves : (status : Status) → IsTrue (is_refusal status) → is_of_move status ≡ true
refusal_moves (LinkFault place) is = refl
refusal_moves (Refused refusal) is = refl
refusal_moves (Unconfirmed ours theirs) is = refl
refusal_moves Differs is = refl
refusal_moves (Aborted pass) is = refl
refusal_moves (ArcFailed d to) is = refl
refusal_moves (NoControl heard) is = refl
refusal_moves status is = absurd cc

refusal_owner : (status : Status) → IsTrue (is_refusal status) → owner_at status ≡ WentOn
refusal_owner (LinkFault place) is = refl
refusal_owner (Refused refusal) is = refl
refusal_owner (Unconfirmed ours theirs) is = refl
refusal_owner Differs is = refl
refusal_owner (Aborted pass) is = refl
refusal_owner (ArcFailed d to) is = refl
refusal_owner (NoControl heard) is = refl
refusal_owner status is = absurd cc

not_written : (status : Status) → IsTrue (is_refusal status) → status ≡ WriteFault → ⊥
not_written WriteFault is same = cc
not_written status is same = cc

not_memory : (status : Status) → IsTrue (is_refusal status) → status ≡ NoMemory → ⊥
not_memory NoMemory is same = cc
not_memory status is same = cc

kept : (call : Call) → Answers call → IsTrue (is_refusal call.answer) → LeavesMachine WentOn call
kept call a is =
    subst (λ (o : Owner). LeavesMachine o call) (refusal_owner call.answer is)
    (left_at call a call.answer refl (not_written call.answer is) (refusal_moves call.answer is) (not_memory call.answer is))

-- a described machine that was migrated, or not, for want of memory
moves_as : (call : Call) (pass : ℕ) (status : Status) (made : Option Made) (contact : Contact) (n : ℕ)
    → OfShownBytes call (λ answer. IsOk answer) → (HasReadFault call → ⊥)
    → IsOutcome call (record { status = status; made = made; contact = contact })
    → MoveCause pass status call (record { status = status; made = made; contact = contact })
    → IsPrinted (text (form_of call.words) status made n) call.before.out call.now.out → call.answer ≡ status
    → LeavesMachine (owner_at call.answer) call ⊎ (call.answer ≡ NoMemory)
moves_as call pass ReadFault made contact n shown unread o cause p e = absurd (unread cause)
moves_as call pass (BadDescription fault) made contact n shown unread o cause p e = absurd (machine_or_refusal call fault cause shown)
moves_as call pass NoMemory made contact n shown unread o cause p e = inr e
moves_as call pass Printed made contact n shown unread o cause p e = absurd cause.1
moves_as call pass BadWords made contact n shown unread o cause p e = absurd cause.1
moves_as call pass WriteFault made contact n shown unread o cause p e = absurd cause.1
moves_as call pass (PathRefused fault) made contact n shown unread o cause p e = absurd cause.1
moves_as call pass (Broken place rule) made contact n shown unread o cause p e = absurd cause.1
moves_as call pass (BadReport line) made contact n shown unread o cause p e = absurd cause.1
moves_as call pass (StateDiffers section) made contact n shown unread o cause p e = absurd cause.1
moves_as call pass status made contact n shown unread o cause p e = inl (leaves call status made contact n refl (λ is. cc) o p e)

-- ---- why

-- words without a form have one status
no_form : (form : Option Form) (call : Call) (story : Story) → form ≡ None → CauseOf form story.status call story → story.status ≡ BadWords
no_form None call story none cause = cause
no_form (Some form) call story none cause = absurd cc

-- a failed read is answered only where one was counted
failed : (form : Option Form) (call : Call) (story : Story) → CauseOf form ReadFault call story → HasReadFault call ⊎ HasReportFault call
failed None call story cause = absurd cc
failed (Some (Run pass)) call story cause = inl cause
failed (Some (Load number)) call story cause = absurd cause
failed (Some Audit) call story (inl read) = inl read
failed (Some Audit) call story (inr report) = inr report.counted
failed (Some (Paths from to flags)) call story cause = absurd cause

failed_as : (call : Call) (story : Story) → HasCause call story → story.status ≡ ReadFault → HasReadFault call ⊎ HasReportFault call
failed_as call story cause is =
    failed (form_of call.words) call story (subst (λ (s : Status). CauseOf (form_of call.words) s call story) is cause)

none_failed : (call : Call) (story : Story) → HasNoFault call → CauseOf (form_of call.words) ReadFault call story → ⊥
none_failed call story none cause = either (failed (form_of call.words) call story cause)
  where
    either : HasReadFault call ⊎ HasReportFault call → ⊥
    either (inl fault) = none.read fault
    either (inr fault) = none.report fault

-- a call that asks for a move reads no report
move_failed : (form : Option Form) (call : Call) (pass : ℕ) (story : Story) → form ≡ Some (Run pass) → (HasReadFault call → ⊥)
    → CauseOf form ReadFault call story → ⊥
move_failed form call pass story is read cause = read (rw is at cause)

-- what is brought for sure is answered, or memory ran out, where no read failed
brought_or : (form : Option Form) (call : Call) (story : Story) (status brought : Status) → CauseOf form status call story
    → (CauseOf form ReadFault call story → ⊥)
    → (status ≡ brought) ⊎ IsUnforeseen status → (status ≡ brought) ⊎ (status ≡ NoMemory)
brought_or form call story status brought cause read (inl is) = inl is
brought_or form call story ReadFault brought cause read (inr other) = absurd (read cause)
brought_or form call story NoMemory brought cause read (inr other) = inr refl
brought_or form call story status brought cause read (inr other) = absurd other

-- what brings a status to a call that asks for a move
brings_run : (form : Option Form) (call : Call) (pass : ℕ) (status : Status) → form ≡ Some (Run pass) → BringsOf (Some (Run pass)) status call
    → BringsOf form status call
brings_run form call pass status is brought = rw is brought

-- what an audit that found a report legal says of it
legal_report : (made : Made) → IsValid made.desc → IsPrintedMade made → IsAuditOf made (Ok (length (journal made))) → IsLegalReport made
legal_report made valid printed found =
    let legal = legal_run made printed found.0 in
    record {
      run = record { legal = legal; clean = clean_run made valid legal };
      states = record { joint = joint_state made.joint found.1; final = found.2 };
    }
  where
    joint_state : (joint : Option Machine) → IfSome joint (IsJointState made.desc made.source)
        → IfSome joint (λ m. plain made.desc (delivers (before_joint made.source)) ≡ Some m)
    joint_state None is = tt
    joint_state (Some m) is = is.machine

legal_audit : (form : Option Form) (call : Call) (story : Story) → form ≡ Some Audit → CauseOf form Printed call story → OfReport call IsLegalReport
legal_audit None call story is cause = absurd cc
legal_audit (Some (Run pass)) call story is cause = absurd cc
legal_audit (Some (Load number)) call story is cause = absurd cc
legal_audit (Some Audit) call story is cause =
    record {
      made = cause.made;
      valid = cause.valid;
      described = cause.described;
      printed = cause.printed;
      reported = cause.reported;
      found = legal_report cause.made cause.valid cause.printed cause.found;
    }
legal_audit (Some (Paths from to flags)) call story is cause = absurd cc

-- a failed write is answered only where one was counted
no_write : (form : Option Form) (call : Call) (story : Story) → CauseOf form WriteFault call story → ⊥
no_write None call story cause = absurd cc
no_write (Some (Run pass)) call story cause = cause.1
no_write (Some (Load number)) call story cause = cause
no_write (Some Audit) call story cause = cause
no_write (Some (Paths from to flags)) call story cause = cause

unwritten : (call : Call) (story : Story) (printed : List ℕ) → HasCause call story
    → Ends call.answer story.status printed call.before.out call.now.out → call.answer ≡ WriteFault → HasWriteFault call
unwritten call story printed cause (inl e) is =
    absurd (no_write (form_of call.words) call story (subst (λ (s : Status). CauseOf (form_of call.words) s call story) (sym e.0 ∙ is) cause))
unwritten call story printed cause (inr e) is = e.1.rose

-- what is to be said of a generated load
abbrev pub LoadsOf : Call → Type 0
LoadsOf call = (number : ℕ) → form_of call.words ≡ Some (Load number) → (HasWriteFault call → ⊥) → EndsLoad number call ⊎ RanOut call

means : (call : Call) → Answers call → LoadsOf call → Means call
means call a loads =
    record {
      moved = λ is. left_at call a Moved is (λ same. cc) refl (λ same. cc);
      kept = kept call a;
      in_doubt = λ doubt is. left_at call a (InDoubt doubt) is (λ same. cc) refl (λ same. cc);
      bad_words = λ none quiet. answered call a quiet ∙ no_form (form_of call.words) call a.story none a.outcome.explained.cause;
      moves = λ pass form bytes unread quiet.
          let p = by_end call a.story.status _ a.ends quiet in
          moves_as call pass a.story.status a.story.made a.story.contact a.entries bytes unread a.outcome (rw form at a.outcome.explained.cause) p.1 p.0;
      refuses = λ pass fault form bytes unread quiet. rw (answered call a quiet)
          (brought_or (form_of call.words) call a.story a.story.status (BadDescription fault) a.outcome.explained.cause
          (move_failed (form_of call.words) call pass a.story form unread)
          (a.outcome.explained.exact (BadDescription fault) (brings_run (form_of call.words) call pass (BadDescription fault) form bytes)));
      loads = loads;
      legal = λ form is.
          let p = was_printed call Printed a.story.status _ is (λ same. cc) a.ends in
          legal_audit (form_of call.words) call a.story form
          (subst (λ (s : Status). CauseOf (form_of call.words) s call a.story) (sym p.0 ∙ is) a.outcome.explained.cause);
      brings = λ brought shown none. rw (answered call a none.write)
          (brought_or (form_of call.words) call a.story a.story.status brought a.outcome.explained.cause (none_failed call a.story none)
          (a.outcome.explained.exact brought shown));
      read_fault = λ is.
          let p = was_printed call ReadFault a.story.status _ is (λ same. cc) a.ends in
          failed_as call a.story a.outcome.explained.cause (sym p.0 ∙ is);
      write_fault = unwritten call a.story _ a.outcome.explained.cause a.ends;
    }

promises : (call : Call) → Answers call → LeavesRest call → LoadsOf call → Promises call
promises call a rest loads = record { answers = a; leaves = rest; means = means call a loads }

-- words that ask for no load
no_load : (call : Call) (form : Option Form) → form_of call.words ≡ form → load_of form ≡ None → LoadsOf call
no_load call form is none = λ number load quiet. absurd (none-some number (sym none ∙ ap load_of (sym is ∙ load)))

-- ---- each form

-- a path needs no source
no_source : (answer : Result (List MigState) PathFault) → Reached (path_status answer) None Untouched
no_source (Ok route) = tt
no_source (Err fault) = tt

-- nothing was read of a source that is as it was
none_read : (most : ℕ) (before now : SourceTells) → now ≡ before → IsPrefixRead most before now
none_read most before now same =
    record { bytes = []; few = omega arith; read = sym (with_prepended-nil now.left ∙ ap (λ source. source.left) same) }

-- a call that left its sources and wires as they were
untouched : (call : Call) → call.now.desc ≡ call.before.desc → call.now.report ≡ call.before.report → call.now.wires ≡ call.before.wires → LeavesRest call
untouched call desc report wires =
    record {
      wires = λ other. wires;
      unaudited = λ other. report;
      unread = λ other. desc;
      read = none_read read_limit call.before.desc call.now.desc desc;
      report_read = none_read report_limit call.before.report call.now.report report;
    }

-- words without a form are refused
pub without_form : (call : Call) → form_of call.words ≡ None → call.now.desc ≡ call.before.desc → call.now.report ≡ call.before.report
    → call.now.wires ≡ call.before.wires → Ends call.answer BadWords (report BadWords None) call.before.out call.now.out → Promises call
without_form call form desc rest wires ends =
    promises call
    (record {
      story = nothing_made BadWords;
      entries = 0;
      outcome = record {
        reached = tt;
        explained = explained call BadWords (cause_of call None (nothing_made BadWords) form refl);
        move_of = tt;
        untouched = λ none. wires;
        no_read_failed = λ other. (ap (λ source. source.faults) desc, ap (λ source. source.faults) rest);
      };
      counted = rw form tt;
      ends = rw form ends;
    })
    (untouched call desc rest wires)
    (no_load call None form refl)

-- why a path is answered as it is
path_cause : (answer : Result (List MigState) PathFault) → PathCause answer (path_status answer)
path_cause (Ok route) = refl
path_cause (Err fault) = refl

-- a path is answered
pub with_path : (call : Call) (from to : MigState) (flags : ℕ) → form_of call.words ≡ Some (Paths from to flags) → call.now.desc ≡ call.before.desc
    → call.now.report ≡ call.before.report → call.now.wires ≡ call.before.wires
    → Ends call.answer (path_status (path_of from to flags)) (path_text (path_of from to flags)) call.before.out call.now.out → Promises call
with_path call from to flags form desc rest wires ends =
    let answer = path_of from to flags in
    promises call
    (record {
      story = nothing_made (path_status answer);
      entries = 0;
      outcome = record {
        reached = no_source answer;
        explained = explained call (path_status answer)
            (cause_of call (Some (Paths from to flags)) (nothing_made (path_status answer)) form (path_cause answer));
        move_of = tt;
        untouched = λ none. wires;
        no_read_failed = λ other. (ap (λ source. source.faults) desc, ap (λ source. source.faults) rest);
      };
      counted = rw form tt;
      ends = rw form ends;
    })
    (untouched call desc rest wires)
    (no_load call (Some (Paths from to flags)) form refl)

-- words that ask for a move, with the pass that they name
pub asked_run : (form : Option Form) → IsTrue (is_run form) → (pass : ℕ) → pass ≡ pass_of form → load_of form ≡ None → form ≡ Some (Run pass)
asked_run None run pass named unloaded = absurd cc
asked_run (Some (Run named)) run pass is unloaded = rw is refl
asked_run (Some (Load number)) run pass named unloaded = absurd cc
asked_run (Some Audit) run pass named unloaded = absurd cc
asked_run (Some (Paths from to flags)) run pass named unloaded = absurd cc

-- words that ask for a move read a description, and no report
pub with_move : (call : Call) (pass : ℕ) (status : Status) (made : Option Made) → form_of call.words ≡ Some (Run pass) → HasOutcome call status made
    → IsPrefixRead read_limit call.before.desc call.now.desc → call.now.report ≡ call.before.report
    → Ends call.answer status (report status made) call.before.out call.now.out → Promises call
with_move call pass status made form has read rest ends =
    promises call
    (record {
      story = record { status = status; made = made; contact = has.contact };
      entries = 0;
      outcome = has.outcome;
      counted = rw form tt;
      ends = rw form ends;
    })
    (record {
      wires = λ other. absurd (asks_no_move (form_of call.words) form other);
      unaudited = λ other. rest;
      unread = λ other. absurd (reads_nothing (form_of call.words) form other);
      read = read;
      report_read = none_read report_limit call.before.report call.now.report rest;
    })
    (no_load call (Some (Run pass)) form refl)
  where
    asks_no_move : (form : Option Form) → form ≡ Some (Run pass) → IsFalse (is_run form) → ⊥
    asks_no_move form is other = cc

    reads_nothing : (form : Option Form) → form ≡ Some (Run pass) → IsFalse (reads_description form) → ⊥
    reads_nothing form is other = cc

-- words that ask for an audit are answered by what the audit came to
pub with_audit : (call : Call) (status : Status) (entries : ℕ) → form_of call.words ≡ Some Audit → IsOutcome call (nothing_made status)
    → IsCounted (Some Audit) status entries call → IsPrefixRead read_limit call.before.desc call.now.desc
    → IsPrefixRead report_limit call.before.report call.now.report → call.now.wires ≡ call.before.wires
    → Ends call.answer status (audit_text status entries) call.before.out call.now.out → Promises call
with_audit call status entries form outcome counted read report_read wires ends =
    promises call
    (record { story = nothing_made status; entries = entries; outcome = outcome; counted = rw form counted; ends = rw form ends })
    (record {
      wires = λ other. wires;
      unaudited = λ other. absurd (no_audit_form (form_of call.words) form other);
      unread = λ other. absurd (no_reader (form_of call.words) form other);
      read = read;
      report_read = report_read;
    })
    (no_load call (Some Audit) form refl)
  where
    no_audit_form : (form : Option Form) → form ≡ Some Audit → IsFalse (is_audit form) → ⊥
    no_audit_form form is other = absurd cc

    no_reader : (form : Option Form) → form ≡ Some Audit → IsFalse (reads_description form) → ⊥
    no_reader form is other = absurd cc

-- words that ask for a load, with its number
pub asked_load : (form : Option Form) (N : ℕ) → load_of form ≡ Some N → form ≡ Some (Load N)
asked_load (Some (Load M)) N is = ap (λ (o : Option ℕ). Some (Load (unwrap_or o N))) is
asked_load None N is = absurd cc
asked_load (Some (Run pass)) N is = absurd cc
asked_load (Some Audit) N is = absurd cc
asked_load (Some (Paths from to flags)) N is = absurd cc

-- words that ask for a load read nothing
pub with_load : (call : Call) (N : ℕ) (status : Status) (made : Option Made) → form_of call.words ≡ Some (Load N) → N < 2 ^ 32
    → HasOutcome call status made → call.now.desc ≡ call.before.desc → call.now.report ≡ call.before.report
    → Ends call.answer status (load_report N status made) call.before.out call.now.out → Promises call
with_load call N status made form small has unread rest ends =
    promises call
    (record {
      story = record { status = status; made = made; contact = has.contact };
      entries = 0;
      outcome = has.outcome;
      counted = rw form tt;
      ends = rw form ends;
    })
    (record {
      wires = λ other. absurd (asks_no_move (form_of call.words) form other);
      unaudited = λ other. rest;
      unread = λ other. unread;
      read = none_read read_limit call.before.desc call.now.desc unread;
      report_read = none_read report_limit call.before.report call.now.report rest;
    })
    (λ number load quiet.
    let same : N ≡ number = ap (λ (form : Option Form). unwrap_or (load_of form) 0) (sym form ∙ load) in
    subst (λ (number : ℕ). EndsLoad number call ⊎ RanOut call) same
    (let p = by_end call status _ ends quiet in
    load_ends call N status made has.contact form small has.outcome p.1 p.0))
  where
    asks_no_move : (form : Option Form) → form ≡ Some (Load N) → IsFalse (is_run form) → ⊥
    asks_no_move form is other = cc
