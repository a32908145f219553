-- What a call that asks for a generated load came to, from what its migration did.
use Rattle.std.proofs.Common.{◌≡◌, ◌⊎◌, ℕ, ◌<◌, ◌^◌, ◌++◌, List, [], reverse, Option, Some, None, IfSome, IsTrue, true, false, refl, sym, ◌∙◌, ap, inl, inr, subst}
use Rattle.std.specs.Prelude.{is_some, unwrap_or, ◌&&◌, Bool}
use Rattle.std.specs.Option.{IsSomeAnd}
use Rattle.std.proofs.lemmas.List.{append-nil, reverse-reverse}
use Rattle.std.proofs.lemmas.Bool.{and_parts, false≢true}
use Rattle.vfm_types.specs.declared.desc.Desc.{Desc}
use Rattle.vfm_types.specs.declared.entry.Entry.{Entry}
use Rattle.vfm_types.specs.Machine.{Machine}
use Rattle.vfm_types.specs.Deliveries.{delivers, machine_of}
use Rattle.vfm_types.specs.Requests.{plain}
use Rattle.vfm_types.specs.Phases.{is_aborted, is_joint, is_last_begun}
use Rattle.vfm_types.specs.declared.fault.LinkPlace.TheVariants.{Connect, Source, Destination, Control}
use Rattle.vfm_types.specs.Serial.{serial}
use Rattle.vfm_plain.specs.Ended.{has_ended}
use Rattle.vfm_plain.specs.Legal.{IsLegal}
use Rattle.vfm_plain.specs.Report.{Made, if_there, journal, past, source_past}
use Rattle.vfm_status.specs.declared.status.Status.{Status}
use Rattle.vfm_status.specs.declared.status.Status.TheVariants.{Moved, Printed, BadWords, BadDescription, ReadFault, WriteFault, LinkFault, InDoubt, Differs, PathRefused, Broken, BadReport, StateDiffers, NoMemory}
use Rattle.vfm_status.specs.StatusText.{status_line}
use Rattle.vfm_laws.proofs.Enabled.{plain_exists}
use Rattle.vfm_loads.specs.Generated.{generated}
use Rattle.vfm_loads.proofs.LoadValid.{generated_valid}
use Rattle.vfm_loads.proofs.AllOrders.{runs_end_alike}
use Rattle.vfm_move.specs.Contact.{Contact, Untouched, WhereTold}
use Rattle.vfm_move.specs.Carried.{IsCarried, verdict_of}
use Rattle.vfm_streams.specs.Verdict.{Loads}
use Rattle.vfm_move.specs.Headline.{IsOneRun, HasItsStates, IsSafeRun, EndsWith}
use Rattle.vfm_move.specs.Move as migrating
use Rattle.vfm_move.specs.Table.{Owner, TookOver, Neither, WentOn, HasParts, Parts, owner_at, parts_at, parts_of}
use Rattle.vfm_migrate.specs.Migrations.{CameTo}
use Rattle.vfm_top.specs.declared.words.Form.{Form}
use Rattle.vfm_top.specs.declared.words.Form.TheVariants.{Load}
use Rattle.vfm_top.specs.Call.{Call, attempt_in, IsPrinted}
use Rattle.vfm_top.specs.Form.{form_of}
use Rattle.vfm_top.specs.Load.{EndsLoad, IsLoad, PrintsLoad, RanOut, WasBrought}
use Rattle.vfm_top.specs.Table.{Reached}
use Rattle.vfm_top.specs.Causes.{LoadCause}
use Rattle.vfm_top.specs.Text.{load_report, summary, summed_up}
use Rattle.vfm_top.specs.Answers.{IsMoveOf, IsOutcome}

-- what a run that has ended delivers makes the serial machine
ended_serial : (N : ℕ) → N < 2 ^ 32 → (made : Made) (m : Machine) → made.desc ≡ generated N → IsLegal made.desc (past made)
    → has_ended made.desc (past made) ≡ true → plain made.desc (delivers (journal made)) ≡ Some m → m ≡ serial (generated N)
ended_serial N small made m is legal ended done =
    let lawful : IsLegal (generated N) (past made) = subst (λ (D : Desc). IsLegal D (past made)) is legal in
    let over : has_ended (generated N) (past made) ≡ true = ap (λ (D : Desc). has_ended D (past made)) (sym is) ∙ ended in
    let exists = plain_exists (generated N) (generated_valid N small) (past made) lawful in
    let here : plain (generated N) (delivers (journal made)) ≡ Some (machine_of (generated N) (past made)) =
    ap (λ (entries : List Entry). plain (generated N) (delivers entries)) (sym (reverse-reverse (journal made))) ∙ exists in
    let same : Some m ≡ Some (machine_of (generated N) (past made)) =
    sym done ∙ (ap (λ (D : Desc). plain D (delivers (journal made))) is ∙ here) in
    ap (λ (o : Option Machine). unwrap_or o m) same ∙ runs_end_alike N small (past made) lawful over

-- the source's journal is the whole, where there is no other
alone_past : (made : Made) → made.destination ≡ None → past made ≡ source_past made
alone_past made none =
    ap reverse (ap (λ (other : Option (List Entry)). made.source ++ unwrap_or other []) none ∙ append-nil made.source)

-- where an end runs, the run has ended
run_ended : (owner : Owner) (made : Made) → (owner ≡ Neither → ⊥) → EndsWith owner made → has_ended made.desc (past made) ≡ true
run_ended TookOver made some ends = ends.run_ended
run_ended Neither made some ends = absurd (some refl)
run_ended WentOn made some ends =
    ap (has_ended made.desc) (alone_past made ends.not_taken_over)
    ∙ (and_parts (has_ended made.desc (source_past made)) _ (and_parts (has_ended made.desc (source_past made) && is_aborted (source_past made)) _ ends.went_on).0).0

-- which parts there are
final_there : (status : Status) (joint : Bool) → (owner_at status ≡ Neither → ⊥) → (parts_at status joint).final ≡ true
final_there Moved joint some = refl
final_there (InDoubt doubt) joint some = absurd (some refl)
final_there Differs joint some = refl
final_there status joint some = refl

joint_there : (status : Status) (joint : Bool) → (parts_at status joint).joint ≡ joint
joint_there Moved joint = refl
joint_there (InDoubt doubt) joint = refl
joint_there Differs joint = refl
joint_there status joint = refl

some_is : {X : Type 0} (x : Option X) → is_some x ≡ true → (y : X) × (x ≡ Some y)
some_is None is = absurd (false≢true is)
some_is (Some x) is = (x, refl)

-- the machine that is summed up
record Summed (owner : Owner) (N : ℕ) (made : Made) : Type 0 where
  machine : Machine
  shown : summed_up owner made ≡ Some machine
  load : IsLoad owner N made machine

summed : (N : ℕ) → N < 2 ^ 32 → (owner : Owner) (made : Made) → made.desc ≡ generated N → (owner ≡ Neither → IsTrue (is_some made.joint))
    → ((owner ≡ Neither → ⊥) → IsTrue (is_some made.final)) → IsOneRun made → HasItsStates made → EndsWith owner made → Summed owner N made
summed N small TookOver made is joint final run states ends =
    let last = some_is made.final (final (λ same. cc)) in
    let done : plain made.desc (delivers (journal made)) ≡ Some last.0 =
    subst (λ (o : Option Machine). IfSome o (λ m. plain made.desc (delivers (journal made)) ≡ Some m)) last.1 states.final in
    record {
      machine = last.0;
      shown = last.1;
      load = ended_serial N small made last.0 is run.legal (run_ended TookOver made (λ same. cc) ends) done;
    }
summed N small WentOn made is joint final run states ends =
    let last = some_is made.final (final (λ same. cc)) in
    let done : plain made.desc (delivers (journal made)) ≡ Some last.0 =
    subst (λ (o : Option Machine). IfSome o (λ m. plain made.desc (delivers (journal made)) ≡ Some m)) last.1 states.final in
    record {
      machine = last.0;
      shown = last.1;
      load = ended_serial N small made last.0 is run.legal (run_ended WentOn made (λ same. cc) ends) done;
    }
summed N small Neither made is joint final run states ends =
    let stop = some_is made.joint (joint refl) in
    record { machine = stop.0; shown = stop.1; load = stop.1 }

-- at the joint stop, where neither end runs
doubt_joint : (owner : Owner) (made : Made) → owner ≡ Neither → EndsWith owner made → is_joint (source_past made) ≡ true
doubt_joint Neither made same ends =
    (and_parts (is_joint (source_past made)) _ (and_parts (is_joint (source_past made) && is_last_begun (source_past made)) _ ends.copied).0).0
doubt_joint TookOver made same ends = absurd cc
doubt_joint WentOn made same ends = absurd cc

-- what the wires brought, where the machine was moved
was_brought : (status : Status) (made : Made) (contact : Contact) → status ≡ Moved
    → WhereTold contact (λ lines. IsCarried status made lines) → WasBrought contact made
was_brought Moved made contact moved carried lines told =
    let here = carried lines told in
    some_and made.joint (λ m. verdict_of made lines ≡ Loads m) here.state here.hands.heard.0 here.hands.heard.1
  where
    some_and : (joint : Option Machine) (P : Machine → Type 0) → IsSomeAnd joint P
        → {A B : Type 0} → A → B → (m : Machine) × (joint ≡ Some m) × P m × A × B
    some_and None P is a b = absurd is
    some_and (Some m) P is a b = (m, refl, is, a, b)
was_brought status made contact moved carried lines told = absurd cc

-- where no source was made, memory ran out
only_memory : (status : Status) (call : Call) (contact : Contact) → Reached status None contact
    → LoadCause status call (record { status = status; made = None; contact = contact }) → status ≡ NoMemory
only_memory (LinkFault Connect) call contact reached cause = absurd reached
only_memory (LinkFault (Source k)) call contact reached cause = absurd reached
only_memory (LinkFault (Destination k)) call contact reached cause = absurd reached
only_memory (LinkFault Control) call contact reached cause = absurd reached
only_memory NoMemory call contact reached cause = refl
only_memory Printed call contact reached cause = absurd cause
only_memory BadWords call contact reached cause = absurd cause
only_memory (BadDescription fault) call contact reached cause = absurd cause
only_memory ReadFault call contact reached cause = absurd cause
only_memory WriteFault call contact reached cause = absurd cause
only_memory (PathRefused fault) call contact reached cause = absurd cause
only_memory (Broken place rule) call contact reached cause = absurd cause
only_memory (BadReport line) call contact reached cause = absurd cause
only_memory (StateDiffers section) call contact reached cause = absurd cause
only_memory status call contact reached cause = absurd reached

pub load_ends : (call : Call) (N : ℕ) (status : Status) (made : Option Made) (contact : Contact) → form_of call.words ≡ Some (Load N) → N < 2 ^ 32
    → IsOutcome call (record { status = status; made = made; contact = contact })
    → IsPrinted (load_report N status made) call.before.out call.now.out → call.answer ≡ status → EndsLoad N call ⊎ RanOut call
load_ends call N status None contact form small o printed answer =
    let memory : status ≡ NoMemory = only_memory status call contact o.reached (rw form at o.explained.cause) in
    inr
    (record {
      answer = answer ∙ memory;
      wires = o.untouched refl;
      printed = subst (λ (t : List ℕ). IsPrinted t call.before.out call.now.out) (append-nil (status_line status) ∙ ap status_line memory) printed;
    })
load_ends call N status (Some made) contact form small o printed answer =
    let is : made.desc ≡ generated N = rw form at o.move_of.asked in
    let moves : migrating.IsMoveOf (attempt_in call 0) (record { status = status; made = Some made; contact = contact }) made =
    rw form at o.move_of.move_of in
    let joint : is_some made.joint ≡ is_joint (source_past made) =
    ap (λ (parts : Parts). parts.joint) moves.parts ∙ joint_there status (is_joint (source_past made)) in
    let sum = summed N small (owner_at status) made is
    (λ neither. joint ∙ doubt_joint (owner_at status) made neither moves.safe.owner)
    (λ some. ap (λ (parts : Parts). parts.final) moves.parts ∙ final_there status (is_joint (source_past made)) some)
    moves.safe.run moves.safe.states moves.safe.owner in
    let shown : load_report N status (Some made) ≡ status_line status ++ summary N (generated N) sum.machine =
    ap (λ (o : Option Machine). status_line status ++ if_there (summary N made.desc) o) sum.shown
    ∙ ap (λ (D : Desc). status_line status ++ summary N D sum.machine) is in
    inl
    (record {
      made = made;
      contact = contact;
      machine = sum.machine;
      desc = is;
      move_of = rw answer moves;
      brought = λ moved. was_brought status made contact (sym answer ∙ moved) moves.carried;
      load = subst (λ (s : Status). IsLoad (owner_at s) N made sum.machine) (sym answer) sum.load;
      printed = subst (λ (s : Status). IsPrinted (status_line s ++ summary N (generated N) sum.machine) call.before.out call.now.out) (sym answer)
          (subst (λ (t : List ℕ). IsPrinted t call.before.out call.now.out) shown printed);
    })
