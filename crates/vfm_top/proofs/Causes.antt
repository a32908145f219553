-- A cause explains its status: nothing else that can be seen brings another.
use Rattle.std.proofs.Common.{◌≡◌, ◌⊎◌, ℕ, List, Option, Some, None, IfSome, Result, Ok, Err, IsOk, refl, sym, ◌∙◌, ap, inl, inr, subst, length, ◌<◌, ◌≤◌, arith, Contains}
use Rattle.std.specs.Option.{IsSomeAnd}
use Rattle.vfm_types.specs.declared.desc.Desc.{Desc}
use Rattle.vfm_types.specs.declared.fault.DescFault.{DescFault}
use Rattle.vfm_types.specs.declared.entry.Rule.{Rule}
use Rattle.vfm_types.specs.declared.state.PathFault.{PathFault}
use Rattle.vfm_types.specs.declared.state.MigState.{MigState}
use Rattle.vfm_types.specs.Paths.{path_of}
use Rattle.vfm_types.specs.declared.entry.Entry.TheVariants.{Fail}
use Rattle.vfm_outside.specs.Links.{ToldEnds}
use Rattle.vfm_plain.specs.Report.{Made, journal, source_past}
use Rattle.vfm_desc.specs.Described.{description_of}
use Rattle.vfm_report.specs.Reports.{IsReport, IsBadLine}
use Rattle.vfm_report.proofs.Whole.{clear, one-bad-line, one-report}
use Rattle.vfm_audit.specs.Audited.{IsAuditOf}
use Rattle.vfm_audit.specs.declared.fault.Section.{Section}
use Rattle.vfm_audit.proofs.Audits.{one_result}
use Rattle.vfm_audit.specs.declared.fault.ReportFault.{ReportFault}
use Rattle.vfm_audit.specs.declared.fault.ReportFault.TheVariants.{Broken as RuleBroken, StateDiffers as OtherState, NoMemory as OutOfMemory}
use Rattle.vfm_top.specs.declared.words.Form.{Form}
use Rattle.vfm_top.specs.declared.words.Form.TheVariants.{Run, Load, Audit, Paths}
use Rattle.vfm_status.specs.declared.status.Status.{Status}
use Rattle.vfm_status.specs.declared.status.Doubt.TheVariants.{NoGo, Other}
use Rattle.vfm_status.specs.declared.status.Status.TheVariants.{Printed, BadDescription, ReadFault, NoMemory, PathRefused, Broken, BadReport, StateDiffers, Unconfirmed, InDoubt, Differs, Aborted, ArcFailed, NoControl}
use Rattle.vfm_top.specs.Form.{form_of}
use Rattle.vfm_move.specs.Contact.{AreTold, Contact, Untouched, Failed, Linked, IsLinkedAnd}
use Rattle.vfm_move.specs.Causes as migrating
use Rattle.vfm_move.specs.Causes.{Attempt, IsAbortDue, Story}
use Rattle.vfm_top.specs.Call.{Call, attempt_in, bytes_read, report_read}
use Rattle.vfm_top.specs.Sources.{IsShortReport, IsBadReport, most_of_report, status_of_audit}
use Rattle.vfm_top.specs.Causes.{OfDescription, OfReport, OfBadReport, OfShownBytes, OfShownReport, OfShownBadReport, LoadCause, MoveCause, AuditCause, PathCause, CauseOf, AuditBrings, BringsOf, MoveBrings, HasCause, IsUnforeseen, IsExplained}
use Rattle.vfm_top.specs.Outcome.{nothing_made}

-- of shown bytes one thing holds
of_shown : (P Q : Result Desc DescFault → Type 0) {X : Type 0} (bytes : Option (List ℕ))
    → ((answer : Result Desc DescFault) → P answer → Q answer → X)
    → IfSome bytes (λ read. P (description_of read)) → IsSomeAnd bytes (λ read. Q (description_of read)) → X
of_shown P Q None both p q = absurd q
of_shown P Q (Some read) both p q = both (description_of read) p q

-- of a shown report too
of_printed : (P Q : List ℕ → Type 0) {X : Type 0} (bytes : Option (List ℕ)) → ((read : List ℕ) → P read → Q read → X)
    → IfSome bytes P → IsSomeAnd bytes Q → X
of_printed P Q None both p q = absurd q
of_printed P Q (Some read) both p q = both read p q

ok_no_fault : {A E : Type 0} (fault : E) (answer : Result A E) → IsOk answer → answer ≡ Err fault → ⊥
ok_no_fault fault (Ok x) ok is = absurd cc
ok_no_fault fault (Err x) ok is = cc

this_no_fault : {A E : Type 0} (x : A) (fault : E) (answer : Result A E) → answer ≡ Ok x → answer ≡ Err fault → ⊥
this_no_fault x fault answer is other = cc

same_fault : (x y : DescFault) (answer : Result Desc DescFault) → answer ≡ Err x → answer ≡ Err y → BadDescription x ≡ BadDescription y
same_fault x y answer p q = cc

same_machine : {E : Type 0} (x y : Desc) (answer : Result Desc E) → answer ≡ Ok x → answer ≡ Ok y → x ≡ y
same_machine x y answer p q = cc

same_refusal : (x y : PathFault) (answer : Result (List MigState) PathFault) → answer ≡ Err x → answer ≡ Err y → PathRefused x ≡ PathRefused y
same_refusal x y answer p q = cc

-- an audit found in two reports of the same bytes is one
one_audit : (call : Call) (x y : Made → Result ℕ ReportFault) (c : OfReport call (λ made. IsAuditOf made (x made)))
    (b : OfShownReport call (λ made. IsAuditOf made (y made)))
    → (x c.made ≡ Err OutOfMemory → ⊥) → (y b.made ≡ Err OutOfMemory → ⊥) → status_of_audit (x c.made) ≡ status_of_audit (y b.made)
one_audit call x y c b known shown =
    let desc : c.made.desc ≡ b.made.desc =
    of_shown (λ answer. answer ≡ Ok c.made.desc) (λ answer. answer ≡ Ok b.made.desc) (bytes_read call)
    (λ answer p q. same_machine c.made.desc b.made.desc answer p q) c.described.bytes b.described in
    of_printed (IsShortReport c.made) (IsShortReport b.made) (report_read call)
    (λ read p q.
    let made : c.made ≡ b.made =
    one-report c.made.desc (clear c.made.desc c.valid) read c.made b.made p.is
    (subst (λ (D : Desc). IsReport D read b.made) (sym desc) q.is) in
    ap status_of_audit
    (one_result c.made (x c.made) (y b.made) c.found (subst (λ (made : Made). IsAuditOf made (y b.made)) (sym made) b.found) known shown))
    c.reported.bytes b.reported

-- a report has no bad line, and too many bytes are none
no_report : (made : Made) (D : Desc) (line : ℕ) (read : List ℕ) → D ≡ made.desc → IsBadReport D line read → IsShortReport made read → ⊥
no_report made D line read desc (inl long) report =
    let many : most_of_report < length read = long.0 in
    let few : length read ≤ most_of_report = report.short in
    omega arith
no_report made D line read desc (inr bad) report =
    bad.1.none made (subst (λ (E : Desc). IsReport E read made) (sym desc) report.is)

one_line : (D E : Desc) (j k : ℕ) (read : List ℕ) → E ≡ D → IsBadReport D j read → IsBadReport E k read → BadReport j ≡ BadReport k
one_line D E j k read desc (inl long) (inl too) = ap BadReport (long.1 ∙ sym too.1)
one_line D E j k read desc (inl long) (inr bad) =
    let many : most_of_report < length read = long.0 in
    let few : length read ≤ most_of_report = bad.0 in
    absurd (omega arith)
one_line D E j k read desc (inr bad) (inl long) =
    let many : most_of_report < length read = long.0 in
    let few : length read ≤ most_of_report = bad.0 in
    absurd (omega arith)
one_line D E j k read desc (inr bad) (inr too) =
    ap BadReport (one-bad-line D read j k bad.1 (subst (λ (F : Desc). IsBadLine F read k) desc too.1))

bad_or_report : (call : Call) (line : ℕ) (P : Made → Type 0) → OfBadReport call line → OfShownReport call P → ⊥
bad_or_report call line P c b =
    let desc : c.desc ≡ b.made.desc =
    of_shown (λ answer. answer ≡ Ok c.desc) (λ answer. answer ≡ Ok b.made.desc) (bytes_read call)
    (λ answer p q. same_machine c.desc b.made.desc answer p q) c.described.bytes b.described in
    of_printed (IsBadReport c.desc line) (IsShortReport b.made) (report_read call) (λ read p q. no_report b.made c.desc line read desc p q) c.bad.bytes b.reported

report_or_bad : (call : Call) (line : ℕ) (P : Made → Type 0) → OfReport call P → OfShownBadReport call line → ⊥
report_or_bad call line P c b =
    let desc : b.desc ≡ c.made.desc =
    of_shown (λ answer. answer ≡ Ok c.made.desc) (λ answer. answer ≡ Ok b.desc) (bytes_read call)
    (λ answer p q. same_machine b.desc c.made.desc answer q p) c.described.bytes b.described in
    of_printed (IsShortReport c.made) (IsBadReport b.desc line) (report_read call) (λ read p q. no_report c.made b.desc line read desc q p) c.reported.bytes b.bad

both_bad : (call : Call) (j k : ℕ) → OfBadReport call j → OfShownBadReport call k → BadReport j ≡ BadReport k
both_bad call j k c b =
    let desc : b.desc ≡ c.desc =
    of_shown (λ answer. answer ≡ Ok c.desc) (λ answer. answer ≡ Ok b.desc) (bytes_read call)
    (λ answer p q. same_machine b.desc c.desc answer q p) c.described.bytes b.described in
    of_printed (IsBadReport c.desc j) (IsBadReport b.desc k) (report_read call) (λ read p q. one_line c.desc b.desc j k read desc p q) c.bad.bytes b.bad

-- a description and a fault of it
machine_or_fault : (call : Call) (D : Desc) (fault : DescFault) → OfDescription call (λ answer. answer ≡ Ok D)
    → OfShownBytes call (λ answer. answer ≡ Err fault) → ⊥
machine_or_fault call D fault c b = of_shown _ _ (bytes_read call) (λ answer p q. this_no_fault D fault answer p q) c.bytes b

fault_or_machine : (call : Call) (D : Desc) (fault : DescFault) → OfDescription call (λ answer. answer ≡ Err fault)
    → OfShownBytes call (λ answer. answer ≡ Ok D) → ⊥
fault_or_machine call D fault c b = of_shown _ _ (bytes_read call) (λ answer p q. this_no_fault D fault answer q p) c.bytes b

both_faults : (call : Call) (x y : DescFault) → OfDescription call (λ answer. answer ≡ Err x) → OfShownBytes call (λ answer. answer ≡ Err y)
    → BadDescription x ≡ BadDescription y
both_faults call x y c b = of_shown _ _ (bytes_read call) (λ answer p q. same_fault x y answer p q) c.bytes b

pub machine_or_refusal : (call : Call) (fault : DescFault) → OfDescription call (λ answer. answer ≡ Err fault)
    → OfShownBytes call (λ answer. IsOk answer) → ⊥
machine_or_refusal call fault c b = of_shown _ _ (bytes_read call) (λ answer p q. ok_no_fault fault answer q p) c.bytes b

exact_run : (pass : ℕ) (call : Call) (story : Story) (status brought : Status) → MoveCause pass status call story
    → BringsOf (Some (Run pass)) brought call → (status ≡ brought) ⊎ IsUnforeseen status
exact_run pass call story ReadFault brought c b = inr tt
exact_run pass call story NoMemory brought c b = inr tt
exact_run pass call story (BadDescription x) (BadDescription y) c b = inl (both_faults call x y c b)
exact_run pass call story status (BadDescription y) c b =
    absurd (of_shown _ _ (bytes_read call) (λ answer p q. ok_no_fault y answer p q) c.0.bytes b)
exact_run pass call story status brought c b = absurd b

-- the answers of an audit, of the report that was audited
abbrev legal : Made → Result ℕ ReportFault
legal made = Ok (length (journal made))

abbrev broken_at : ℕ → Rule → Made → Result ℕ ReportFault
broken_at place rule made = Err (RuleBroken place rule)

abbrev differs_at : Section → Made → Result ℕ ReportFault
differs_at section made = Err (OtherState section)

exact_audit : (call : Call) (status brought : Status) → AuditCause status call → AuditBrings brought call
    → (status ≡ brought) ⊎ IsUnforeseen status
exact_audit call ReadFault brought c b = inr tt
exact_audit call NoMemory brought c b = inr tt
exact_audit call Printed Printed c b = inl refl
exact_audit call Printed (Broken p r) c b = inl (one_audit call legal (broken_at p r) c b (λ e. cc) (λ e. cc))
exact_audit call Printed (StateDiffers s) c b = inl (one_audit call legal (differs_at s) c b (λ e. cc) (λ e. cc))
exact_audit call Printed (BadReport k) c b = absurd (report_or_bad call k _ c b)
exact_audit call Printed (BadDescription y) c b = absurd (machine_or_fault call c.made.desc y c.described b)
exact_audit call (Broken q t) Printed c b = inl (one_audit call (broken_at q t) legal c b (λ e. cc) (λ e. cc))
exact_audit call (Broken q t) (Broken p r) c b = inl (one_audit call (broken_at q t) (broken_at p r) c b (λ e. cc) (λ e. cc))
exact_audit call (Broken q t) (StateDiffers s) c b = inl (one_audit call (broken_at q t) (differs_at s) c b (λ e. cc) (λ e. cc))
exact_audit call (Broken q t) (BadReport k) c b = absurd (report_or_bad call k _ c b)
exact_audit call (Broken q t) (BadDescription y) c b = absurd (machine_or_fault call c.made.desc y c.described b)
exact_audit call (StateDiffers u) Printed c b = inl (one_audit call (differs_at u) legal c b (λ e. cc) (λ e. cc))
exact_audit call (StateDiffers u) (Broken p r) c b = inl (one_audit call (differs_at u) (broken_at p r) c b (λ e. cc) (λ e. cc))
exact_audit call (StateDiffers u) (StateDiffers s) c b = inl (one_audit call (differs_at u) (differs_at s) c b (λ e. cc) (λ e. cc))
exact_audit call (StateDiffers u) (BadReport k) c b = absurd (report_or_bad call k _ c b)
exact_audit call (StateDiffers u) (BadDescription y) c b = absurd (machine_or_fault call c.made.desc y c.described b)
exact_audit call (BadReport j) Printed c b = absurd (bad_or_report call j _ c b)
exact_audit call (BadReport j) (Broken p r) c b = absurd (bad_or_report call j _ c b)
exact_audit call (BadReport j) (StateDiffers s) c b = absurd (bad_or_report call j _ c b)
exact_audit call (BadReport j) (BadReport k) c b = inl (both_bad call j k c b)
exact_audit call (BadReport j) (BadDescription y) c b = absurd (machine_or_fault call c.desc y c.described b)
exact_audit call (BadDescription x) Printed c b = absurd (fault_or_machine call b.made.desc x c b.described)
exact_audit call (BadDescription x) (Broken p r) c b = absurd (fault_or_machine call b.made.desc x c b.described)
exact_audit call (BadDescription x) (StateDiffers s) c b = absurd (fault_or_machine call b.made.desc x c b.described)
exact_audit call (BadDescription x) (BadReport k) c b = absurd (fault_or_machine call b.desc x c b.described)
exact_audit call (BadDescription x) (BadDescription y) c b = inl (both_faults call x y c b)
exact_audit call status Printed c b = absurd c
exact_audit call status (Broken p r) c b = absurd c
exact_audit call status (StateDiffers s) c b = absurd c
exact_audit call status (BadReport k) c b = absurd c
exact_audit call status (BadDescription y) c b = absurd c
exact_audit call status brought c b = absurd b

-- what a migration of a described machine comes to has its cause
move_cause : (pass : ℕ) (status : Status) (call : Call) (story : Story) → OfDescription call (λ answer. IsOk answer)
    → migrating.HasCause status (attempt_in call pass) story → MoveCause pass status call story
move_cause pass (BadDescription fault) call story described cause = absurd cause
move_cause pass ReadFault call story described cause = absurd cause
move_cause pass NoMemory call story described cause = tt
move_cause pass status call story described cause = (described, cause)

told_nothing : AreTold Untouched → ⊥
told_nothing told = cc

exact_path : (answer : Result (List MigState) PathFault) (status brought : Status) → PathCause answer status → PathCause answer brought
    → (status ≡ brought) ⊎ IsUnforeseen status
exact_path answer Printed Printed c b = inl refl
exact_path answer Printed (PathRefused y) c b = absurd (ok_no_fault y answer c b)
exact_path answer (PathRefused x) Printed c b = absurd (ok_no_fault x answer b c)
exact_path answer (PathRefused x) (PathRefused y) c b = inl (same_refusal x y answer c b)
exact_path answer status Printed c b = absurd c
exact_path answer status (PathRefused y) c b = absurd c
exact_path answer status brought c b = absurd b

exact : (form : Option Form) (call : Call) (story : Story) (status brought : Status) → CauseOf form status call story
    → BringsOf form brought call → (status ≡ brought) ⊎ IsUnforeseen status
exact None call story status brought c b = inl (c ∙ sym b)
exact (Some (Run pass)) call story status brought c b = exact_run pass call story status brought c b
exact (Some (Load number)) call story status brought c b = absurd b
exact (Some Audit) call story status brought c b = exact_audit call status brought c b
exact (Some (Paths from to flags)) call story status brought c b = exact_path (path_of from to flags) status brought c b

-- where nothing was made, a migration brings nothing
nothing_brought : (attempt : Attempt) (status brought : Status) → migrating.Brings brought attempt (nothing_made status) → ⊥
nothing_brought attempt status (Unconfirmed ours theirs) b = told_nothing b.0
nothing_brought attempt status (InDoubt (NoGo heard)) b = told_nothing b.0
nothing_brought attempt status (InDoubt (Other ours theirs)) b = told_nothing b.0
nothing_brought attempt status (NoControl heard) b = told_nothing b.0
nothing_brought attempt status Differs b = told_nothing b.0
nothing_brought attempt status (Aborted pass) b = absurd b
nothing_brought attempt status (ArcFailed d to) b = absurd b
nothing_brought attempt status brought b = absurd b

nothing_moved : (form : Option Form) (call : Call) (status brought : Status) → MoveBrings form brought call (nothing_made status) → ⊥
nothing_moved (Some (Run pass)) call status brought b = nothing_brought (attempt_in call pass) status brought b
nothing_moved (Some (Load number)) call status brought b = nothing_brought (attempt_in call 0) status brought b
nothing_moved form call status brought b = absurd b

-- a call at whose end nothing was made
pub explained : (call : Call) (status : Status) → HasCause call (nothing_made status) → IsExplained call (nothing_made status)
explained call status cause =
    record {
      cause = cause;
      exact = λ brought. exact (form_of call.words) call (nothing_made status) status brought cause;
      exact_move = λ brought b. absurd (nothing_moved (form_of call.words) call status brought b);
    }

-- a call that came to what a migration did
pub explained_move : (call : Call) (pass : ℕ) (story : Story) → form_of call.words ≡ Some (Run pass)
    → OfDescription call (λ answer. IsOk answer) → migrating.IsExplained (attempt_in call pass) story → IsExplained call story
explained_move call pass story form described move =
    let cause : CauseOf (form_of call.words) story.status call story = rw form (move_cause pass story.status call story described move.cause) in
    record {
      cause = cause;
      exact = λ brought. exact (form_of call.words) call story story.status brought cause;
      exact_move = λ brought b. move.exact brought (rw form at b);
    }

-- no arc failed in what was made
abbrev pub HasNoFail : Story → Type 0
HasNoFail story = IfSome story.made (λ made. (d : ℕ) (to : MigState) → Contains (source_past made) (Fail d to) → ⊥)

no_run : (P : Made → ToldEnds → Type 0) (made : Option Made) (contact : Contact) → IfSome made (λ made. (ends : ToldEnds) → P made ends → ⊥)
    → IsSomeAnd made (λ made. IsLinkedAnd contact (P made)) → ⊥
no_run P None contact none run = absurd run
no_run P (Some made) Untouched none run = absurd run
no_run P (Some made) Failed none run = absurd run
no_run P (Some made) (Linked ends) none run = none ends run

all_some : {X : Type 0} (P : X → Type 0) (x : Option X) → ((x : X) → P x) → IfSome x P
all_some P None all = tt
all_some P (Some x) all = all x

-- what a migration of a generated load comes to has its cause: its source isn't to give up, and no arc fails
load_cause : (status : Status) (call : Call) (story : Story) → HasNoFail story → migrating.HasCause status (attempt_in call 0) story
    → LoadCause status call story
load_cause (ArcFailed d to) call story none cause =
    no_run (λ made ends. Contains (source_past made) (Fail d to)) story.made story.contact (each story.made none) cause
  where
    each : (made : Option Made) → IfSome made (λ made. (d : ℕ) (to : MigState) → Contains (source_past made) (Fail d to) → ⊥)
        → IfSome made (λ made. (ends : ToldEnds) → Contains (source_past made) (Fail d to) → ⊥)
    each None none = tt
    each (Some made) none = λ ends. none d to
load_cause (Aborted pass) call story none cause =
    no_run (λ made ends. IsAbortDue (attempt_in call 0) pass made) story.made story.contact
    (all_some _ story.made (λ made ends due. omega (arith, due.some, due.asked))) cause
load_cause status call story none cause = cause

-- a call that came to what a migration of a generated load did
pub explained_load : (call : Call) (number : ℕ) (story : Story) → form_of call.words ≡ Some (Load number) → HasNoFail story
    → migrating.IsExplained (attempt_in call 0) story → IsExplained call story
explained_load call number story form none move =
    let cause : CauseOf (form_of call.words) story.status call story = rw form (load_cause story.status call story none move.cause) in
    record {
      cause = cause;
      exact = λ brought. exact (form_of call.words) call story story.status brought cause;
      exact_move = λ brought b. move.exact brought (rw form at b);
    }
