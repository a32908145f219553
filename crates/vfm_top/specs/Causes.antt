-- Why a status comes: each only with its cause, and what brings some of them for sure.
use Rattle.std.specs.Prelude.{◌≡◌, ◌⊎◌, ℕ, List, Option, Some, None, IfSome, Result, Ok, Err, IsOk, Bool, true, false, ⊤, length}
use Rattle.std.specs.Option.{IsSomeAnd}
use Rattle.vfm_types.specs.declared.desc.Desc.{Desc}
use Rattle.vfm_types.specs.declared.fault.DescFault.{DescFault}
use Rattle.vfm_types.specs.declared.state.MigState.{MigState}
use Rattle.vfm_types.specs.declared.state.PathFault.{PathFault}
use Rattle.vfm_types.specs.Paths.{path_of}
use Rattle.vfm_types.specs.Valid.{IsValid}
use Rattle.vfm_plain.specs.Report.{Made, journal}
use Rattle.vfm_loads.specs.Generated.{generated}
use Rattle.vfm_desc.specs.Described.{description_of}
use Rattle.vfm_report.specs.Printed.{IsPrinted}
use Rattle.vfm_audit.specs.Audited.{IsAuditOf}
use Rattle.vfm_audit.specs.declared.fault.ReportFault.TheVariants.{Broken as RuleBroken, StateDiffers as OtherState}
use Rattle.vfm_top.specs.declared.words.Form.{Form}
use Rattle.vfm_top.specs.declared.words.Form.TheVariants.{Run, Load, Audit, Paths}
use Rattle.vfm_status.specs.declared.status.Status.{Status}
use Rattle.vfm_status.specs.declared.status.Status.TheVariants.{Printed, BadWords, BadDescription, ReadFault, NoMemory, PathRefused, Broken, BadReport, StateDiffers, Aborted, ArcFailed}
use Rattle.vfm_top.specs.Form.{form_of}
use Rattle.vfm_move.specs.Causes as migrating
use Rattle.vfm_move.specs.Causes.{Story, YieldsTo}
use Rattle.vfm_top.specs.Call.{Call, attempt_in, bytes_read, report_read, read_limit, report_limit, HasReadFault, HasReportFault, IsReadTo}
use Rattle.vfm_top.specs.Sources.{IsShortReport, IsBadReport}

-- the words ask for a move
abbrev pub is_run : Option Form → Bool
is_run (Some (Run pass)) = true
is_run (Some (Load number)) = true
is_run _ = false

-- the pass after whose end the source is to give up, 0 for none
abbrev pub pass_of : Option Form → ℕ
pass_of (Some (Run pass)) = pass
pass_of _ = 0

-- the number of the generated load that the words ask for, if they do
abbrev pub load_of : Option Form → Option ℕ
load_of (Some (Load number)) = Some number
load_of _ = None

-- the words ask for an audit
abbrev pub is_audit : Option Form → Bool
is_audit (Some Audit) = true
is_audit _ = false

-- what the words ask for needs a description
abbrev pub reads_description : Option Form → Bool
reads_description (Some (Run pass)) = true
reads_description (Some Audit) = true
reads_description _ = false

-- the description was read out, and of what its bytes say this holds
abbrev pub OfDescription : Call → (Result Desc DescFault → Type 0) → Type 0
OfDescription call P = IsReadTo read_limit (λ bytes. P (description_of bytes)) call.before.desc call.now.desc

-- description and report were read out, the report says that a run made this, and of that this holds
pub record OfReport (call : Call) (P : Made → Type 0) : Type 0 where
  pub made : Made
  pub valid : IsValid made.desc
  pub described : OfDescription call (λ answer. answer ≡ Ok made.desc)
  pub printed : IsPrinted made
  pub reported : IsReadTo report_limit (IsShortReport made) call.before.report call.now.report
  pub found : P made

-- description and report were read out, and of the machine that is described this is no report, from this line on
pub record OfBadReport (call : Call) (line : ℕ) : Type 0 where
  pub desc : Desc
  pub valid : IsValid desc
  pub described : OfDescription call (λ answer. answer ≡ Ok desc)
  pub bad : IsReadTo report_limit (IsBadReport desc line) call.before.report call.now.report

-- a description was read out, and a failed read of the report was counted
pub record OfFailedReport (call : Call) : Type 0 where
  pub described : OfDescription call (λ answer. IsOk answer)
  pub counted : HasReportFault call

-- Why a status comes to a call that asks for a move: its description; or, where it describes a machine, what the migration of
-- that came to.
abbrev pub MoveCause : ℕ → Status → Call → Story → Type 0
MoveCause pass (BadDescription fault) call story = OfDescription call (λ answer. answer ≡ Err fault)
MoveCause pass ReadFault call story = HasReadFault call
MoveCause pass NoMemory call story = ⊤
MoveCause pass status call story = OfDescription call (λ answer. IsOk answer) × migrating.HasCause status (attempt_in call pass) story

-- Why a status comes to a call that asks for a generated load: what the migration of that came to. Its devices fail no arc, and
-- its source is never to give up.
abbrev pub LoadCause : Status → Call → Story → Type 0
LoadCause (ArcFailed d to) call story = ⊥
LoadCause (Aborted pass) call story = ⊥
LoadCause status call story = migrating.HasCause status (attempt_in call 0) story

-- why a status comes to a call that asks for an audit
abbrev pub AuditCause : Status → Call → Type 0
AuditCause Printed call = OfReport call (λ made. IsAuditOf made (Ok (length (journal made))))
AuditCause (Broken place rule) call = OfReport call (λ made. IsAuditOf made (Err (RuleBroken place rule)))
AuditCause (StateDiffers section) call = OfReport call (λ made. IsAuditOf made (Err (OtherState section)))
AuditCause (BadReport line) call = OfBadReport call line
AuditCause (BadDescription fault) call = OfDescription call (λ answer. answer ≡ Err fault)
AuditCause ReadFault call = HasReadFault call ⊎ OfFailedReport call
AuditCause NoMemory call = ⊤
AuditCause status call = ⊥

-- why a status comes to a call that asks for a path
abbrev pub PathCause : Result (List MigState) PathFault → Status → Type 0
PathCause answer Printed = IsOk answer
PathCause answer (PathRefused fault) = answer ≡ Err fault
PathCause answer status = ⊥

-- Why a status comes, for words of a form or of none.
abbrev pub CauseOf : Option Form → Status → Call → Story → Type 0
CauseOf None status call story = status ≡ BadWords
CauseOf (Some (Run pass)) status call story = MoveCause pass status call story
CauseOf (Some (Load number)) status call story = LoadCause status call story
CauseOf (Some Audit) status call story = AuditCause status call
CauseOf (Some (Paths from to flags)) status call story = PathCause (path_of from to flags) status

abbrev pub HasCause : Call → Story → Type 0
HasCause call story = CauseOf (form_of call.words) story.status call story

-- the description's source shows its bytes, and of what these say this holds
abbrev pub OfShownBytes : Call → (Result Desc DescFault → Type 0) → Type 0
OfShownBytes call P = IsSomeAnd (bytes_read call) (λ read. P (description_of read))

-- both sources show their bytes, which are a description and the report of this, and of that this holds
pub record OfShownReport (call : Call) (P : Made → Type 0) : Type 0 where
  pub made : Made
  pub described : OfShownBytes call (λ answer. answer ≡ Ok made.desc)
  pub reported : IsSomeAnd (report_read call) (IsShortReport made)
  pub found : P made

-- both sources show their bytes, and of the machine that is described this is no report, from this line on
pub record OfShownBadReport (call : Call) (line : ℕ) : Type 0 where
  pub desc : Desc
  pub described : OfShownBytes call (λ answer. answer ≡ Ok desc)
  pub bad : IsSomeAnd (report_read call) (IsBadReport desc line)

-- what brings a status to an audit for sure, where it can be seen
abbrev pub AuditBrings : Status → Call → Type 0
AuditBrings Printed call = OfShownReport call (λ made. IsAuditOf made (Ok (length (journal made))))
AuditBrings (Broken place rule) call = OfShownReport call (λ made. IsAuditOf made (Err (RuleBroken place rule)))
AuditBrings (StateDiffers section) call = OfShownReport call (λ made. IsAuditOf made (Err (OtherState section)))
AuditBrings (BadReport line) call = OfShownBadReport call line
AuditBrings (BadDescription fault) call = OfShownBytes call (λ answer. answer ≡ Err fault)
AuditBrings status call = ⊥

-- what brings a status to a call for sure, whatever a migration comes to
abbrev pub BringsOf : Option Form → Status → Call → Type 0
BringsOf None status call = status ≡ BadWords
BringsOf (Some (Run pass)) (BadDescription fault) call = OfShownBytes call (λ answer. answer ≡ Err fault)
BringsOf (Some (Run pass)) status call = ⊥
BringsOf (Some (Load number)) status call = ⊥
BringsOf (Some Audit) status call = AuditBrings status call
BringsOf (Some (Paths from to flags)) status call = PathCause (path_of from to flags) status

-- what a migration brings for sure, to words that ask for one
abbrev pub MoveBrings : Option Form → Status → Call → Story → Type 0
MoveBrings (Some (Run pass)) status call story = migrating.Brings status (attempt_in call pass) story
MoveBrings (Some (Load number)) status call story = migrating.Brings status (attempt_in call 0) story
MoveBrings form status call story = ⊥

abbrev pub Brings : Status → Call → Type 0
Brings status call = BringsOf (form_of call.words) status call

-- two statuses may come in place of one that is brought, each with its cause: a read failed, or memory ran out
abbrev pub IsUnforeseen : Status → Type 0
IsUnforeseen ReadFault = ⊤
IsUnforeseen NoMemory = ⊤
IsUnforeseen status = ⊥

-- A status comes only with its cause; and what brings a status for sure brings it, or one that can't be foreseen. What a
-- migration brings may yield to a link that failed, too.
pub record IsExplained (call : Call) (story : Story) : Type 0 where
  pub cause : HasCause call story
  pub exact : (brought : Status) → Brings brought call → (story.status ≡ brought) ⊎ IsUnforeseen story.status
  pub exact_move : (brought : Status) → MoveBrings (form_of call.words) brought call story
      → (story.status ≡ brought) ⊎ YieldsTo brought story.status

-- The machine is the one that the words ask for: that of a generated load; or the described one, where the description's source
-- shows its bytes.
abbrev pub AskedBy : Option Form → Call → Desc → Type 0
AskedBy (Some (Load number)) call D = D ≡ generated number
AskedBy form call D = IfSome (bytes_read call) (λ read. description_of read ≡ Ok D)

abbrev pub IsAsked : Call → Desc → Type 0
IsAsked call D = AskedBy (form_of call.words) call D
