-- What a call of `run` does, in one record; and what its answers mean to a caller.
use Rattle.std.specs.Prelude.{◌≡◌, ◌⊎◌, ℕ, Bool, true, false, List, Option, Some, None, IfSome, Ok, Err, IsFalse, IsTrue, IsOk, ⊤}
use Rattle.std.specs.Option.{IsSomeAnd}
use Rattle.vfm_types.specs.declared.fault.DescFault.{DescFault}
use Rattle.vfm_outside.specs.Counts.{Rose}
use Rattle.vfm_outside.specs.Told.{with_appended}
use Rattle.vfm_outside.specs.Tells.{SinkTells}
use Rattle.vfm_plain.specs.Report.{Made}
use Rattle.vfm_text.specs.Prints.{IsCut}
use Rattle.vfm_desc.specs.Described.{description_of}
use Rattle.vfm_audit.specs.Audited.{IsAuditOf}
use Rattle.vfm_top.specs.declared.words.Form.{Form}
use Rattle.vfm_top.specs.declared.words.Form.TheVariants.{Run, Load, Audit}
use Rattle.vfm_status.specs.declared.status.Doubt.{Doubt}
use Rattle.vfm_status.specs.declared.status.Status.{Status}
use Rattle.vfm_status.specs.declared.status.Status.TheVariants.{Moved, Printed, BadWords, BadDescription, ReadFault, WriteFault, LinkFault, Refused, Unconfirmed, InDoubt, Differs, Aborted, ArcFailed, NoControl, NoMemory}
use Rattle.vfm_top.specs.Form.{form_of}
use Rattle.vfm_move.specs.Table.{Owner, TookOver, Neither, WentOn, owner_at}
use Rattle.vfm_move.specs.Headline.{IsOneRun, HasItsStates, EndsWith}
use Rattle.vfm_move.specs.Causes.{Story}
use Rattle.vfm_move.specs.Move as migrating
use Rattle.vfm_top.specs.Table.{Reached}
use Rattle.vfm_top.specs.Call.{Call, attempt_in, bytes_read, read_limit, report_limit, HasReadFault, HasReportFault, HasWriteFault, IsPrefixRead, IsPrinted}
use Rattle.vfm_top.specs.Text.{moved_text, text}
use Rattle.vfm_top.specs.Load.{EndsLoad, RanOut}
use Rattle.vfm_top.specs.Causes.{is_run, is_audit, pass_of, reads_description, IsExplained, IsAsked, Brings, OfReport}

-- what holds of a call that made a source: a move of the machine that was asked for
pub record IsMoveOf (call : Call) (story : Story) (made : Made) : Type 0 where
  pub asked : IsAsked call made.desc
  pub move_of : migrating.IsMoveOf (attempt_in call (pass_of (form_of call.words))) story made

-- a write failed, and a prefix of this text was written
pub record IsBrokenOff (text : List ℕ) (before now : SinkTells) : Type 0 where
  pub cut : IsCut text before.holds now.holds
  pub rose : Rose before.faults now.faults

-- the status is answered and its text printed; or the output failed, and that is answered
abbrev pub Ends : Status → Status → List ℕ → SinkTells → SinkTells → Type 0
Ends answer status printed before now =
    ((answer ≡ status) × IsPrinted printed before now) ⊎ ((answer ≡ WriteFault) × IsBrokenOff printed before now)

-- What a call came to: a status with its cause, and where a source was made a move of the machine that was asked for; else
-- the wires weren't touched. A failed read comes to `ReadFault`: at every other status none was counted.
pub record IsOutcome (call : Call) (story : Story) : Type 0 where
  pub reached : Reached story.status story.made story.contact
  pub explained : IsExplained call story
  pub move_of : IfSome story.made (λ made. IsMoveOf call story made)
  pub untouched : story.made ≡ None → call.now.wires ≡ call.before.wires
  pub no_read_failed : (story.status ≡ ReadFault → ⊥)
      → (call.now.desc.faults ≡ call.before.desc.faults) × (call.now.report.faults ≡ call.before.report.faults)

-- where an audit found a report legal, so many entries stand in both of its journals
abbrev pub IsCounted : Option Form → Status → ℕ → Call → Type 0
IsCounted (Some Audit) Printed entries call = OfReport call (λ made. IsAuditOf made (Ok entries))
IsCounted form status entries call = ⊤

-- what a call does: it comes to an outcome, and prints the text of that
pub record Answers (call : Call) : Type 0 where
  pub story : Story
  pub entries : ℕ
  pub outcome : IsOutcome call story
  pub counted : IsCounted (form_of call.words) story.status entries call
  pub ends : Ends call.answer story.status (text (form_of call.words) story.status story.made entries) call.before.out call.now.out

-- What a call leaves alone: the wires, but for a move; the report's source, but for an audit; and the description's source,
-- but for an audit and a move. No more is read of them than their limits.
pub record LeavesRest (call : Call) : Type 0 where
  pub wires : IsFalse (is_run (form_of call.words)) → call.now.wires ≡ call.before.wires
  pub unaudited : IsFalse (is_audit (form_of call.words)) → call.now.report ≡ call.before.report
  pub unread : IsFalse (reads_description (form_of call.words)) → call.now.desc ≡ call.before.desc
  pub read : IsPrefixRead read_limit call.before.desc call.now.desc
  pub report_read : IsPrefixRead report_limit call.before.report call.now.report

-- where a machine is after a call that printed a report of it, or the summary of a load: with this owner
pub record LeavesMachine (owner : Owner) (call : Call) : Type 0 where
  pub made : Made
  pub asked : IsAsked call made.desc
  pub run : IsOneRun made
  pub states : HasItsStates made
  pub kept : EndsWith owner made
  pub printed : IsPrinted (moved_text (form_of call.words) call.answer (Some made)) call.before.out call.now.out

-- an answer before which the source went on
abbrev pub is_refusal : Status → Bool
is_refusal (LinkFault place) = true
is_refusal (Refused refusal) = true
is_refusal (Unconfirmed ours theirs) = true
is_refusal Differs = true
is_refusal (Aborted pass) = true
is_refusal (ArcFailed d to) = true
is_refusal (NoControl heard) = true
is_refusal status = false

-- What a legal report says: the journals are one run, and the printed states are those of the plain machine.
pub record IsLegalReport (made : Made) : Type 0 where
  pub run : IsOneRun made
  pub states : HasItsStates made

-- no read and no write failed
pub record HasNoFault (call : Call) : Type 0 where
  pub read : HasReadFault call → ⊥
  pub report : HasReportFault call → ⊥
  pub write : HasWriteFault call → ⊥

-- What the answers mean to a caller, each in one line.
pub record Means (call : Call) : Type 0 where
  -- Moved: the machine ran to its end at the destination, each request done once
  pub moved : call.answer ≡ Moved → LeavesMachine TookOver call
  -- a refusal: it ran to its end at the source, from exactly what had been done
  pub kept : IsTrue (is_refusal call.answer) → LeavesMachine WentOn call
  -- in doubt: it runs at neither end, and its state at the joint stop is printed
  pub in_doubt : (doubt : Doubt) → call.answer ≡ InDoubt doubt → LeavesMachine Neither call
  -- words without a form are refused, where no write failed
  pub bad_words : form_of call.words ≡ None → (HasWriteFault call → ⊥) → call.answer ≡ BadWords
  -- a described machine is left at one end or at neither, or memory ran out, where no read or write failed
  pub moves : (pass : ℕ) → form_of call.words ≡ Some (Run pass) → IsSomeAnd (bytes_read call) (λ read. IsOk (description_of read))
      → (HasReadFault call → ⊥) → (HasWriteFault call → ⊥) → LeavesMachine (owner_at call.answer) call ⊎ (call.answer ≡ NoMemory)
  -- a faulty description is refused by its first fault, or memory ran out, where no read or write failed
  pub refuses : (pass : ℕ) (fault : DescFault) → form_of call.words ≡ Some (Run pass)
      → IsSomeAnd (bytes_read call) (λ read. description_of read ≡ Err fault)
      → (HasReadFault call → ⊥) → (HasWriteFault call → ⊥) → (call.answer ≡ BadDescription fault) ⊎ (call.answer ≡ NoMemory)
  -- A generated load ends with one machine, whose sums and digest are printed, at either end; where neither runs, those of the
  -- machine at the joint stop are. Or memory ran out before a source was made.
  pub loads : (number : ℕ) → form_of call.words ≡ Some (Load number) → (HasWriteFault call → ⊥) → EndsLoad number call ⊎ RanOut call
  -- a report that an audit finds legal is that of one run, with the states of that run
  pub legal : form_of call.words ≡ Some Audit → call.answer ≡ Printed → OfReport call IsLegalReport
  -- what can be seen to bring a status brings it, or memory ran out, where no read or write failed
  pub brings : (brought : Status) → Brings brought call → HasNoFault call → (call.answer ≡ brought) ⊎ (call.answer ≡ NoMemory)
  -- a failed read or write is answered only where one was counted
  pub read_fault : call.answer ≡ ReadFault → HasReadFault call ⊎ HasReportFault call
  pub write_fault : call.answer ≡ WriteFault → HasWriteFault call

-- what `run` promises of a call
pub record Promises (call : Call) : Type 0 where
  pub answers : Answers call
  pub leaves : LeavesRest call
  pub means : Means call
