-- What a call that asks for an audit comes to, each way that it can end.
use Rattle.std.proofs.Common.{◌≡◌, ℕ, List, Option, Some, None, IfSome, Result, Ok, Err, IsOk, refl, sym, ap, subst, length, ◌⊎◌, inl, inr}
use Rattle.vfm_types.specs.declared.desc.Desc.{Desc}
use Rattle.vfm_types.specs.Valid.{IsValid}
use Rattle.vfm_outside.specs.Tells.{SourceTells}
use Rattle.vfm_plain.specs.Report.{Made, journal}
use Rattle.vfm_desc.specs.Described.{description_of}
use Rattle.vfm_report.specs.Printed.{IsPrinted}
use Rattle.vfm_audit.specs.Audited.{IsAuditOf}
use Rattle.vfm_audit.specs.declared.fault.ReportFault.{ReportFault}
use Rattle.vfm_audit.specs.declared.fault.ReportFault.TheVariants.{Broken as RuleBroken, StateDiffers as OtherState, NoMemory as OutOfMemory}
use Rattle.vfm_top.specs.declared.words.Form.TheVariants.{Audit}
use Rattle.vfm_status.specs.declared.status.Status.{Status}
use Rattle.vfm_status.specs.declared.status.Status.TheVariants.{Printed, BadDescription, ReadFault, NoMemory, Broken, BadReport, StateDiffers}
use Rattle.vfm_top.specs.Call.{Call, first_bytes, read_limit, report_limit, IsReadTo}
use Rattle.vfm_top.specs.Causes.{AuditCause, OfDescription, OfReport}
use Rattle.vfm_top.specs.Answers.{IsCounted, IsOutcome}
use Rattle.vfm_move.specs.Contact.{Untouched}
use Rattle.vfm_top.specs.Table.{Reached}
use Rattle.vfm_top.specs.Outcome.{IsAuditOver, SourcesTell, nothing_made}
use Rattle.vfm_top.specs.Sources.{IsDescribed, IsUndescribed, IsShortReport, IsBadReport, IsReported, IsUnreported, IsAudited, status_of_audit, entries_of_audit}
use Rattle.vfm_top.proofs.Causes.{explained}
use Rattle.vfm_top.proofs.Outcomes.{cause_of, read_over}

-- the description that was read, in the words of the call
described_in : (old new : SourcesTell) (call : Call) (D E : Desc) → IsAuditOver old new call → IsDescribed old.desc new.desc D → E ≡ D
    → OfDescription call (λ answer. answer ≡ Ok E)
described_in old new call D E over is same =
    read_over read_limit (λ bytes. description_of bytes ≡ Ok E) old.desc new.desc call.before.desc call.now.desc over.desc_before over.desc_now
    (subst (λ (F : Desc). IsReadTo read_limit (λ bytes. description_of bytes ≡ Ok F) old.desc new.desc) (sym same) is.read)

well : (D : Desc) (bytes : Option (List ℕ)) → IfSome bytes (λ read. description_of read ≡ Ok D) → IfSome bytes (λ read. IsOk (description_of read))
well D None is = tt
well D (Some bytes) is = rw is refl

-- the report that was read, in the words of the call
reported_in : (old new : SourcesTell) (call : Call) (D : Desc) (P Q : Made → Type 0) → IsAuditOver old new call → IsDescribed old.desc new.desc D
    → ((made : Made) → P made → Q made) → IsReported D P old.report new.report → OfReport call Q
reported_in old new call D P Q over is more report =
    record {
      made = report.made;
      valid = subst IsValid (sym report.desc) is.valid;
      described = described_in old new call D report.made.desc over is report.desc;
      printed = report.printed;
      reported =
          read_over report_limit (IsShortReport report.made) old.report new.report call.before.report call.now.report
          over.report_before over.report_now report.read;
      found = more report.made report.found;
    }

-- an outcome with its cause, where no read failed
quiet : (old new : SourcesTell) (call : Call) (status : Status) → IsAuditOver old new call → AuditCause status call
    → Reached status None Untouched → new.desc.faults ≡ old.desc.faults → new.report.faults ≡ old.report.faults
    → IsOutcome call (nothing_made status)
quiet old new call status over cause reach desc report =
    record {
      reached = reach;
      explained = explained call status (cause_of call (Some Audit) (nothing_made status) over.asked cause);
      move_of = tt;
      untouched = λ none. over.wires;
      no_read_failed = λ other. (rw (over.desc_before, over.desc_now) desc, rw (over.report_before, over.report_now) report);
    }

-- a legal report has as many entries as were counted
counted_so : (made : Made) (entries : ℕ) → IsAuditOf made (Ok entries) → IsAuditOf made (Ok (length (journal made)))
counted_so made entries passed = (passed.0, passed.1, passed.2, refl)

-- an audit that went as far as its report
pub audited : (old new : SourcesTell) (call : Call) (D : Desc) (status : Status) (entries : ℕ) → IsAuditOver old new call
    → IsDescribed old.desc new.desc D → IsAudited D old.report new.report status entries → IsOutcome call (nothing_made status)
audited old new call D Printed entries over is found =
    quiet old new call Printed over
    (reported_in old new call D (λ made. IsAuditOf made (Ok entries)) (λ made. IsAuditOf made (Ok (length (journal made)))) over is
    (λ made passed. counted_so made entries passed) found)
    tt is.read.no_fault found.read.no_fault
audited old new call D (Broken place rule) entries over is found =
    quiet old new call (Broken place rule) over (reported_in old new call D (λ made. IsAuditOf made (Err (RuleBroken place rule))) (λ made. IsAuditOf made (Err (RuleBroken place rule)))
    over is (λ made same. same) found)
    tt is.read.no_fault found.read.no_fault
audited old new call D (StateDiffers section) entries over is found =
    quiet old new call (StateDiffers section) over
    (reported_in old new call D (λ made. IsAuditOf made (Err (OtherState section))) (λ made. IsAuditOf made (Err (OtherState section)))
    over is (λ made same. same) found)
    tt is.read.no_fault found.read.no_fault
audited old new call D (BadReport line) entries over is found =
    quiet old new call (BadReport line) over
    (record {
      desc = D;
      valid = is.valid;
      described = described_in old new call D D over is refl;
      bad = read_over report_limit (IsBadReport D line) old.report new.report call.before.report call.now.report
          over.report_before over.report_now found;
    })
    tt is.read.no_fault found.no_fault
audited old new call D NoMemory entries over is found = quiet old new call NoMemory over tt tt is.read.no_fault found
audited old new call D ReadFault entries over is found =
    let read = described_in old new call D D over is refl in
    record {
      reached = tt;
      explained = explained call ReadFault
          (cause_of call (Some Audit) (nothing_made ReadFault) over.asked
          (inr (record {
            described = record { bytes = well D (first_bytes read_limit call.before.desc) read.bytes; rest = read.rest; no_fault = read.no_fault };
            counted = rw (over.report_before, over.report_now) found;
          })));
      move_of = tt;
      untouched = λ none. over.wires;
      no_read_failed = λ other. absurd (other refl);
    }
audited old new call D status entries over is found = absurd found

-- and how many entries it counted
pub counted : (old new : SourcesTell) (call : Call) (D : Desc) (status : Status) (entries : ℕ) → IsAuditOver old new call
    → IsDescribed old.desc new.desc D → IsAudited D old.report new.report status entries → IsCounted (Some Audit) status entries call
counted old new call D Printed entries over is found =
    reported_in old new call D (λ made. IsAuditOf made (Ok entries)) (λ made. IsAuditOf made (Ok entries)) over is (λ made same. same) found
counted old new call D status entries over is found = tt

-- an audit whose description is none
pub undescribed : (old new : SourcesTell) (call : Call) (status : Status) → IsAuditOver old new call → IsUndescribed old.desc new.desc status
    → new.report ≡ old.report → IsOutcome call (nothing_made status)
undescribed old new call (BadDescription fault) over is same =
    quiet old new call (BadDescription fault) over
    (read_over read_limit (λ bytes. description_of bytes ≡ Err fault) old.desc new.desc call.before.desc call.now.desc
    over.desc_before over.desc_now is)
    tt is.no_fault (ap (λ source. source.faults) same)
undescribed old new call NoMemory over is same = quiet old new call NoMemory over tt tt is (ap (λ source. source.faults) same)
undescribed old new call ReadFault over is same =
    record {
      reached = tt;
      explained = explained call ReadFault
          (cause_of call (Some Audit) (nothing_made ReadFault) over.asked (inl (rw (over.desc_before, over.desc_now) is)));
      move_of = tt;
      untouched = λ none. over.wires;
      no_read_failed = λ other. absurd (other refl);
    }
undescribed old new call status over is same = absurd is

pub uncounted : (old new : SourceTells) (call : Call) (status : Status) → IsUndescribed old new status → IsCounted (Some Audit) status 0 call
uncounted old new call Printed is = absurd is
uncounted old new call status is = tt

-- what a report was audited as
pub audited_as : (D : Desc) (old new : SourceTells) (made : Made) (answer : Result ℕ ReportFault) → made.desc ≡ D → IsPrinted made
    → IsReadTo report_limit (IsShortReport made) old new → IsAuditOf made answer
    → IsAudited D old new (status_of_audit answer) (entries_of_audit answer)
audited_as D old new made (Ok n) desc printed read found =
    record { made = made; desc = desc; printed = printed; read = read; found = found }
audited_as D old new made (Err (RuleBroken place rule)) desc printed read found =
    record { made = made; desc = desc; printed = printed; read = read; found = found }
audited_as D old new made (Err (OtherState section)) desc printed read found =
    record { made = made; desc = desc; printed = printed; read = read; found = found }
audited_as D old new made (Err OutOfMemory) desc printed read found = read.no_fault

pub unaudited_as : (D : Desc) (old new : SourceTells) (status : Status) → IsUnreported D old new status → IsAudited D old new status 0
unaudited_as D old new Printed is = absurd is
unaudited_as D old new (Broken place rule) is = absurd is
unaudited_as D old new (StateDiffers section) is = absurd is
unaudited_as D old new status is = is

pub audited_so : (D : Desc) (old new : SourceTells) (made : Made) (answer : Result ℕ ReportFault) (status : Status) (entries : ℕ)
    → status ≡ status_of_audit answer → entries ≡ entries_of_audit answer → made.desc ≡ D → IsPrinted made
    → IsReadTo report_limit (IsShortReport made) old new → IsAuditOf made answer → IsAudited D old new status entries
audited_so D old new made answer status entries is count desc printed read found =
    subst (λ (s : Status). IsAudited D old new s entries) (sym is)
    (subst (λ (n : ℕ). IsAudited D old new (status_of_audit answer) n) (sym count) (audited_as D old new made answer desc printed read found))

-- an outcome and a count by other names
pub outcome_so : (call : Call) (one other : Status) → one ≡ other → IsOutcome call (nothing_made other) → IsOutcome call (nothing_made one)
outcome_so call one other is outcome = subst (λ (s : Status). IsOutcome call (nothing_made s)) (sym is) outcome
