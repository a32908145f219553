-- What the description's source and the report's source are read as.
use Rattle.std.specs.Prelude.{◌≡◌, ◌⊎◌, ℕ, ◌<◌, ◌≤◌, List, length, Result, Ok, Err, ⊤}
use Rattle.vfm_types.specs.declared.desc.Desc.{Desc}
use Rattle.vfm_types.specs.declared.fault.DescFault.{DescFault}
use Rattle.vfm_types.specs.declared.fault.DescFault.TheVariants.{NoMemory as Memory}
use Rattle.vfm_types.specs.Valid.{IsValid}
use Rattle.vfm_outside.specs.Counts.{Rose}
use Rattle.vfm_outside.specs.Tells.{SourceTells}
use Rattle.vfm_plain.specs.Report.{Made}
use Rattle.vfm_desc.specs.Described.{description_of}
use Rattle.vfm_report.specs.Printed.{IsPrinted}
use Rattle.vfm_report.specs.Reports.{IsReport, IsBadLine}
use Rattle.vfm_audit.specs.Audited.{IsAuditOf}
use Rattle.vfm_audit.specs.declared.fault.ReportFault.{ReportFault}
use Rattle.vfm_audit.specs.declared.fault.ReportFault.TheVariants.{Broken as RuleBroken, StateDiffers as OtherState, NoMemory as OutOfMemory}
use Rattle.vfm_status.specs.declared.status.Status.{Status}
use Rattle.vfm_status.specs.declared.status.Status.TheVariants.{Printed, BadDescription, ReadFault, NoMemory, Broken, BadReport, StateDiffers}
use Rattle.vfm_top.specs.Call.{read_limit, report_limit, IsReadTo}

-- the status of a description that is none: that of its fault, but that memory ran out is one of its own
abbrev pub status_of : DescFault → Status
status_of Memory = NoMemory
status_of fault = BadDescription fault

-- why bytes aren't the description of a machine
abbrev pub IsRefusal : List ℕ → Status → Type 0
IsRefusal bytes (BadDescription fault) = description_of bytes ≡ Err fault
IsRefusal bytes NoMemory = ⊤
IsRefusal bytes status = ⊥

-- a source was read out as the description of this machine
pub record IsDescribed (before now : SourceTells) (D : Desc) : Type 0 where
  pub valid : IsValid D
  pub read : IsReadTo read_limit (λ bytes. description_of bytes ≡ Ok D) before now

-- why a source was read as none
abbrev pub IsUndescribed : SourceTells → SourceTells → Status → Type 0
IsUndescribed before now (BadDescription fault) = IsReadTo read_limit (λ bytes. description_of bytes ≡ Err fault) before now
IsUndescribed before now ReadFault = Rose before.faults now.faults
IsUndescribed before now NoMemory = now.faults ≡ before.faults
IsUndescribed before now status = ⊥

-- how many bytes a report may have
abbrev pub most_of_report : ℕ
most_of_report = 134217728

-- bytes are the report of what a run made, and no longer than a report may be
pub record IsShortReport (made : Made) (bytes : List ℕ) : Type 0 where
  pub short : length bytes ≤ most_of_report
  pub is : IsReport made.desc bytes made

-- Bytes are no report: they are too many, which is line 0; or this is the first line at which they are none.
abbrev pub IsBadReport : Desc → ℕ → List ℕ → Type 0
IsBadReport D line bytes =
    ((most_of_report < length bytes) × (line ≡ 0)) ⊎ ((length bytes ≤ most_of_report) × IsBadLine D bytes line)

-- why bytes aren't a report of this machine
abbrev pub IsNoReport : Desc → List ℕ → Status → Type 0
IsNoReport D bytes (BadReport line) = IsBadReport D line bytes
IsNoReport D bytes NoMemory = ⊤
IsNoReport D bytes status = ⊥

-- a source was read out as the report of what a run of this machine made, and of that this holds
pub record IsReported (D : Desc) (P : Made → Type 0) (before now : SourceTells) : Type 0 where
  pub made : Made
  pub desc : made.desc ≡ D
  pub printed : IsPrinted made
  pub read : IsReadTo report_limit (IsShortReport made) before now
  pub found : P made

-- why a source was read as none
abbrev pub IsUnreported : Desc → SourceTells → SourceTells → Status → Type 0
IsUnreported D before now (BadReport line) = IsReadTo report_limit (IsBadReport D line) before now
IsUnreported D before now ReadFault = Rose before.faults now.faults
IsUnreported D before now NoMemory = now.faults ≡ before.faults
IsUnreported D before now status = ⊥

-- the status of an audit
abbrev pub status_of_audit : Result ℕ ReportFault → Status
status_of_audit (Ok entries) = Printed
status_of_audit (Err (RuleBroken place rule)) = Broken place rule
status_of_audit (Err (OtherState section)) = StateDiffers section
status_of_audit (Err OutOfMemory) = NoMemory

-- how many entries it counted
abbrev pub entries_of_audit : Result ℕ ReportFault → ℕ
entries_of_audit (Ok entries) = entries
entries_of_audit (Err fault) = 0

-- a source was read as a report of this machine, and an audit of that came to this status, with so many entries; or it was
-- read as none
abbrev pub IsAudited : Desc → SourceTells → SourceTells → Status → ℕ → Type 0
IsAudited D before now Printed entries = IsReported D (λ made. IsAuditOf made (Ok entries)) before now
IsAudited D before now (Broken place rule) entries = IsReported D (λ made. IsAuditOf made (Err (RuleBroken place rule))) before now
IsAudited D before now (StateDiffers section) entries =
    IsReported D (λ made. IsAuditOf made (Err (OtherState section))) before now
IsAudited D before now status entries = IsUnreported D before now status
