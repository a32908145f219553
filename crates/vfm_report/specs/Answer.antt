-- What reading a report answers.
use Rattle.std.specs.Prelude.{ℕ, List, Result, Ok, Err}
use Rattle.vfm_types.specs.declared.desc.Desc.{Desc}
use Rattle.vfm_report.specs.declared.report.Report.{Report}
use Rattle.vfm_report.specs.declared.report.TextFault.{TextFault}
use Rattle.vfm_report.specs.declared.report.TextFault.TheVariants.{BadLine, NoMemory}
use Rattle.vfm_report.specs.Readers.{made_from}
use Rattle.vfm_report.specs.Parts.{parts_of}
use Rattle.vfm_report.specs.Reports.{IsReport, IsBadLine}

-- Ok: the bytes are the report of these parts. A bad line: it is the first at which they are no report. That memory ran
-- out may be answered for any bytes.
abbrev pub IsAnswer : Desc → List ℕ → Result Report TextFault → Type 0
IsAnswer D bytes (Ok report) = IsReport D bytes (made_from D (parts_of report))
IsAnswer D bytes (Err (BadLine k)) = IsBadLine D bytes k
IsAnswer D bytes (Err NoMemory) = Unit {0}
