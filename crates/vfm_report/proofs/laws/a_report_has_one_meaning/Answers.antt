-- A report is read in one way.
use Rattle.vfm_report.proofs.Whole.{one-report, clear}
use Rattle.vfm_report.proofs.laws.a_report_has_one_meaning.Goals as goal

pub returns : goal.returns
returns c D bytes one other valid first second = one-report D (clear D valid) bytes one other first second
