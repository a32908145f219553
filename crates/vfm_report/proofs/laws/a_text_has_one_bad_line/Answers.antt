-- Of two bad lines neither is before the other.
use Rattle.vfm_report.proofs.Whole.{one-bad-line}
use Rattle.vfm_report.proofs.laws.a_text_has_one_bad_line.Goals as goal

pub returns : goal.returns
returns c D bytes one other first second = one-bad-line D bytes one other first second
