-- Its answers exclude each other.
use Rattle.vfm_audit.proofs.Audits.{one_result}
use Rattle.vfm_audit.proofs.laws.a_report_has_one_audit.Goals as goal

pub returns : goal.returns
returns c = one_result
