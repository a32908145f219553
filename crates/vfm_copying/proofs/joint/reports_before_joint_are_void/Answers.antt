-- A report is made where nothing is decided, and a stop where it is.
use Rattle.vfm_copying.proofs.LastPass.{void_reports}
use Rattle.vfm_copying.proofs.joint.reports_before_joint_are_void.Goals as goal

pub returns : goal.returns
returns c = void_reports
