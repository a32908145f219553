-- What the audit of a report finds where the journals are legal.
use Rattle.std.specs.Prelude.{◌≡◌, ◌↔◌, IsTrue, None, length}
use Rattle.vfm_plain.specs.Legal.{broken}
use Rattle.vfm_plain.specs.Report.{Made, journal}
use Rattle.vfm_audit.specs.declared.report.Found.{Found}
use Rattle.vfm_audit.specs.Audited.{HasFinalState, HasJointState}

-- no entry breaks a rule, and this was found of the printed states and the journals
pub record IsFoundIn (made : Made) (found : Found) : Type 0 where
  pub unbroken : broken made.desc (journal made) ≡ None
  pub joint : IsTrue found.joint ↔ HasJointState made
  pub last : IsTrue found.last ↔ HasFinalState made
  pub count : found.count ≡ length (journal made)
