-- What an audit of a report answers: the journals are one legal run, and the printed states are those that the plain
-- machine comes to.
use Rattle.std.specs.Prelude.{◌≡◌, ℕ, List, Some, None, Result, Ok, Err, IfSome, IsTrue, length, reverse}
use Rattle.vfm_types.specs.declared.desc.Desc.{Desc}
use Rattle.vfm_types.specs.declared.entry.Entry.{Entry}
use Rattle.vfm_types.specs.Machine.{Machine}
use Rattle.vfm_types.specs.Requests.{plain}
use Rattle.vfm_types.specs.Deliveries.{before_joint, delivers}
use Rattle.vfm_types.specs.Phases.{is_joint}
use Rattle.vfm_plain.specs.Legal.{broken}
use Rattle.vfm_plain.specs.Report.{Made, journal}
use Rattle.vfm_audit.specs.declared.fault.ReportFault.{ReportFault}
use Rattle.vfm_audit.specs.declared.fault.ReportFault.TheVariants.{Broken, StateDiffers, NoMemory}
use Rattle.vfm_audit.specs.declared.fault.Section.TheVariants.{Joint, Last}

-- a Joint stands in the source's journal, oldest entry first, and this is the machine of what is delivered before it
pub record IsJointState (D : Desc) (source : List Entry) (m : Machine) : Type 0 where
  pub stands : IsTrue (is_joint (reverse source))
  pub machine : plain D (delivers (before_joint source)) ≡ Some m

-- what is printed as the state at the joint stop, if anything is, is that
abbrev pub HasJointState : Made → Type 0
HasJointState made = IfSome made.joint (IsJointState made.desc made.source)

-- what is printed as the final state, if anything is, is the machine of all that is delivered
abbrev pub HasFinalState : Made → Type 0
HasFinalState made = IfSome made.final (λ m. plain made.desc (delivers (journal made)) ≡ Some m)

-- Ok: no entry breaks a rule, the printed states are the audited ones, and so many entries stand in both journals. Else
-- the first fault: the first broken rule at the first broken place; the state at the joint stop; the final state. That
-- memory ran out may be answered for any report.
abbrev pub IsAuditOf : Made → Result ℕ ReportFault → Type 0
IsAuditOf made (Ok count) =
    (broken made.desc (journal made) ≡ None) × HasJointState made × HasFinalState made × (count ≡ length (journal made))
IsAuditOf made (Err (Broken place rule)) = broken made.desc (journal made) ≡ Some (place, rule)
IsAuditOf made (Err (StateDiffers Joint)) = (broken made.desc (journal made) ≡ None) × (HasJointState made → ⊥)
IsAuditOf made (Err (StateDiffers Last)) =
    (broken made.desc (journal made) ≡ None) × HasJointState made × (HasFinalState made → ⊥)
IsAuditOf made (Err NoMemory) = Unit {0}
