-- No Joint stands before this place.
use Rattle.std.proofs.Common.{◌≡◌, false, take}
use Rattle.vfm_types.specs.Phases.{is_joint}
use Rattle.vfm_audit.proofs.report.before_joint.Given as goal

abbrev pub invariant-loop-i : goal.invariant-loop-i
invariant-loop-i l = is_joint (take l.i l.entries) ≡ false
