-- The intake stays that of the description.
use Rattle.vfm_intake.specs.Intakes.{IsIntakeOf}
use Rattle.vfm_intake.proofs.tests.answer.Given as goal

abbrev pub invariant-loop-i : goal.invariant-loop-i
invariant-loop-i l = record {
  made : IsIntakeOf l.intake l.desc;
}
