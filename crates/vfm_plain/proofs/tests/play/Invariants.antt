use Rattle.vfm_plain.specs.Shape.{IsSound}
use Rattle.vfm_plain.proofs.tests.play.Given as goal

abbrev pub invariant-loop-step : goal.invariant-loop-step
invariant-loop-step g l = IsSound l.desc l.plain
