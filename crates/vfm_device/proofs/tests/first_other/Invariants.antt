use Rattle.vfm_device.specs.EngineState.{EngineKept}
use Rattle.vfm_device.proofs.tests.first_other.Given as goal

abbrev pub invariant-loop-i : goal.invariant-loop-i
invariant-loop-i l = EngineKept l.desc 0 l.engine
