use Rattle.vfm_device.specs.EngineState.{EngineKept}
use Rattle.vfm_device.proofs.tests.an_engine_is_its_lists.Given as goal

abbrev pub invariant-loop-2 : goal.invariant-loop-2
invariant-loop-2 g l = EngineKept l.desc 0 l.engine
