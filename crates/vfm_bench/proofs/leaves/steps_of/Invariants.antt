use Rattle.vfm_device.specs.EngineState.{EngineKept}
use Rattle.vfm_bench.proofs.leaves.steps_of.Given as goal

abbrev pub invariant-loop : goal.invariant-loop
invariant-loop l = EngineKept l.desc l.d l.engine
