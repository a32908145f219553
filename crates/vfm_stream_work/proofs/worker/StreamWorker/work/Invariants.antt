-- The worker went on so far.
use Rattle.vfm_stream_work.specs.Workers.{HasWorked}
use Rattle.vfm_stream_work.proofs.worker.StreamWorker.work.Given as goal

abbrev pub invariant-loop-turn : goal.invariant-loop-turn
invariant-loop-turn g l = record {
  worked : HasWorked l.desc l.initial.self l.self;
}
