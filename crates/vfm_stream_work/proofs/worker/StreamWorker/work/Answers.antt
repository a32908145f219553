use Rattle.vfm_stream_work.proofs.Working.{worked-none, worked-both}
use Rattle.vfm_stream_work.proofs.worker.StreamWorker.work.Goals as goal

pub loop-turn-init : goal.loop-turn-init
loop-turn-init g c = record { worked = worked-none c.args.desc.now c.args.self.now c.requires }

pub loop-turn-preserved : goal.loop-turn-preserved
loop-turn-preserved g c = record {
  worked = worked-both c.args.desc.now c.args.self.now c.loop-turn.self c.take_one.new.self c.loop-turn.invariant.worked c.take_one.ensures;
}
