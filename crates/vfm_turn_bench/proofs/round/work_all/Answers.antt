use denote.Param.Send.{sendable}
use Rattle.vfm_turn_bench.proofs.Sends.{worker_send}
use Rattle.vfm_turn_bench.proofs.round.work_all.Goals as goal

pub for_each_mut-requires-send-T : goal.for_each_mut-requires-send-T
for_each_mut-requires-send-T g c κs within = search (sendable, worker_send) depth 20
