-- A worker may go to another thread.
use Rattle.std.proofs.Crossing.{crosses}
use denote.Builtin.{u64}
use denote.Param.Send.{IsSend, struct_send, recorded_send, sendable}
use denote.Struct.Declared.{shape}
use Rattle.vfm_turn.proofs.Sends.{ticket_field_send}
use Rattle.vfm_turn_bench.specs.contracts.count.Count as count
use Rattle.vfm_turn_bench.specs.contracts.count.CountKept.TheImpl.{ghosts}
use Rattle.vfm_turn_bench.specs.contracts.worker.Worker as worker

count_send : IsSend count.the_row
count_send = search (crosses, sendable) depth 20

pub worker_send : IsSend worker.the_row
worker_send = recorded_send worker.the_field.row _ _ worker.the_type.to_one
    (struct_send (shape worker.the_type) (ticket_field_send count.the_row u64 ghosts count_send, (search (crosses, sendable) depth 20, (search (crosses, sendable) depth 20, tt))))
