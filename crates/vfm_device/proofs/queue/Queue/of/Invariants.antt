use Rattle.std.proofs.Common.{◌≡◌, ◌≤◌, vec_len, vec_capacity}
use Rattle.vfm_device.proofs.queue.Queue.of.Given as goal

abbrev pub invariant-loop : goal.invariant-loop
invariant-loop l = record { count : vec_len l.requests ≡ l.counter; room : 50000 ≤ vec_capacity l.requests }
