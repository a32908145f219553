use Rattle.std.proofs.Common.{◌≡◌, ◌≤◌, take, vec_len, vec_capacity}
use Rattle.vfm_types.specs.Machine.{numbered}
use Rattle.vfm_device.proofs.queue.Queue.described.Given as goal

abbrev pub invariant-loop-i : goal.invariant-loop-i
invariant-loop-i l =
    record {
      items : l.requests.items ≡ numbered 0 (take l.i l.jobs);
      count : vec_len l.requests ≡ l.i;
      room : 50000 ≤ vec_capacity l.requests;
    }
