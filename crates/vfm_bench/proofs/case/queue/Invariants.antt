-- The list has as many items as requests were queued.
use Rattle.std.proofs.Common.{◌≡◌, vec_len}
use Rattle.vfm_bench.proofs.case.queue.Given as goal

abbrev pub invariant-loop-request : goal.invariant-loop-request
invariant-loop-request l = vec_len l.list ≡ l.request
