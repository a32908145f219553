-- The list has as many items as requests were queued.
use Rattle.std.proofs.Common.{◌≡◌, vec_len}
use Rattle.vfm_samples.proofs.machines.queue.Given as goal

abbrev pub invariant-loop-k : goal.invariant-loop-k
invariant-loop-k l = vec_len l.list ≡ l.k
