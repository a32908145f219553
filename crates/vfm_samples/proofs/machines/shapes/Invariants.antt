-- The list has as many devices as were made.
use Rattle.std.proofs.Common.{◌≡◌, vec_len}
use Rattle.vfm_samples.proofs.machines.shapes.Given as goal

abbrev pub invariant-loop-d : goal.invariant-loop-d
invariant-loop-d l = vec_len l.list ≡ l.d
