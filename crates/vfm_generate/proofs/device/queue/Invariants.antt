-- The requests below this number are asked for.
use Rattle.std.proofs.Common.{◌≡◌, map, vec_len}
use Rattle.std.specs.List.{range_with_len}
use Rattle.vfm_loads.specs.Generated.{queued_job}
use Rattle.vfm_generate.proofs.device.queue.Given as goal

abbrev pub invariant-loop-n : goal.invariant-loop-n
invariant-loop-n l = (l.queue.items ≡ map queued_job (range_with_len 0 l.n)) × (vec_len l.queue ≡ l.n)
