-- The jobs below this number are made.
use Rattle.std.proofs.Common.{◌≡◌, map, vec_len}
use Rattle.std.specs.List.{range_with_len}
use Rattle.vfm_loads.specs.Generated.{load_job}
use Rattle.vfm_generate.proofs.device.jobs.Given as goal

abbrev pub invariant-loop-j : goal.invariant-loop-j
invariant-loop-j l = (l.jobs.items ≡ map (load_job l.n l.d) (range_with_len 0 l.j)) × (vec_len l.jobs ≡ l.j)
