-- The devices below this number are made.
use Rattle.std.proofs.Common.{◌≡◌, map, vec_len}
use Rattle.std.specs.List.{range_with_len}
use Rattle.vfm_loads.specs.Generated.{load_shape}
use Rattle.vfm_generate.proofs.load.devices.Given as goal

abbrev pub invariant-loop-d : goal.invariant-loop-d
invariant-loop-d l = (l.devices.items ≡ map (load_shape l.n) (range_with_len 0 l.d)) × (vec_len l.devices ≡ l.d)
