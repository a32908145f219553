use Rattle.std.proofs.Common.{◌≡◌, ◌++◌, map, take, drop}
use Rattle.vfm_mesh.specs.Rows.{all_given, fan_rings, stream_count, closed}
use Rattle.vfm_mesh.proofs.fan.Fan.close.Given as goal

-- the streams so far are closed
abbrev pub invariant-loop-stream : goal.invariant-loop-stream
invariant-loop-stream l = record {
  closed : all_given l.self ≡ map closed (take l.stream (all_given l.initial.self)) ++ drop l.stream (all_given l.initial.self);
  rings : fan_rings l.self ≡ fan_rings l.initial.self;
  streams : stream_count l.self ≡ stream_count l.initial.self;
}
