-- The bytes before this one are there.
use Rattle.std.proofs.Common.{◌≡◌, take, vec_capacity}
use Rattle.vfm_plant.proofs.coordinator.fill.Given as goal

abbrev pub invariant-loop-byte : goal.invariant-loop-byte
invariant-loop-byte l = record {
  items : l.into.items ≡ take l.byte-index l.bytes;
  room : vec_capacity l.into ≡ vec_capacity l.fn.into;
}
