-- The requests that were done are counted, and while there are none, the devices before this one have nothing pending.
use Rattle.std.proofs.Common.{◌≡◌, ℕ, ◌+◌, ◌<◌, ◌≤◌, []}
use Rattle.vfm_types.specs.Machine.{device_of}
use Rattle.vfm_plain.specs.Shape.{IsSound, all_done}
use Rattle.vfm_bench.proofs.run.do_turn.Given as goal

abbrev pub invariant-loop-d : goal.invariant-loop-d
invariant-loop-d l = record {
  sound : IsSound l.desc l.plain;
  count : all_done l.plain ≡ all_done l.initial.plain + l.done;
  few : l.done ≤ l.d;
  idle : l.done ≡ 0 → (e : ℕ) → e < l.d → (device_of l.plain e).pending ≡ [];
}
