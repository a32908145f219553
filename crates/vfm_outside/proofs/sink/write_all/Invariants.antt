use Rattle.std.proofs.Common.{length, ◌-◌, ◌≡◌, ◌≤◌, take}
use Rattle.vfm_outside.specs.Told.{with_appended}
use Rattle.vfm_outside.proofs.sink.write_all.Given as goal

abbrev pub invariant-loop-at : goal.invariant-loop-at
invariant-loop-at g l = record {
  in_range : l.at ≤ length l.bytes;
  counted : g.S.Sink.faults l.out ≡ g.S.Sink.faults l.initial.out;
  held : g.S.Sink.holds l.out ≡ with_appended (g.S.Sink.holds l.initial.out) (take l.at l.bytes);
}

abbrev pub decreases-loop-at : goal.decreases-loop-at
decreases-loop-at g l = length l.bytes - l.at
