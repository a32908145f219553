use Rattle.std.proofs.Common.{◌-◌, ◌≡◌, ◌≤◌, vec_len}
use Rattle.vfm_outside.specs.Told.{with_prepended}
use Rattle.vfm_outside.proofs.source.read_up_to.Given as goal

abbrev pub invariant-loop-buf : goal.invariant-loop-buf
invariant-loop-buf g l = record {
  bound : vec_len l.bytes ≤ l.most;
  counted : g.S.Source.faults l.source ≡ g.S.Source.faults l.initial.source;
  given : g.S.Source.left l.initial.source ≡ with_prepended l.bytes.items (g.S.Source.left l.source);
}

abbrev pub decreases-loop-buf : goal.decreases-loop-buf
decreases-loop-buf g l = l.most - vec_len l.bytes
