use Rattle.std.proofs.Common.{◌≡◌}
use Rattle.rtrb.specs.Ring.{sent, SameProducer}
use Rattle.vfm_outside.proofs.ring_link.has_slot.Given as goal

abbrev pub invariant-loop : goal.invariant-loop
invariant-loop l = record {
  sent : sent l.out ≡ sent l.initial.out;
  ring : SameProducer l.initial.out l.out;
}
