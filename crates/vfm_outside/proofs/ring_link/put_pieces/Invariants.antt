use Rattle.std.proofs.Common.{◌≡◌, ◌≤◌, ◌-◌, length, take}
use Rattle.rtrb.specs.Ring.{sent, known_free, SameProducer}
use Rattle.vfm_outside.specs.Pieces.{WentIn}
use Rattle.vfm_outside.proofs.ring_link.put_pieces.Given as goal

abbrev pub invariant-loop-at : goal.invariant-loop-at
invariant-loop-at l = record {
  in_range : l.at ≤ length l.bytes;
  sent : WentIn (sent l.initial.out) (sent l.out) (take l.at l.bytes);
  free : l.at ≡ 0 → known_free l.initial.out ≤ known_free l.out;
  ring : SameProducer l.initial.out l.out;
}

abbrev pub decreases-loop-at : goal.decreases-loop-at
decreases-loop-at l = length l.bytes - l.at
