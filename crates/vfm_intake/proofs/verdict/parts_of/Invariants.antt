-- The part of each stream that was taken; none of them is refused.
use Rattle.std.proofs.Common.{◌≡◌, ◌≤◌, ◌<◌, ◌++◌, ℕ, List, None, length, vec_capacity}
use Rattle.vfm_types.specs.declared.desc.Desc.{Desc}
use Rattle.vfm_packet.specs.Packet.{Packet}
use Rattle.vfm_streams.specs.Judged.{said, stream_fault}
use Rattle.vfm_load.specs.Parts.{IsPartOf, loaded_part}
use Rattle.vfm_intake.specs.Intakes.{AreStreamsOf, StandAfter}
use Rattle.vfm_intake.specs.Finished.{all_loaded}
use Rattle.vfm_intake.proofs.verdict.parts_of.Given as goal

abbrev pub invariant-loop-intake : goal.invariant-loop-intake
invariant-loop-intake l = record {
  all : l.yielded ++ l.intake-iterator.rest.items ≡ l.fn.streams.items;
  number : l.stream ≡ length l.yielded;
  count : length l.parts.items ≡ length l.yielded;
  room : length l.fn.streams.items ≤ vec_capacity l.parts;
  faultless : (D : Desc) (came : ℕ → List Packet) → StandAfter D came l.fn.streams.items
      → (k : ℕ) → k < length l.yielded → stream_fault D k (came k) ≡ None;
  loaded : (D : Desc) (came : ℕ → List Packet) → StandAfter D came l.fn.streams.items
      → l.parts.items ≡ all_loaded D came (length l.yielded);
  fit : (D : Desc) (came : ℕ → List Packet) → AreStreamsOf D l.fn.streams.items → StandAfter D came l.fn.streams.items
      → (k : ℕ) → k < length l.yielded → IsPartOf D k (loaded_part D k (said k (came k)));
}
