-- The streams so far, to which nothing came.
use Rattle.std.proofs.Common.{◌≡◌, ℕ, [], length}
use Rattle.vfm_intake.specs.Intakes.{AreStreamsOf, StandAfter}
use Rattle.vfm_intake.proofs.intake.Intake.of.Given as goal

abbrev pub invariant-loop-stream : goal.invariant-loop-stream
invariant-loop-stream l = record {
  number : length l.streams.items ≡ l.stream;
  each : AreStreamsOf l.desc l.streams.items;
  nothing : StandAfter l.desc (λ s. []) l.streams.items;
}
