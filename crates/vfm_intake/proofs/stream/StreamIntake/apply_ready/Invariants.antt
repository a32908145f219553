-- All that was applied so far is as before.
use Rattle.std.proofs.Common.{◌≡◌, ◌-◌, ℕ, List}
use Rattle.vfm_packet.specs.Packet.{Packet}
use Rattle.vfm_intake.specs.Streams.{stream_in, loaded_count, IsFedOf, StandsAfter}
use Rattle.vfm_intake.proofs.stream.StreamIntake.apply_ready.Given as goal

abbrev pub invariant-loop : goal.invariant-loop
invariant-loop l = record {
  fed : IsFedOf l.self l.desc (stream_in l.initial.self);
  stands : (came : List Packet) → StandsAfter l.initial.self l.desc (stream_in l.initial.self) came
      → StandsAfter l.self l.desc (stream_in l.initial.self) came;
}

abbrev pub decreases-loop : goal.decreases-loop
decreases-loop l = 4294967296 - loaded_count l.self
