-- The intake is the description's.
use Rattle.std.proofs.Common.{◌≡◌}
use Rattle.vfm_mesh.specs.Meshes.{streams_left}
use Rattle.vfm_intake.specs.Intakes.{IsIntakeOf, stream_count}
use Rattle.vfm_channels.proofs.receive.take_left.Given as goal

abbrev pub invariant-loop : goal.invariant-loop
invariant-loop l =
    record {
      made : IsIntakeOf l.intake l.desc;
      streams : stream_count l.intake ≡ stream_count l.initial.intake;
      left : streams_left l.rest ≡ streams_left l.initial.rest;
    }
