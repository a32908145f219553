-- The mesh and the intake have the streams of the description.
use Rattle.std.proofs.Common.{◌≡◌}
use Rattle.vfm_mesh.specs.Meshes.{streams_left}
use Rattle.vfm_intake.specs.Intakes.{IsIntakeOf, stream_count}
use Rattle.vfm_intake_bench.proofs.load.load.Given as goal

abbrev pub invariant-loop-stream : goal.invariant-loop-stream
invariant-loop-stream l =
    record {
      made : IsIntakeOf l.intake l.desc;
      streams : stream_count l.intake ≡ stream_count l.initial.intake;
      left : streams_left l.rest ≡ streams_left l.initial.rest;
    }
