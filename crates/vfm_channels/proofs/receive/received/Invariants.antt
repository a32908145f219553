-- The mesh and the intake have the streams of the description.
use Rattle.std.proofs.Common.{◌≡◌, length}
use Rattle.vfm_mesh.specs.Meshes.{AreMesh, streams_left}
use Rattle.vfm_intake.specs.Intakes.{IsIntakeOf, stream_count}
use Rattle.vfm_channels.proofs.receive.received.Given as goal

abbrev pub invariant-loop-stream : goal.invariant-loop-stream
invariant-loop-stream l =
    record {
      mesh : AreMesh l.fans.items l.funnels.items;
      funnels : length l.funnels.items ≡ length l.initial.funnels.items;
      made : IsIntakeOf l.intake l.desc;
      streams : stream_count l.intake ≡ stream_count l.initial.intake;
    }

abbrev pub invariant-loop-stream-2 : goal.invariant-loop-stream-2
invariant-loop-stream-2 l =
    record {
      made : IsIntakeOf l.intake l.desc;
      streams : stream_count l.intake ≡ stream_count l.initial.intake;
      left : streams_left l.rest ≡ streams_left l.initial.rest;
    }
