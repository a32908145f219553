-- The fans and funnels are those of the mesh, and the intake is the description's.
use Rattle.std.proofs.Common.{◌≡◌, length}
use Rattle.vfm_mesh.specs.Meshes.{AreMesh}
use Rattle.vfm_intake.specs.Intakes.{IsIntakeOf, stream_count}
use Rattle.vfm_channels.proofs.receive.take_known.Given as goal

abbrev pub invariant-loop : goal.invariant-loop
invariant-loop l =
    record {
      mesh : AreMesh l.fans.items l.funnels.items;
      funnels : length l.funnels.items ≡ length l.initial.funnels.items;
      made : IsIntakeOf l.intake l.desc;
      streams : stream_count l.intake ≡ stream_count l.initial.intake;
    }
