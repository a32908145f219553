-- The fans and funnels are those of the mesh, and so many channels were read.
use Rattle.std.proofs.Common.{◌≡◌, length}
use Rattle.vfm_mesh.specs.Meshes.{AreMesh}
use Rattle.vfm_channels.proofs.receive.read_all.Given as goal

abbrev pub invariant-loop-k : goal.invariant-loop-k
invariant-loop-k l =
    record {
      mesh : AreMesh l.fans.items l.funnels.items;
      count : length l.fans.items ≡ length l.initial.fans.items;
      ends : length l.ends.items ≡ l.k;
    }
