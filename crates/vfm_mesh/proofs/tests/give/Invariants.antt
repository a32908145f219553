use Rattle.std.proofs.Common.{◌≡◌, length}
use Rattle.vfm_mesh.specs.Meshes.{AreMesh}
use Rattle.vfm_mesh.proofs.tests.give.Given as goal

abbrev pub invariant-loop-index : goal.invariant-loop-index
invariant-loop-index l = record {
  mesh : AreMesh l.fans.items l.funnels.items;
  count : length l.fans.items ≡ length l.initial.fans.items;
}
