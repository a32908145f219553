use Rattle.std.proofs.Common.{◌≡◌, length}
use Rattle.vfm_mesh.specs.Meshes.{AreMesh}
use Rattle.vfm_mesh.proofs.tests.take.Given as goal

abbrev pub invariant-loop : goal.invariant-loop
invariant-loop l = record {
  mesh : AreMesh l.fans.items l.funnels.items;
  count : length l.funnels.items ≡ length l.initial.funnels.items;
}
