use Rattle.std.proofs.Common.{◌≡◌}
use Rattle.vfm_mesh.specs.Meshes.{streams_left}
use Rattle.vfm_mesh.proofs.tests.all_left.Given as goal

abbrev pub invariant-loop : goal.invariant-loop
invariant-loop l = streams_left l.rest ≡ streams_left l.initial.rest
