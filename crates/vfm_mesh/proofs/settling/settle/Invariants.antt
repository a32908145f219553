use Rattle.std.proofs.Common.{◌≡◌, ◌<◌, ◌++◌, ℕ, length, map}
use Rattle.vfm_mesh.specs.Rows.{all_given, all_kept, fan_rings, all_taken, all_known, funnel_rings}
use Rattle.vfm_mesh.specs.Meshes.{cell}
use Rattle.vfm_mesh.proofs.settling.settle.Given as goal

-- the funnels of the streams so far see all that was given
abbrev pub invariant-loop-stream : goal.invariant-loop-stream
invariant-loop-stream l = record {
  given : map all_given l.fans.items ≡ map all_given l.initial.fans.items;
  kept : map all_kept l.fans.items ≡ map all_kept l.initial.fans.items;
  feeds : map fan_rings l.fans.items ≡ map fan_rings l.initial.fans.items;
  took : map all_taken l.funnels.items ≡ map all_taken l.initial.funnels.items;
  rings : map funnel_rings l.funnels.items ≡ map funnel_rings l.initial.funnels.items;
  fan_count : length l.fans.items ≡ length l.initial.fans.items;
  funnel_count : length l.funnels.items ≡ length l.initial.funnels.items;
  sees : (k s : ℕ) → k < length l.initial.fans.items → s < l.stream
      → cell (map all_taken l.initial.funnels.items) s k ++ (cell (map all_known l.funnels.items) s k ++ cell (map all_kept l.initial.fans.items) k s)
      ≡ cell (map all_given l.initial.fans.items) k s;
}
