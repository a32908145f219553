use Rattle.std.proofs.Common.{◌≡◌, ◌<◌, ◌++◌, ℕ, length, map}
use Rattle.vfm_mesh.specs.Rows.{all_given, all_kept, fan_rings, all_taken, taken, known, funnel_rings}
use Rattle.vfm_mesh.specs.Meshes.{cell}
use Rattle.vfm_mesh.proofs.settling.see_stream.Given as goal

-- the funnel sees all that the channels so far gave
abbrev pub invariant-loop-channel : goal.invariant-loop-channel
invariant-loop-channel l = record {
  given : map all_given l.fans.items ≡ map all_given l.initial.fans.items;
  kept : map all_kept l.fans.items ≡ map all_kept l.initial.fans.items;
  rings : map fan_rings l.fans.items ≡ map fan_rings l.initial.fans.items;
  count : length l.fans.items ≡ length l.initial.fans.items;
  took : all_taken l.funnel ≡ all_taken l.initial.funnel;
  funnel : funnel_rings l.funnel ≡ funnel_rings l.initial.funnel;
  sees : (k : ℕ) → k < l.channel
      → taken l.funnel k ++ (known l.funnel k ++ cell (map all_kept l.initial.fans.items) k l.stream) ≡ cell (map all_given l.initial.fans.items) k l.stream;
}
