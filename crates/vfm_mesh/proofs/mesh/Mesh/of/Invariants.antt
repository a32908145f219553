use Rattle.std.proofs.Common.{◌≡◌, ℕ, [], length, map, All}
use Rattle.vfm_mesh.specs.Rows.{fan_rings, funnel_rings}
use Rattle.vfm_mesh.specs.Meshes.{given_at, kept_at, free_at, taken_at, AreJoined}
use Rattle.vfm_mesh.proofs.mesh.Mesh.of.Given as goal

-- fans without streams
abbrev pub invariant-loop : goal.invariant-loop
invariant-loop l = record {
  count : length l.fans.items ≡ l.counter;
  empty : All (λ fan. fan.feeds.items ≡ []) l.fans.items;
}

-- a mesh of all channels and of the streams so far
abbrev pub invariant-loop-2 : goal.invariant-loop-2
invariant-loop-2 l = record {
  fan_count : length l.fans.items ≡ l.channels;
  funnel_count : length l.funnels.items ≡ l.counter;
  mesh : AreJoined (map fan_rings l.fans.items) (map funnel_rings l.funnels.items);
  given : (k s : ℕ) → given_at l.fans.items k s ≡ [];
  kept : (k s : ℕ) → kept_at l.fans.items k s ≡ [];
  free : (k s : ℕ) → free_at l.fans.items k s l.slots ≡ l.slots;
  taken : (k s : ℕ) → taken_at l.funnels.items k s ≡ [];
}
