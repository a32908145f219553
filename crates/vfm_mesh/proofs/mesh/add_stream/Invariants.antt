use Rattle.std.proofs.Common.{◌≡◌, ◌++◌, ℕ, [], length, map, take, drop, slice_index_or}
use Rattle.rtrb.specs.Ring.{received}
use Rattle.vfm_mesh.specs.Feeds.{consumer_ring}
use Rattle.vfm_mesh.specs.Rows.{fan_rings}
use Rattle.vfm_mesh.specs.Meshes.{given_at, kept_at, free_at, appended}
use Rattle.vfm_mesh.proofs.mesh.add_stream.Given as goal

-- the fans so far have one ring more, whose other ends are gathered; nothing is given or taken, and all slots are free
abbrev pub invariant-loop-k : goal.invariant-loop-k
invariant-loop-k l = record {
  feeds : map fan_rings l.fans.items
      ≡ appended (take l.k (map fan_rings l.initial.fans.items)) (map consumer_ring l.rings.items) ++ drop l.k (map fan_rings l.initial.fans.items);
  count : length l.rings.items ≡ l.k;
  fan_count : length l.fans.items ≡ length l.initial.fans.items;
  given : ((k s : ℕ) → given_at l.initial.fans.items k s ≡ []) → (k s : ℕ) → given_at l.fans.items k s ≡ [];
  kept : ((k s : ℕ) → kept_at l.initial.fans.items k s ≡ []) → (k s : ℕ) → kept_at l.fans.items k s ≡ [];
  free : ((k s : ℕ) → free_at l.initial.fans.items k s l.slots ≡ l.slots) → (k s : ℕ) → free_at l.fans.items k s l.slots ≡ l.slots;
  taken : (k : ℕ) → slice_index_or (map received l.rings.items) k [] ≡ [];
}
