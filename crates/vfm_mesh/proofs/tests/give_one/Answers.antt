use Rattle.std.proofs.Common.{◌≡◌, ◌∙◌, sym, ap, subst, ℕ, ◌<◌, List, [], length, map, slice_index_or, arith}
use Rattle.std.proofs.lemmas.List.{length-map}
use Rattle.vfm_mesh.specs.Feeds.{RingId, feed_ring}
use Rattle.vfm_mesh.specs.Rows.{fan_rings, funnel_rings, stream_count}
use Rattle.vfm_mesh.specs.Meshes.{AreJoined}
use Rattle.vfm_mesh.proofs.RowLemmas.{read-at, none-set}
use Rattle.vfm_mesh.proofs.tests.give_one.Goals as goal

pub offer-requires : goal.offer-requires
offer-requires c =
    let fans = c.args.fans.now.items in
    let k = c.args.channel in
    let count : stream_count c.index_mut.result.now ≡ length c.args.funnels.now.items =
    sym (length-map c.index_mut.result.now.feeds.items feed_ring)
    ∙ ap (λ (l : List RingId). length l) (sym (read-at fan_rings fans k c.index_mut.result.now [] c.requires.channel c.index_mut.ensures.value))
    ∙ c.requires.mesh.streams k (subst (λ (n : ℕ). k < n) (sym (length-map fans fan_rings)) c.requires.channel)
    ∙ length-map c.args.funnels.now.items funnel_rings in
    subst (λ (n : ℕ). 0 < n) (sym count) c.requires.stream

pub returns-clause-mesh : goal.returns-clause-mesh
returns-clause-mesh c =
    subst (λ (rows : List (List RingId)). AreJoined rows (map funnel_rings c.args.funnels.now.items))
    (sym (none-set fan_rings c.args.fans.now.items c.args.channel c.index_mut.result.now c.offer.new.self c.index_mut.ensures.value c.offer.ensures.rings))
    c.requires.mesh
