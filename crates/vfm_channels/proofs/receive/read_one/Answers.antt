-- A reader leaves a fan in its mesh.
use Rattle.std.proofs.Common.{◌≡◌, ◌∙◌, sym, ap, subst, ℕ, ◌<◌, List, [], length, map}
use Rattle.std.proofs.lemmas.List.{length-map}
use Rattle.vfm_mesh.specs.Feeds.{RingId, feed_ring}
use Rattle.vfm_mesh.specs.Rows.{fan_rings, funnel_rings, stream_count}
use Rattle.vfm_mesh.specs.Meshes.{AreJoined}
use Rattle.vfm_mesh.proofs.RowLemmas.{read-at, none-set}
use Rattle.vfm_channels.proofs.receive.read_one.Goals as goal

pub read_link-requires : goal.read_link-requires
read_link-requires c =
    let fans = c.args.fans.now.items in
    let count : stream_count c.index_mut.result.now ≡ length c.args.funnels.now.items =
    sym (length-map c.index_mut.result.now.feeds.items feed_ring)
    ∙ ap (λ (l : List RingId). length l) (sym (read-at fan_rings fans c.args.k c.index_mut.result.now [] c.requires.channel c.index_mut.ensures.value))
    ∙ c.requires.mesh.streams c.args.k (subst (λ (n : ℕ). c.args.k < n) (sym (length-map fans fan_rings)) c.requires.channel)
    ∙ length-map c.args.funnels.now.items funnel_rings in
    count ∙ c.requires.streams ∙ sym c.expected_of-expect.ensures

pub returns-clause-mesh : goal.returns-clause-mesh
returns-clause-mesh c =
    subst (λ (rows : List (List RingId)). AreJoined rows (map funnel_rings c.args.funnels.now.items))
    (sym (none-set fan_rings c.args.fans.now.items c.args.k c.index_mut.result.now c.read_link.new.fan c.index_mut.ensures.value c.read_link.ensures))
    c.requires.mesh
