-- A funnel stays in its mesh.
use Rattle.std.proofs.Common.{sym, subst, List, map}
use Rattle.vfm_mesh.specs.Feeds.{RingId}
use Rattle.vfm_mesh.specs.Rows.{fan_rings, funnel_rings}
use Rattle.vfm_mesh.specs.Meshes.{AreJoined}
use Rattle.vfm_mesh.proofs.RowLemmas.{none-set}
use Rattle.vfm_channels.proofs.receive.take_one.Goals as goal

pub returns-in-Some-clause-mesh : goal.returns-in-Some-clause-mesh
returns-in-Some-clause-mesh c =
    subst (λ (rows : List (List RingId)). AreJoined (map fan_rings c.args.fans.now.items) rows)
    (sym (none-set funnel_rings c.args.funnels.now.items c.args.stream c.index_mut.result.now c.take.new.self c.index_mut.ensures.value c.take.ensures.rings))
    c.requires.mesh

pub returns-in-None-clause-mesh : goal.returns-in-None-clause-mesh
returns-in-None-clause-mesh c =
    subst (λ (rows : List (List RingId)). AreJoined (map fan_rings c.args.fans.now.items) rows)
    (sym (none-set funnel_rings c.args.funnels.now.items c.args.stream c.index_mut.result.now c.take.new.self c.index_mut.ensures.value c.take.ensures.rings))
    c.requires.mesh
