use Rattle.std.proofs.Common.{◌∙◌, sym, ap, List, [], ◌∷◌}
use Rattle.rtrb.specs.Ring.{known_items}
use Rattle.vfm_mesh.specs.declared.parcel.Parcel.{Parcel}
use Rattle.vfm_mesh.specs.Feeds.{consumer_ring}
use Rattle.vfm_mesh.proofs.RowLemmas.{read-at, read-set, all-set, none-set, one-end}
use Rattle.vfm_mesh.proofs.funnel.Funnel.pop_known.Goals as goal

pub returns-clause-some : goal.returns-clause-some
returns-clause-some c =
    read-at known_items c.args.self.now.rings.items c.args.channel c.index_mut-ring.result.now [] c.requires c.index_mut-ring.ensures.value
    ∙ c.pop_known.ensures.received.1
    ∙ ap (λ (l : List Parcel). c.pop_known.result ∷ l) (sym (read-set known_items c.args.self.now.rings.items c.args.channel c.pop_known.new.self [] c.requires))

pub returns-clause-others : goal.returns-clause-others
returns-clause-others c =
    all-set known_items c.args.self.now.rings.items c.args.channel c.pop_known.new.self _
    (sym (read-set known_items c.args.self.now.rings.items c.args.channel c.pop_known.new.self [] c.requires))

pub returns-clause-rings : goal.returns-clause-rings
returns-clause-rings c =
    none-set consumer_ring c.args.self.now.rings.items c.args.channel c.index_mut-ring.result.now c.pop_known.new.self c.index_mut-ring.ensures.value
    (one-end c.index_mut-ring.result.now c.pop_known.new.self c.pop_known.ensures.ring)
