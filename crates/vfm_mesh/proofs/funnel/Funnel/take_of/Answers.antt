use Rattle.std.proofs.Common.{◌∙◌, sym, ap, List, [], ◌∷◌, ◌++◌}
use Rattle.rtrb.specs.Ring.{known_items, received}
use Rattle.vfm_mesh.specs.declared.parcel.Parcel.{Parcel}
use Rattle.vfm_mesh.specs.Feeds.{consumer_ring}
use Rattle.vfm_mesh.proofs.RowLemmas.{read-at, read-set, all-set, none-set, one-end}
use Rattle.vfm_mesh.proofs.funnel.Funnel.take_of.Goals as goal

pub returns-in-Ok-clause-some : goal.returns-in-Ok-clause-some
returns-in-Ok-clause-some c =
    all-set received c.args.self.now.rings.items c.args.channel c.pop.new.self _
    (c.in-Ok.ensures.ok.0 ∙ ap (λ (l : List Parcel). l ++ c.in-Ok.parcel ∷ [])
    (sym (read-at received c.args.self.now.rings.items c.args.channel c.index_mut.result.now [] c.requires c.index_mut.ensures.value)))

pub returns-in-Ok-clause-others : goal.returns-in-Ok-clause-others
returns-in-Ok-clause-others c =
    all-set known_items c.args.self.now.rings.items c.args.channel c.pop.new.self _
    (sym (read-set known_items c.args.self.now.rings.items c.args.channel c.pop.new.self [] c.requires))

pub returns-in-Ok-clause-rings : goal.returns-in-Ok-clause-rings
returns-in-Ok-clause-rings c =
    none-set consumer_ring c.args.self.now.rings.items c.args.channel c.index_mut.result.now c.pop.new.self c.index_mut.ensures.value
    (one-end c.index_mut.result.now c.pop.new.self c.pop.ensures.ring)

pub returns-in-Err-clause-none : goal.returns-in-Err-clause-none
returns-in-Err-clause-none c =
    none-set received c.args.self.now.rings.items c.args.channel c.index_mut.result.now c.pop.new.self c.index_mut.ensures.value c.in-Err.ensures.empty.0

pub returns-in-Err-clause-nothing : goal.returns-in-Err-clause-nothing
returns-in-Err-clause-nothing c =
    read-set known_items c.args.self.now.rings.items c.args.channel c.pop.new.self [] c.requires ∙ c.in-Err.ensures.empty.1

pub returns-in-Err-clause-others : goal.returns-in-Err-clause-others
returns-in-Err-clause-others c =
    all-set known_items c.args.self.now.rings.items c.args.channel c.pop.new.self _
    (sym (read-set known_items c.args.self.now.rings.items c.args.channel c.pop.new.self [] c.requires))

pub returns-in-Err-clause-rings : goal.returns-in-Err-clause-rings
returns-in-Err-clause-rings c =
    none-set consumer_ring c.args.self.now.rings.items c.args.channel c.index_mut.result.now c.pop.new.self c.index_mut.ensures.value
    (one-end c.index_mut.result.now c.pop.new.self c.pop.ensures.ring)
