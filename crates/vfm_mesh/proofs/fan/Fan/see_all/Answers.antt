use Rattle.std.proofs.Common.{◌∙◌, sym, ap₂, List, [], ◌++◌}
use Rattle.rtrb.specs.Ring.{received, known_items}
use Rattle.vfm_mesh.specs.declared.parcel.Parcel.{Parcel}
use Rattle.vfm_mesh.specs.Feeds.{feed_given, feed_kept, feed_ring, consumer_ring}
use Rattle.vfm_mesh.proofs.RowLemmas.{read-at, read-set, all-set, none-set}
use Rattle.vfm_mesh.proofs.fan.Fan.see_all.Goals as goal

pub see_all-requires : goal.see_all-requires
see_all-requires c =
    let d = feed_ring c.index_mut.result.now in
    sym (read-at feed_ring c.args.self.now.feeds.items c.args.stream c.index_mut.result.now d c.requires.stream c.index_mut.ensures.value)
    ∙ c.requires.joined d
    ∙ read-at consumer_ring c.args.funnel.now.rings.items c.args.channel c.index_mut-2.result.now d c.requires.channel c.index_mut-2.ensures.value

pub returns-clause-given : goal.returns-clause-given
returns-clause-given c =
    none-set feed_given c.args.self.now.feeds.items c.args.stream c.index_mut.result.now c.see_all.new.feed c.index_mut.ensures.value c.see_all.ensures.given

pub returns-clause-kept : goal.returns-clause-kept
returns-clause-kept c =
    none-set feed_kept c.args.self.now.feeds.items c.args.stream c.index_mut.result.now c.see_all.new.feed c.index_mut.ensures.value c.see_all.ensures.kept

pub returns-clause-rings : goal.returns-clause-rings
returns-clause-rings c =
    none-set feed_ring c.args.self.now.feeds.items c.args.stream c.index_mut.result.now c.see_all.new.feed c.index_mut.ensures.value c.see_all.ensures.feed

pub returns-clause-taken : goal.returns-clause-taken
returns-clause-taken c =
    none-set received c.args.funnel.now.rings.items c.args.channel c.index_mut-2.result.now c.see_all.new.ring c.index_mut-2.ensures.value c.see_all.ensures.taken

pub returns-clause-funnel : goal.returns-clause-funnel
returns-clause-funnel c =
    none-set consumer_ring c.args.funnel.now.rings.items c.args.channel c.index_mut-2.result.now c.see_all.new.ring c.index_mut-2.ensures.value c.see_all.ensures.ring

pub returns-clause-known : goal.returns-clause-known
returns-clause-known c =
    all-set known_items c.args.funnel.now.rings.items c.args.channel c.see_all.new.ring _
    (sym (read-set known_items c.args.funnel.now.rings.items c.args.channel c.see_all.new.ring [] c.requires.channel))

pub returns-clause-left : goal.returns-clause-left
returns-clause-left c =
    let rings = c.args.funnel.now.rings.items in
    let feeds = c.args.self.now.feeds.items in
    ap₂ (λ (a b : List Parcel). a ++ b)
    (read-set received rings c.args.channel c.see_all.new.ring [] c.requires.channel)
    (ap₂ (λ (a b : List Parcel). a ++ b)
    (read-set known_items rings c.args.channel c.see_all.new.ring [] c.requires.channel)
    (read-set feed_kept feeds c.args.stream c.see_all.new.feed [] c.requires.stream))
    ∙ c.see_all.ensures.left
    ∙ sym (read-set feed_given feeds c.args.stream c.see_all.new.feed [] c.requires.stream)
