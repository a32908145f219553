use Rattle.std.proofs.Common.{sym, ap, []}
use Rattle.vfm_mesh.specs.Feeds.{feed_kept, feed_ring, producer_ring}
use Rattle.vfm_mesh.proofs.RowLemmas.{read-at, read-set, all-set, none-set, first-of, nothing-of}
use Rattle.vfm_mesh.proofs.fan.Fan.pop_kept.Goals as goal

pub returns-clause-some : goal.returns-clause-some
returns-clause-some c =
    first-of c.pop_kept.result _ _ _ _ (read-at feed_kept c.args.self.now.feeds.items c.args.stream c.index_mut.result.now [] c.requires c.index_mut.ensures.value)
    (read-set feed_kept c.args.self.now.feeds.items c.args.stream c.pop_kept.new.self [] c.requires) c.pop_kept.ensures.some

pub returns-clause-none : goal.returns-clause-none
returns-clause-none c =
    nothing-of c.pop_kept.result _ _ _ _ (read-at feed_kept c.args.self.now.feeds.items c.args.stream c.index_mut.result.now [] c.requires c.index_mut.ensures.value)
    (read-set feed_kept c.args.self.now.feeds.items c.args.stream c.pop_kept.new.self [] c.requires) c.pop_kept.ensures.none

pub returns-clause-others : goal.returns-clause-others
returns-clause-others c =
    all-set feed_kept c.args.self.now.feeds.items c.args.stream c.pop_kept.new.self _
    (sym (read-set feed_kept c.args.self.now.feeds.items c.args.stream c.pop_kept.new.self [] c.requires))

pub returns-clause-rings : goal.returns-clause-rings
returns-clause-rings c =
    none-set feed_ring c.args.self.now.feeds.items c.args.stream c.index_mut.result.now c.pop_kept.new.self c.index_mut.ensures.value
    (ap producer_ring c.pop_kept.ensures.ring)
