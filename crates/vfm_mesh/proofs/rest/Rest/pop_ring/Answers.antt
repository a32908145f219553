use Rattle.std.proofs.Common.{◌≡◌, ◌∙◌, sym, ap, subst, ℕ, ◌<◌, List, length, replicate, slice_index_or}
use Rattle.std.proofs.lemmas.List.{get_or-replicate, length-set}
use Rattle.vfm_mesh.specs.Rows.{all_known, channel_count}
use Rattle.vfm_mesh.proofs.RowLemmas.{first-of, nothing-of, read-at, none-set}
use Rattle.vfm_mesh.proofs.Cells.{cell-set, cell-was, cell-others}
use Rattle.vfm_mesh.proofs.rest.Rest.pop_ring.Goals as goal

pub pop_known-requires : goal.pop_known-requires
pop_known-requires c =
    let count : channel_count c.index_mut.result.now ≡ (length c.args.self.now.fans.items) =
    sym (read-at channel_count c.args.self.now.funnels.items c.args.stream c.index_mut.result.now 0 c.requires.stream c.index_mut.ensures.value)
    ∙ ap (λ (l : List ℕ). slice_index_or l c.args.stream 0) c.args.self.now.rings
    ∙ get_or-replicate (length c.args.self.now.funnels.items) c.args.stream (length c.args.self.now.fans.items) 0 c.requires.stream in
    subst (λ (n : ℕ). c.args.channel < n) (sym count) c.requires.channel

pub returns-clause-some : goal.returns-clause-some
returns-clause-some c =
    let funnels = c.args.self.now.funnels.items in
    first-of c.pop_known.result _ _ _ _
    (cell-was all_known funnels c.args.stream c.index_mut.result.now c.pop_known.new.self c.requires.stream c.index_mut.ensures.value c.args.channel)
    (cell-set all_known funnels c.args.stream c.index_mut.result.now c.pop_known.new.self c.requires.stream c.args.channel)
    c.pop_known.ensures.some

pub returns-clause-none : goal.returns-clause-none
returns-clause-none c =
    let funnels = c.args.self.now.funnels.items in
    nothing-of c.pop_known.result _ _ _ _
    (cell-was all_known funnels c.args.stream c.index_mut.result.now c.pop_known.new.self c.requires.stream c.index_mut.ensures.value c.args.channel)
    (cell-set all_known funnels c.args.stream c.index_mut.result.now c.pop_known.new.self c.requires.stream c.args.channel)
    c.pop_known.ensures.none

pub returns-clause-others : goal.returns-clause-others
returns-clause-others c k t other =
    cell-others all_known c.args.self.now.funnels.items c.args.stream c.index_mut.result.now c.pop_known.new.self c.requires.stream c.index_mut.ensures.value
    c.args.channel _ c.pop_known.ensures.others t k (λ s r. other r s)

pub invariant_of-self-clause-feeds : goal.invariant_of-self-clause-feeds
invariant_of-self-clause-feeds c =
    c.args.self.now.feeds ∙ ap (λ (n : ℕ). replicate (length c.args.self.now.fans.items) n) (sym (length-set c.args.self.now.funnels.items c.args.stream c.pop_known.new.self))

pub invariant_of-self-clause-rings : goal.invariant_of-self-clause-rings
invariant_of-self-clause-rings c =
    none-set channel_count c.args.self.now.funnels.items c.args.stream c.index_mut.result.now c.pop_known.new.self c.index_mut.ensures.value c.pop_known.ensures.channels
    ∙ c.args.self.now.rings
    ∙ ap (λ (n : ℕ). replicate n (length c.args.self.now.fans.items)) (sym (length-set c.args.self.now.funnels.items c.args.stream c.pop_known.new.self))
