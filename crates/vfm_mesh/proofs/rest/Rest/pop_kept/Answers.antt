use Rattle.std.proofs.Common.{◌≡◌, ◌∙◌, sym, ap, subst, ℕ, ◌<◌, List, length, replicate, slice_index_or}
use Rattle.std.proofs.lemmas.List.{get_or-replicate, length-set}
use Rattle.vfm_mesh.specs.Rows.{all_kept, stream_count}
use Rattle.vfm_mesh.proofs.RowLemmas.{first-of, nothing-of, read-at, none-set}
use Rattle.vfm_mesh.proofs.Cells.{cell-set, cell-was, cell-others}
use Rattle.vfm_mesh.proofs.rest.Rest.pop_kept.Goals as goal

pub pop_kept-requires : goal.pop_kept-requires
pop_kept-requires c =
    let count : stream_count c.index_mut.result.now ≡ (length c.args.self.now.funnels.items) =
    sym (read-at stream_count c.args.self.now.fans.items c.args.channel c.index_mut.result.now 0 c.requires.channel c.index_mut.ensures.value)
    ∙ ap (λ (l : List ℕ). slice_index_or l c.args.channel 0) c.args.self.now.feeds
    ∙ get_or-replicate (length c.args.self.now.fans.items) c.args.channel (length c.args.self.now.funnels.items) 0 c.requires.channel in
    subst (λ (n : ℕ). c.args.stream < n) (sym count) c.requires.stream

pub returns-clause-some : goal.returns-clause-some
returns-clause-some c =
    let fans = c.args.self.now.fans.items in
    first-of c.pop_kept.result _ _ _ _
    (cell-was all_kept fans c.args.channel c.index_mut.result.now c.pop_kept.new.self c.requires.channel c.index_mut.ensures.value c.args.stream)
    (cell-set all_kept fans c.args.channel c.index_mut.result.now c.pop_kept.new.self c.requires.channel c.args.stream)
    c.pop_kept.ensures.some

pub returns-clause-none : goal.returns-clause-none
returns-clause-none c =
    let fans = c.args.self.now.fans.items in
    nothing-of c.pop_kept.result _ _ _ _
    (cell-was all_kept fans c.args.channel c.index_mut.result.now c.pop_kept.new.self c.requires.channel c.index_mut.ensures.value c.args.stream)
    (cell-set all_kept fans c.args.channel c.index_mut.result.now c.pop_kept.new.self c.requires.channel c.args.stream)
    c.pop_kept.ensures.none

pub returns-clause-others : goal.returns-clause-others
returns-clause-others c k t other =
    cell-others all_kept c.args.self.now.fans.items c.args.channel c.index_mut.result.now c.pop_kept.new.self c.requires.channel c.index_mut.ensures.value
    c.args.stream _ c.pop_kept.ensures.others k t other

pub invariant_of-self-clause-rings : goal.invariant_of-self-clause-rings
invariant_of-self-clause-rings c =
    c.args.self.now.rings ∙ ap (λ (n : ℕ). replicate (length c.args.self.now.funnels.items) n) (sym (length-set c.args.self.now.fans.items c.args.channel c.pop_kept.new.self))

pub invariant_of-self-clause-feeds : goal.invariant_of-self-clause-feeds
invariant_of-self-clause-feeds c =
    none-set stream_count c.args.self.now.fans.items c.args.channel c.index_mut.result.now c.pop_kept.new.self c.index_mut.ensures.value c.pop_kept.ensures.streams
    ∙ c.args.self.now.feeds
    ∙ ap (λ (n : ℕ). replicate n (length c.args.self.now.funnels.items)) (sym (length-set c.args.self.now.fans.items c.args.channel c.pop_kept.new.self))
