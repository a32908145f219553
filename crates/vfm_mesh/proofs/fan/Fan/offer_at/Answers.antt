use Rattle.std.proofs.Common.{◌≡◌, ◌∙◌, sym, ap, subst, ℕ, ◌<◌, List, [], ◌∷◌, ◌++◌, length, slice_index_or, map, arith}
use Rattle.std.proofs.lemmas.Result.{on_ok_weaker, on_err_weaker}
use Rattle.vfm_mesh.specs.declared.parcel.Parcel.{Parcel}
use Rattle.vfm_mesh.specs.Feeds.{feed_given, feed_kept, feed_free, feed_ring}
use Rattle.vfm_mesh.proofs.RowLemmas.{read-at, read-set, all-set, none-set}
use Rattle.vfm_mesh.proofs.fan.Fan.offer_at.Goals as goal

pub returns-clause-given : goal.returns-clause-given
returns-clause-given c =
    on_ok_weaker c.offer.result (λ given. all-set feed_given c.args.self.now.feeds.items c.args.stream c.offer.new.self _
    (given ∙ ap (λ (l : List Parcel). l ++ c.args.parcel ∷ [])
    (sym (read-at feed_given c.args.self.now.feeds.items c.args.stream c.index_mut.result.now [] c.requires c.index_mut.ensures.value))))
    c.offer.ensures.given

pub returns-clause-unchanged : goal.returns-clause-unchanged
returns-clause-unchanged c =
    on_err_weaker c.offer.result (none-set feed_given c.args.self.now.feeds.items c.args.stream c.index_mut.result.now c.offer.new.self c.index_mut.ensures.value)
    c.offer.ensures.unchanged

pub returns-clause-in_ring : goal.returns-clause-in_ring
returns-clause-in_ring c none free =
    let feeds = c.args.self.now.feeds.items in
    let s = c.args.stream in
    let was = c.index_mut.ensures.value in
    let before : slice_index_or (map feed_free feeds) s 0 ≡ feed_free c.index_mut.result.now = read-at feed_free feeds s c.index_mut.result.now 0 c.requires was in
    let gone = c.offer.ensures.in_ring (sym (read-at feed_kept feeds s c.index_mut.result.now [] c.requires was) ∙ none)
    (subst (λ (n : ℕ). 0 < n) before free) in
    let after = read-set feed_free feeds s c.offer.new.self 0 c.requires in
    (gone.0, read-set feed_kept feeds s c.offer.new.self [] c.requires ∙ gone.1, omega (arith, before, after, gone.2))

pub returns-clause-kept : goal.returns-clause-kept
returns-clause-kept c some =
    let feeds = c.args.self.now.feeds.items in
    read-set feed_free feeds c.args.stream c.offer.new.self 0 c.requires
    ∙ c.offer.ensures.kept (subst (λ (l : List Parcel). 0 < length l) (read-set feed_kept feeds c.args.stream c.offer.new.self [] c.requires) some)

pub returns-clause-memory : goal.returns-clause-memory
returns-clause-memory c err =
    read-set feed_free c.args.self.now.feeds.items c.args.stream c.offer.new.self 0 c.requires ∙ c.offer.ensures.memory err

pub returns-clause-rings : goal.returns-clause-rings
returns-clause-rings c =
    none-set feed_ring c.args.self.now.feeds.items c.args.stream c.index_mut.result.now c.offer.new.self c.index_mut.ensures.value c.offer.ensures.ring
