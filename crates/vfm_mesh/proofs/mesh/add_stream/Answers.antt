use Rattle.std.proofs.Common.{◌≡◌, ◌∙◌, sym, ap, ap₂, ℕ, suc, ◌+◌, ◌<◌, List, [], ◌∷◌, ◌++◌, length, map, take, drop, slice_index_or, slice_set, rules, arith}
use Rattle.std.proofs.lemmas.List.{length-map, length-set, length-append, map-append}
use Rattle.rtrb.specs.Ring.{received}
use Rattle.vfm_mesh.specs.declared.parcel.Parcel.{Parcel}
use Rattle.vfm_mesh.specs.Feeds.{RingId, consumer_ring}
use Rattle.vfm_mesh.specs.Rows.{fan_rings, all_given, all_kept, all_free}
use Rattle.vfm_mesh.specs.Meshes.{appended}
use Rattle.vfm_mesh.proofs.RowLemmas.{read-at, all-set, one-pair}
use Rattle.vfm_mesh.proofs.Cells.{none-more, snoc-none}
use Rattle.vfm_mesh.proofs.Joins.{appended-more}
use Rattle.vfm_mesh.proofs.mesh.add_stream.Goals as goal

pub loop-k-preserved : goal.loop-k-preserved
loop-k-preserved c =
    let i = c.loop-k.k in
    let fans = c.loop-k.fans.items in
    let inv = c.loop-k.invariant in
    let x = c.index_mut.result.now in
    let y = c.add.new.self in
    let was = c.index_mut.ensures.value in
    let first = map fan_rings c.args.fans.now.items in
    let ids = map consumer_ring c.loop-k.rings.items in
    let id = consumer_ring c.in_ok-producer.consumer in
    let list : List (List RingId) = appended (take i first) ids ++ drop i first in
    let below : i < length c.loop-k.fans.items = search (rules, arith) in
    let inside : i < length (map fan_rings c.args.fans.now.items) = omega (arith, below, inv.fan_count, length-map c.args.fans.now.items fan_rings) in
    let made : fan_rings y ≡ slice_index_or list i [] ++ id ∷ [] =
    c.in_ok-add.ensures.rings
    ∙ ap₂ (λ (row : List RingId) (r : RingId). row ++ r ∷ [])
    (sym (read-at fan_rings fans i x [] below was) ∙ ap (λ (rows : List (List RingId)). slice_index_or rows i []) inv.feeds)
    (c.of.ensures.ring ∙ one-pair c.in_ok-producer.producer c.in_ok-producer.consumer c.in_ok-producer.ensures.pair) in
    let pushed : map consumer_ring c.push.new.self.items ≡ ids ++ id ∷ [] =
    ap (map consumer_ring) c.in_ok-push.ensures.items ∙ map-append consumer_ring c.loop-k.rings.items (c.in_ok-producer.consumer ∷ []) in
    let next : suc i ≡ i + 1 = omega arith in
    record {
      feeds =
          all-set fan_rings fans i y (slice_index_or list i [] ++ id ∷ []) made
          ∙ ap (λ (rows : List (List RingId)). slice_set rows i (slice_index_or list i [] ++ id ∷ [])) inv.feeds
          ∙ appended-more first ids i id (length-map c.loop-k.rings.items consumer_ring ∙ inv.count) inside
          ∙ ap₂ (λ (n : ℕ) (l : List RingId). appended (take n first) l ++ drop n first) next (sym pushed);
      count = ap (λ (l : List _). length l) c.in_ok-push.ensures.items ∙ length-append c.loop-k.rings.items (c.in_ok-producer.consumer ∷ []) ∙ ap (λ (n : ℕ). n + 1) inv.count;
      fan_count = length-set fans i y ∙ inv.fan_count;
      given = λ before. none-more all_given [] fans i x y below was (c.in_ok-add.ensures.given ∙ ap (λ (l : List Parcel). all_given x ++ l ∷ []) (c.of.ensures.given ∙ c.in_ok-producer.ensures.producer.0)) (inv.given before);
      kept = λ before. none-more all_kept [] fans i x y below was (c.in_ok-add.ensures.kept ∙ ap (λ (l : List Parcel). all_kept x ++ l ∷ []) c.of.ensures.kept) (inv.kept before);
      free = λ before. none-more all_free c.args.slots fans i x y below was (c.in_ok-add.ensures.free ∙ ap (λ (n : ℕ). all_free x ++ n ∷ []) (c.of.ensures.free ∙ c.in_ok-producer.ensures.producer.1)) (inv.free before);
      taken = λ k.
          ap (λ (l : List (List Parcel)). slice_index_or l k [])
          (ap (map received) c.in_ok-push.ensures.items ∙ map-append received c.loop-k.rings.items (c.in_ok-producer.consumer ∷ [])
          ∙ ap (λ (l : List Parcel). map received c.loop-k.rings.items ++ l ∷ []) c.in_ok-producer.ensures.consumer.0)
          ∙ snoc-none (map received c.loop-k.rings.items) [] inv.taken k;
    }
