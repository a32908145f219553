use Rattle.std.proofs.Common.{◌≡◌, ◌∙◌, sym, ap, ap₂, subst, ℕ, ◌<◌, List, [], ◌++◌, length, map, slice_index_or, slice_set, rules, arith, ⊎_elim}
use Rattle.std.proofs.lemmas.Bool.{cases_eq}
use Rattle.std.proofs.lemmas.List.{length-map, length-set, map-set, get_or-set_other}
use Rattle.vfm_mesh.specs.declared.parcel.Parcel.{Parcel}
use Rattle.vfm_mesh.specs.Feeds.{RingId, feed_ring, consumer_ring}
use Rattle.vfm_mesh.specs.Rows.{all_given, all_kept, fan_rings, all_known, all_taken, stream_count, channel_count, funnel_rings}
use Rattle.vfm_mesh.specs.Meshes.{cell, IsStream}
use Rattle.vfm_mesh.proofs.RowLemmas.{read-at, none-set, all-same}
use Rattle.vfm_mesh.proofs.Cells.{cell-was, cell-set}
use Rattle.vfm_mesh.proofs.settling.settle.Goals as goal

pub see_stream-requires : goal.see_stream-requires
see_stream-requires c =
    let s = c.loop-stream.stream in
    let funnels = c.loop-stream.funnels.items in
    let below : s < length c.loop-stream.funnels.items = search (rules, arith) in
    let first : s < length (map funnel_rings c.args.funnels.items) = omega (arith, below, length-map c.args.funnels.items funnel_rings, c.loop-stream.invariant.funnel_count) in
    let rings : slice_index_or (map funnel_rings c.args.funnels.items) s [] ≡ funnel_rings c.index_mut.result.now =
    ap (λ (rows : List (List RingId)). slice_index_or rows s []) (sym c.loop-stream.invariant.rings)
    ∙ read-at funnel_rings funnels s c.index_mut.result.now [] below c.index_mut.ensures.value in
    subst (λ (l : List RingId). IsStream (map fan_rings c.loop-stream.fans.items) l s) rings
    (subst (λ (rows : List (List RingId)). IsStream rows (slice_index_or (map funnel_rings c.args.funnels.items) s []) s) (sym c.loop-stream.invariant.feeds) (c.requires.mesh.each s first))

pub loop-stream-preserved : goal.loop-stream-preserved
loop-stream-preserved c =
    let i = c.loop-stream.stream in
    let funnels = c.loop-stream.funnels.items in
    let inv = c.loop-stream.invariant in
    let x = c.index_mut.result.now in
    let y = c.see_stream.new.funnel in
    let was = c.index_mut.ensures.value in
    let below : i < length c.loop-stream.funnels.items = search (rules, arith) in
    record {
      given = c.see_stream.ensures.given ∙ inv.given;
      kept = c.see_stream.ensures.kept ∙ inv.kept;
      feeds = c.see_stream.ensures.rings ∙ inv.feeds;
      took = none-set all_taken funnels i x y was c.see_stream.ensures.taken ∙ inv.took;
      rings = none-set funnel_rings funnels i x y was c.see_stream.ensures.funnel ∙ inv.rings;
      fan_count =
          sym (length-map c.see_stream.new.fans.items fan_rings)
          ∙ ap (λ (rows : List (List RingId)). length rows) c.see_stream.ensures.rings
          ∙ length-map c.loop-stream.fans.items fan_rings
          ∙ inv.fan_count;
      funnel_count = length-set funnels i y ∙ inv.funnel_count;
      sees = λ k s inside more.
          ⊎_elim
          (λ (same : s ≡ i).
          subst (λ (j : ℕ). cell (map all_taken c.args.funnels.items) j k ++ (cell (map all_known (slice_set funnels i y)) j k ++ cell (map all_kept c.args.fans.items) k j)
          ≡ cell (map all_given c.args.fans.items) k j) (sym same)
          (ap₂ (λ (a b : List Parcel). a ++ b)
          (ap (λ (rows : List (List (List Parcel))). cell rows i k) (sym inv.took)
          ∙ cell-was all_taken funnels i x y below was k
          ∙ ap (λ (row : List (List Parcel)). slice_index_or row k []) (sym c.see_stream.ensures.taken))
          (ap₂ (λ (a b : List Parcel). a ++ b)
          (cell-set all_known funnels i x y below k)
          (ap (λ (rows : List (List (List Parcel))). cell rows k i) (sym inv.kept)))
          ∙ c.see_stream.ensures.left k (omega (arith, inside, inv.fan_count))
          ∙ ap (λ (rows : List (List (List Parcel))). cell rows k i) inv.given))
          (λ (away : s ≡ i → ⊥).
          ap (λ (l : List Parcel). cell (map all_taken c.args.funnels.items) s k ++ (l ++ cell (map all_kept c.args.fans.items) k s))
          (ap (λ (rows : List (List (List Parcel))). cell rows s k) (map-set all_known funnels i y)
          ∙ ap (λ (row : List (List Parcel)). slice_index_or row k []) (get_or-set_other (map all_known funnels) i s (all_known y) [] away))
          ∙ inv.sees k s inside (grind (arith, away, more))) (cases_eq s i);
    }

pub invariant_of-result-clause-feeds : goal.invariant_of-result-clause-feeds
invariant_of-result-clause-feeds c =
    all-same stream_count fan_rings (λ fan. length-map fan.feeds.items feed_ring) c.loop-stream.fans.items (length c.loop-stream.funnels.items)
    (subst (λ (rows : List (List RingId)). (k : ℕ) → k < length rows → length (slice_index_or rows k []) ≡ length c.loop-stream.funnels.items)
    (sym c.loop-stream.invariant.feeds)
    (λ k below. c.requires.mesh.streams k below ∙ length-map c.args.funnels.items funnel_rings ∙ sym c.loop-stream.invariant.funnel_count))

pub invariant_of-result-clause-rings : goal.invariant_of-result-clause-rings
invariant_of-result-clause-rings c =
    all-same channel_count funnel_rings (λ funnel. length-map funnel.rings.items consumer_ring) c.loop-stream.funnels.items (length c.loop-stream.fans.items)
    (subst (λ (rows : List (List RingId)). (k : ℕ) → k < length rows → length (slice_index_or rows k []) ≡ length c.loop-stream.fans.items)
    (sym c.loop-stream.invariant.rings)
    (λ k below. (c.requires.mesh.each k below).channels ∙ length-map c.args.fans.items fan_rings ∙ sym c.loop-stream.invariant.fan_count))
