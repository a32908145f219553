use Rattle.std.proofs.Common.{◌≡◌, ◌∙◌, sym, ap, ap₂, subst, ℕ, ◌<◌, List, [], ◌++◌, length, map, slice_index_or, rules, arith, ⊎_elim}
use Rattle.std.proofs.lemmas.Bool.{cases_eq}
use Rattle.std.proofs.lemmas.List.{length-map, length-set, get_or-set_other}
use Rattle.vfm_mesh.specs.declared.parcel.Parcel.{Parcel}
use Rattle.vfm_mesh.specs.Feeds.{RingId, feed_ring}
use Rattle.vfm_mesh.specs.Rows.{all_given, all_kept, fan_rings, all_known, taken, known}
use Rattle.vfm_mesh.specs.Meshes.{cell}
use Rattle.vfm_mesh.proofs.RowLemmas.{read-at, none-set}
use Rattle.vfm_mesh.proofs.Cells.{cell-was}
use Rattle.vfm_mesh.proofs.settling.see_stream.Goals as goal

pub see_all-requires-clause-stream : goal.see_all-requires-clause-stream
see_all-requires-clause-stream c =
    let k = c.loop-channel.channel in
    let below : k < length c.loop-channel.fans.items = search (rules, arith) in
    let first : k < length (map fan_rings c.args.fans.now.items) = omega (arith, below, length-map c.args.fans.now.items fan_rings, c.loop-channel.invariant.count) in
    subst (λ (n : ℕ). c.args.stream < n)
    (ap (λ (l : List RingId). length l)
    (ap (λ (rows : List (List RingId)). slice_index_or rows k []) (sym c.loop-channel.invariant.rings)
    ∙ read-at fan_rings c.loop-channel.fans.items k c.index_mut.result.now [] below c.index_mut.ensures.value)
    ∙ length-map c.index_mut.result.now.feeds.items feed_ring)
    (c.requires.inside k first)

pub loop-channel-preserved : goal.loop-channel-preserved
loop-channel-preserved c =
    let i = c.loop-channel.channel in
    let fans = c.loop-channel.fans.items in
    let inv = c.loop-channel.invariant in
    let x = c.index_mut.result.now in
    let y = c.see_all.new.self in
    let was = c.index_mut.ensures.value in
    let below : i < length c.loop-channel.fans.items = search (rules, arith) in
    record {
      given = none-set all_given fans i x y was c.see_all.ensures.given ∙ inv.given;
      kept = none-set all_kept fans i x y was c.see_all.ensures.kept ∙ inv.kept;
      rings = none-set fan_rings fans i x y was c.see_all.ensures.rings ∙ inv.rings;
      count = length-set fans i y ∙ inv.count;
      took = c.see_all.ensures.taken ∙ inv.took;
      funnel = c.see_all.ensures.funnel ∙ inv.funnel;
      sees = λ k more.
          ⊎_elim
          (λ (same : k ≡ i).
          subst (λ (j : ℕ). taken c.see_all.new.funnel j ++ (known c.see_all.new.funnel j ++ cell (map all_kept c.args.fans.now.items) j c.args.stream)
          ≡ cell (map all_given c.args.fans.now.items) j c.args.stream) (sym same)
          (ap (λ (l : List Parcel). taken c.see_all.new.funnel i ++ (known c.see_all.new.funnel i ++ l))
          (ap (λ (rows : List (List (List Parcel))). cell rows i c.args.stream) (sym inv.kept)
          ∙ cell-was all_kept fans i x y below was c.args.stream
          ∙ ap (λ (row : List (List Parcel)). slice_index_or row c.args.stream []) (sym c.see_all.ensures.kept))
          ∙ c.see_all.ensures.left
          ∙ ap (λ (row : List (List Parcel)). slice_index_or row c.args.stream []) c.see_all.ensures.given
          ∙ sym (cell-was all_given fans i x y below was c.args.stream)
          ∙ ap (λ (rows : List (List (List Parcel))). cell rows i c.args.stream) inv.given))
          (λ (away : k ≡ i → ⊥).
          ap₂ (λ (a b : List Parcel). a ++ (b ++ cell (map all_kept c.args.fans.now.items) k c.args.stream))
          (ap (λ (row : List (List Parcel)). slice_index_or row k []) c.see_all.ensures.taken)
          (ap (λ (row : List (List Parcel)). slice_index_or row k []) c.see_all.ensures.known
          ∙ get_or-set_other (all_known c.loop-channel.funnel) i k (known c.see_all.new.funnel i) [] away)
          ∙ inv.sees k (grind (arith, away, more))) (cases_eq k i);
    }
