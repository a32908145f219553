use Rattle.std.proofs.Common.{◌≡◌, ◌∙◌, sym, ap, subst, ℕ, ◌+◌, List, [], ◌∷◌, ◌++◌, length, map, slice_index_or, rules, arith}
use Rattle.std.proofs.lemmas.List.{length-map, length-append, map-append}
use Rattle.std.proofs.lemmas.List.Elements.{recursion_from_All, All-from_recursion}
use Rattle.vfm_mesh.specs.declared.parcel.Parcel.{Parcel}
use Rattle.vfm_mesh.specs.declared.fan.Fan.{Fan}
use Rattle.vfm_mesh.specs.declared.funnel.Funnel.{Funnel}
use Rattle.vfm_mesh.specs.Feeds.{RingId, feed_ring, feed_given, feed_kept, feed_free, consumer_ring}
use Rattle.vfm_mesh.specs.Rows.{fan_rings, funnel_rings, all_taken, stream_count, channel_count}
use Rattle.vfm_mesh.specs.Meshes.{AreJoined, cell}
use Rattle.vfm_mesh.proofs.Cells.{none-at, rows-none}
use Rattle.vfm_mesh.proofs.RowLemmas.{all-counted}
use Rattle.vfm_mesh.proofs.Joins.{stream-more}
use Rattle.vfm_mesh.proofs.mesh.Mesh.of.Goals as goal

pub loop-2-init : goal.loop-2-init
loop-2-init c =
    let fans = c.loop.fans.items in
    let empty = recursion_from_All (λ (fan : Fan). fan.feeds.items ≡ []) fans c.loop.invariant.empty in
    record {
      fan_count = search (rules, arith);
      funnel_count = ap (λ (l : List Funnel). length l) c.in_ok-funnels.ensures.items;
      mesh =
          subst (λ (l : List Funnel). AreJoined (map fan_rings fans) (map funnel_rings l)) (sym c.in_ok-funnels.ensures.items)
          (record {
            streams = λ k inside. ap (λ (l : List RingId). length l) (none-at feed_ring fans empty k);
            each = λ s inside. absurd (omega (arith, inside));
          });
      given = λ k s. ap (λ (l : List (List Parcel)). slice_index_or l s []) (none-at feed_given fans empty k);
      kept = λ k s. ap (λ (l : List (List Parcel)). slice_index_or l s []) (none-at feed_kept fans empty k);
      free = λ k s. ap (λ (l : List ℕ). slice_index_or l s c.args.slots) (none-at feed_free fans empty k);
      taken = λ k s. ap (λ (l : List Funnel). cell (map all_taken l) s k) c.in_ok-funnels.ensures.items;
    }

pub loop-2-preserved : goal.loop-2-preserved
loop-2-preserved c =
    let inv = c.loop-2.invariant in
    let funnel = c.in_ok-add_stream.field-0 in
    let old = c.loop-2.fans.items in
    let made = c.in_ok-add_stream.ensures in
    let pushed = c.in_ok-push-2.ensures.items in
    record {
      fan_count = made.fans ∙ inv.fan_count;
      funnel_count = ap (λ (l : List Funnel). length l) pushed ∙ length-append c.loop-2.funnels.items (funnel ∷ []) ∙ ap (λ (n : ℕ). n + 1) inv.funnel_count;
      mesh =
          subst (λ (l : List (List RingId)). AreJoined (map fan_rings c.add_stream.new.fans.items) l)
          (sym (ap (map funnel_rings) pushed ∙ map-append funnel_rings c.loop-2.funnels.items (funnel ∷ [])))
          (subst (λ (l : List (List RingId)). AreJoined l (map funnel_rings c.loop-2.funnels.items ++ funnel_rings funnel ∷ [])) (sym made.rings)
          (stream-more (map fan_rings old) (map funnel_rings c.loop-2.funnels.items) (funnel_rings funnel) inv.mesh
          (length-map funnel.rings.items consumer_ring ∙ made.channels ∙ sym (length-map old fan_rings))));
      given = made.given inv.given;
      kept = made.kept inv.kept;
      free = made.free inv.free;
      taken = λ k s.
          ap (λ (l : List (List (List Parcel))). cell l s k) (ap (map all_taken) pushed ∙ map-append all_taken c.loop-2.funnels.items (funnel ∷ []))
          ∙ rows-none (map all_taken c.loop-2.funnels.items) (all_taken funnel) (λ t j. inv.taken j t) made.taken s k;
    }

pub returns-clause-feeds : goal.returns-clause-feeds
returns-clause-feeds c =
    All-from_recursion (λ (fan : Fan). stream_count fan ≡ c.args.streams) c.loop-2.fans.items
    (all-counted stream_count fan_rings (λ fan. length-map fan.feeds.items feed_ring) c.loop-2.fans.items c.args.streams
    (λ k below. c.loop-2.invariant.mesh.streams k below ∙ length-map c.loop-2.funnels.items funnel_rings ∙ search (rules, arith)))

pub returns-clause-rings : goal.returns-clause-rings
returns-clause-rings c =
    All-from_recursion (λ (funnel : Funnel). channel_count funnel ≡ c.args.channels) c.loop-2.funnels.items
    (all-counted channel_count funnel_rings (λ funnel. length-map funnel.rings.items consumer_ring) c.loop-2.funnels.items c.args.channels
    (λ k below. (c.loop-2.invariant.mesh.each k below).channels ∙ length-map c.loop-2.fans.items fan_rings ∙ c.loop-2.invariant.fan_count))
