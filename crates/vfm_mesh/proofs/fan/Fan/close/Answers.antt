use Rattle.std.proofs.Common.{◌∙◌, sym, subst, ℕ, ◌<◌, length, arith, rules}
use Rattle.std.proofs.lemmas.List.{get_or_default, length-map}
use Rattle.std.proofs.lemmas.List.Edits.{map_over_more}
use Rattle.vfm_mesh.specs.Feeds.{feed_given}
use Rattle.vfm_mesh.specs.Rows.{all_given, given, closed}
use Rattle.vfm_mesh.proofs.fan.Fan.close.Goals as goal

pub loop-stream-preserved : goal.loop-stream-preserved
loop-stream-preserved c =
    let before = all_given c.loop-stream.self in
    let below : c.loop-stream.stream < length c.args.self.now.feeds.items = search (rules, arith) in
    let inside : c.loop-stream.stream < length (all_given c.args.self.now) = subst (λ (n : ℕ). c.loop-stream.stream < n) (sym (length-map c.args.self.now.feeds.items feed_given)) below in
    let here : c.loop-stream.stream < length before = omega (arith, inside, length-map c.args.self.now.feeds.items feed_given, length-map c.loop-stream.self.feeds.items feed_given, c.loop-stream.invariant.streams) in
    record {
      closed =
          c.in-Ok.ensures.given
          ∙ map_over_more closed (all_given c.args.self.now) before c.loop-stream.stream (given c.loop-stream.self c.loop-stream.stream) inside c.loop-stream.invariant.closed
          (get_or_default before c.loop-stream.stream _ _ here);
      rings = c.offer_at.ensures.rings ∙ c.loop-stream.invariant.rings;
      streams = c.offer_at.ensures.streams ∙ c.loop-stream.invariant.streams;
    }
