-- One link more was told.
use Rattle.std.proofs.Common.{◌<◌, ◌+◌, Option, ℕ, length, map, sym, subst, arith}
use Rattle.std.proofs.lemmas.List.{length-map}
use Rattle.vfm_send.specs.Marks.{mark_bytes}
use Rattle.vfm_source.specs.Offers.{told}
use Rattle.vfm_source.specs.Refusals.{IsFirstRefusal}
use Rattle.vfm_source.specs.Rounds.{words}
use Rattle.vfm_source.proofs.Leaving.{hear_then}
use Rattle.vfm_source.proofs.Refused.{least_more, refused_more, untouched_more}
use Rattle.vfm_source.proofs.refusing.refuse_each.Goals as goal

pub loop-k-preserved : goal.loop-k-preserved
loop-k-preserved g c =
    let tell = told g.L.Link.sent g.L.Link.finished g.L.Link.failed_out in
    let start = map tell c.args.links.now in
    let before = map tell c.loop-k.links in
    let now = map tell c.refuse_one-failed.new.links in
    let many = length-map c.loop-k.links tell in
    let count = c.loop-k.invariant.hear.count in
    let test = c.loop-k-test.true in
    let auto = c.loop-k.auto.links in
    let inside : c.loop-k.k < length before = omega (arith, many, count, test, auto) in
    record {
      refused = refused_more (mark_bytes c.args.mark.now) start before now c.loop-k.k c.refuse_one-failed.result inside c.loop-k.invariant.untouched
          c.refuse_one-failed.ensures.refused c.loop-k.invariant.refused;
      least =
          subst (λ (least : Option ℕ). IsFirstRefusal (c.loop-k.k + 1) start now least) (sym c.sooner-least.ensures)
          (least_more (mark_bytes c.args.mark.now) start before now c.loop-k.k c.refuse_one-failed.result inside c.loop-k.invariant.untouched
          c.refuse_one-failed.ensures.refused c.loop-k.least c.loop-k.invariant.least);
      untouched = untouched_more (mark_bytes c.args.mark.now) start before now c.loop-k.k c.refuse_one-failed.result inside c.loop-k.invariant.untouched
          c.refuse_one-failed.ensures.refused;
      hear =
          hear_then (words g.L.Link.failed_out g.L.Link.failed_in g.L.Link.received g.L.Link.ended) c.args.links.now c.loop-k.links c.refuse_one-failed.new.links
          c.loop-k.invariant.hear c.refuse_one-failed.ensures.hear;
    }
