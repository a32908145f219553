use Rattle.std.proofs.Common.{◌≡◌, ◌∙◌, refl, sym, subst, ℕ, ◌+◌, ◌<◌, Option, List, length, slice_set, arith}
use Rattle.vfm_send.specs.declared.sender.Sender.{Sender}
use Rattle.vfm_outlets.specs.Carrying.{FirstFailed, OneSent, SenderFares}
use Rattle.vfm_outlets.proofs.Keeping.{SenderEnds}
use Rattle.vfm_outlets.proofs.Sending.{changed_more, first_more, untouched_more}
use Rattle.vfm_outlets.proofs.channels.end_each.Goals as goal

pub loop-k-init : goal.loop-k-init
loop-k-init g c = record {
  failed = λ k d below. absurd (omega (arith, below));
  ends = λ k d below. absurd (omega (arith, below));
  untouched = λ j d above. refl;
  count = refl;
  fares = λ k d below. absurd (omega (arith, below));
  received = refl;
  ended = refl;
  failed_in = refl;
}

pub loop-k-preserved : goal.loop-k-preserved
loop-k-preserved g c =
    let inside : c.loop-k.k < length c.loop-k.senders = omega (arith, c.loop-k-test.true, c.loop-k.auto.senders) in
    record {
      failed =
          let one : OneSent c.loop-k.senders c.loop-k.k c.end_one-failed.new.senders c.end_one-failed.result = c.end_one-failed.ensures.sent in
          subst (λ (now : List (Sender g.row.L.Denot)). FirstFailed now (c.loop-k.k + 1) c.sooner-least.result) (sym one.place)
          (subst (λ (least : Option ℕ). FirstFailed (slice_set c.loop-k.senders c.loop-k.k one.sender) (c.loop-k.k + 1) least) (sym c.sooner-least.ensures)
          (first_more c.loop-k.senders c.loop-k.k one.sender c.loop-k.least c.end_one-failed.result inside one.flag one.all c.loop-k.invariant.failed));
      ends =
          changed_more (SenderEnds g.L.Link.sent g.L.Link.finished c.args.abort c.args.session c.args.version)
          c.args.senders.now c.loop-k.senders c.end_one-failed.new.senders c.loop-k.k inside
          c.loop-k.invariant.untouched c.loop-k.invariant.ends c.end_one-failed.ensures.ends;
      untouched =
          untouched_more (SenderFares g.L.Link.failed_out) c.args.senders.now c.loop-k.senders c.end_one-failed.new.senders c.loop-k.k
          c.loop-k.invariant.untouched c.end_one-failed.ensures.fares;
      count = c.end_one-failed.ensures.count ∙ c.loop-k.invariant.count;
      fares =
          changed_more (SenderFares g.L.Link.failed_out) c.args.senders.now c.loop-k.senders c.end_one-failed.new.senders c.loop-k.k inside
          c.loop-k.invariant.untouched c.loop-k.invariant.fares c.end_one-failed.ensures.fares;
      received = c.end_one-failed.ensures.received ∙ c.loop-k.invariant.received;
      ended = c.end_one-failed.ensures.ended ∙ c.loop-k.invariant.ended;
      failed_in = c.end_one-failed.ensures.failed_in ∙ c.loop-k.invariant.failed_in;
    }
