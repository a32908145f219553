use Rattle.std.proofs.Common.{◌≡◌, ◌∙◌, refl, sym, subst, ℕ, ◌+◌, ◌<◌, Option, List, length, slice_set, arith}
use Rattle.vfm_send.specs.declared.sender.Sender.{Sender}
use Rattle.vfm_send.specs.Sends.{left, link_of, SentPrefix}
use Rattle.vfm_outlets.specs.Carrying.{FirstFailed, OneSent, SenderFares}
use Rattle.vfm_outlets.proofs.Sending.{changed_more, first_more, untouched_more}
use Rattle.vfm_outlets.proofs.channels.send_each.Goals as goal

pub loop-k-init : goal.loop-k-init
loop-k-init g c = record {
  failed = λ k d below. absurd (omega (arith, below));
  given = refl;
  count = refl;
  fares = λ k d below. absurd (omega (arith, below));
  prefix = λ k d below. absurd (omega (arith, below));
  untouched = λ j d above. refl;
  received = refl;
  finished = refl;
  ended = refl;
  failed_in = refl;
}

pub loop-k-preserved : goal.loop-k-preserved
loop-k-preserved g c =
    let inside : c.loop-k.k < length c.loop-k.senders = omega (arith, c.loop-k-test.true, c.loop-k.auto.senders) in
    record {
      failed =
          let one : OneSent c.loop-k.senders c.loop-k.k c.send_one-failed.new.senders c.send_one-failed.result = c.send_one-failed.ensures.sent in
          subst (λ (now : List (Sender g.row.L.Denot)). FirstFailed now (c.loop-k.k + 1) c.sooner-least.result) (sym one.place)
          (subst (λ (least : Option ℕ). FirstFailed (slice_set c.loop-k.senders c.loop-k.k one.sender) (c.loop-k.k + 1) least) (sym c.sooner-least.ensures)
          (first_more c.loop-k.senders c.loop-k.k one.sender c.loop-k.least c.send_one-failed.result inside one.flag one.all c.loop-k.invariant.failed));
      given = c.send_one-failed.ensures.given ∙ c.loop-k.invariant.given;
      count = c.send_one-failed.ensures.count ∙ c.loop-k.invariant.count;
      fares =
          changed_more (SenderFares g.L.Link.failed_out) c.args.senders.now c.loop-k.senders c.send_one-failed.new.senders c.loop-k.k inside
          c.loop-k.invariant.untouched c.loop-k.invariant.fares c.send_one-failed.ensures.fares;
      prefix =
          changed_more (λ (was now : Sender g.row.L.Denot). SentPrefix (g.L.Link.sent (link_of was)) (g.L.Link.sent (link_of now)) (left was))
          c.args.senders.now c.loop-k.senders c.send_one-failed.new.senders c.loop-k.k inside
          c.loop-k.invariant.untouched c.loop-k.invariant.prefix c.send_one-failed.ensures.prefix;
      untouched =
          untouched_more (SenderFares g.L.Link.failed_out) c.args.senders.now c.loop-k.senders c.send_one-failed.new.senders c.loop-k.k
          c.loop-k.invariant.untouched c.send_one-failed.ensures.fares;
      received = c.send_one-failed.ensures.received ∙ c.loop-k.invariant.received;
      finished = c.send_one-failed.ensures.finished ∙ c.loop-k.invariant.finished;
      ended = c.send_one-failed.ensures.ended ∙ c.loop-k.invariant.ended;
      failed_in = c.send_one-failed.ensures.failed_in ∙ c.loop-k.invariant.failed_in;
    }
