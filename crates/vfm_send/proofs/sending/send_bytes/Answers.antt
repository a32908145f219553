use Rattle.std.proofs.Common.{◌∙◌, arith, rules}
use Rattle.vfm_outside.proofs.ToldLemmas.{write-more}
use Rattle.vfm_send.proofs.sending.send_bytes.Goals as goal

pub loop-at-preserved : goal.loop-at-preserved
loop-at-preserved g c = record {
  in_range = search (rules, arith);
  counted = c.in-Ok.ensures.count.ok ∙ c.loop-at.invariant.counted;
  sent = write-more (g.L.Link.sent c.args.link.now) (g.L.Link.sent c.loop-at.link) (g.L.Link.sent c.send.new.self)
      c.args.bytes.now c.loop-at.at c.in-Ok.n c.loop-at.invariant.sent c.in-Ok.ensures.taken.2;
  finished = c.send.ensures.finished ∙ c.loop-at.invariant.finished;
  failed_in = c.send.ensures.other_count ∙ c.loop-at.invariant.failed_in;
  received = c.send.ensures.received ∙ c.loop-at.invariant.received;
  ended = c.send.ensures.ended ∙ c.loop-at.invariant.ended;
}
