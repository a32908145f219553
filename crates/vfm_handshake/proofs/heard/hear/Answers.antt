use Rattle.std.proofs.Common.{◌∙◌, rules, arith}
use Rattle.vfm_handshake.proofs.Hearing.{heard_more, length_with_piece, still_open}
use Rattle.vfm_handshake.proofs.heard.hear.Goals as goal

pub loop-len-preserved : goal.loop-len-preserved
loop-len-preserved g c = record {
  most = search (rules, arith);
  size = length_with_piece c.loop-len.bytes c.recv.new.buf c.loop-len.len c.loop-len.invariant.size c.loop-len.invariant.most (search (rules, arith));
  came = heard_more (g.L.Link.received c.args.control.now) (g.L.Link.received c.loop-len.control) (g.L.Link.received c.recv.new.self)
      c.loop-len.bytes c.recv.new.buf c.loop-len.len c.in_ok-n.n c.loop-len.invariant.size c.loop-len.invariant.most
      (search (rules, arith)) c.in_ok-n.ensures.given.0 c.loop-len.invariant.came c.in_ok-n.ensures.given.1;
  counted = c.in_ok-n.ensures.count.ok ∙ c.loop-len.invariant.counted;
  sent = c.recv.ensures.sent ∙ c.loop-len.invariant.sent;
  finished = c.recv.ensures.finished ∙ c.loop-len.invariant.finished;
  ended =
      c.in_ok-n.ensures.ended
      ∙ still_open (g.L.Link.ended c.loop-len.control) c.in_ok-n.n _ (search (rules, arith)) ∙ c.loop-len.invariant.ended;
  failed_out = c.recv.ensures.other_count ∙ c.loop-len.invariant.failed_out;
}
