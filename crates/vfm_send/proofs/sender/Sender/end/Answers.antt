use Rattle.std.proofs.Common.{◌≡◌, ◌∙◌, subst, List, ℕ, ◌++◌}
use Rattle.vfm_packet.specs.Packet.{packet_bytes}
use Rattle.vfm_outside.proofs.ToldLemmas.{on_err}
use Rattle.vfm_send.specs.Sends.{left, link_of, mark_of, SentPrefix}
use Rattle.vfm_send.proofs.SendLemmas.{prefix_more}
use Rattle.vfm_send.proofs.sender.Sender.end.Goals as goal

pub returns-then-sent-bytes-clause-prefix : goal.returns-then-sent-bytes-clause-prefix
returns-then-sent-bytes-clause-prefix g c =
    let start = g.L.Link.sent (link_of c.args.self.now) in
    let now = g.L.Link.sent c.send_bytes-sent.new.link in
    let mark : c.bytes.result.now ≡ packet_bytes (mark_of c.args.abort c.args.session c.args.version) = c.bytes.ensures ∙ c.of-mark.ensures in
    subst (λ (l : List ℕ). SentPrefix start now (left c.args.self.now ++ l)) mark
    (prefix_more start (g.L.Link.sent (link_of c.send_all.new.self)) now (left c.args.self.now) c.bytes.result.now c.send_bytes-sent.result
    c.in_ok-send_all.ensures.sent c.send_bytes-sent.ensures.sent c.send_bytes-sent.ensures.number)

pub returns-clause-prefix : goal.returns-clause-prefix
returns-clause-prefix g c =
    let start = g.L.Link.sent (link_of c.args.self.now) in
    let now = g.L.Link.sent (link_of c.finish.new.self) in
    let mark : c.bytes.result.now ≡ packet_bytes (mark_of c.args.abort c.args.session c.args.version) = c.bytes.ensures ∙ c.of-mark.ensures in
    on_err c.finish.result _
    (subst (λ (l : List ℕ). SentPrefix start now (left c.args.self.now ++ l)) mark
    (prefix_more start (g.L.Link.sent (link_of c.send_all.new.self)) now (left c.args.self.now) c.bytes.result.now c.send_bytes-sent.result
    c.in_ok-send_all.ensures.sent (c.finish.ensures.sent ∙ c.send_bytes-sent.ensures.sent) c.send_bytes-sent.ensures.number))
