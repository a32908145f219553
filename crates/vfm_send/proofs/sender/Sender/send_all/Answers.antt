use Rattle.vfm_send.proofs.SendLemmas.{given_stays}
use Rattle.vfm_send.proofs.sender.Sender.send_all.Goals as goal

pub returns-then-sent-len-clause-given : goal.returns-then-sent-len-clause-given
returns-then-sent-len-clause-given g c =
    given_stays (g.L.Link.sent c.args.self.now.link) (g.L.Link.sent c.send_bytes-sent.new.link)
    c.args.self.now.outbox.items c.deref.result.now c.args.self.now.at c.send_bytes-sent.result c.deref.ensures.value c.send_bytes-sent.ensures.sent
