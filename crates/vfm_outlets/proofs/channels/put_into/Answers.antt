use Rattle.std.proofs.Math.Seq.{map-set_same}
use Rattle.vfm_packet.specs.Packet.{packet_bytes}
use Rattle.vfm_send.specs.Sends.{has_failed, link_of}
use Rattle.vfm_outlets.proofs.Given.{ok_then, err_then, all_given_more, all_given_same}
use Rattle.vfm_outlets.proofs.channels.put_into.Goals as goal

pub returns-clause-put : goal.returns-clause-put
returns-clause-put g c =
    ok_then c.put.result _ _
    (all_given_more g.L.Link.sent c.args.senders.now c.args.k c.put.new.self c.index-senders-k.result
    (packet_bytes (record { head = c.args.head.now; payload = c.args.payload.now })) c.requires.channel c.put.ensures.link)
    c.put.ensures.put

pub returns-clause-unchanged : goal.returns-clause-unchanged
returns-clause-unchanged g c =
    err_then c.put.result _ _
    (all_given_same g.L.Link.sent c.args.senders.now c.args.k c.put.new.self c.index-senders-k.result c.put.ensures.link)
    c.put.ensures.unchanged

pub returns-clause-links : goal.returns-clause-links
returns-clause-links g c = map-set_same link_of c.args.senders.now c.args.k c.put.new.self c.index-senders-k.result c.put.ensures.link

pub returns-clause-failed : goal.returns-clause-failed
returns-clause-failed g c = map-set_same has_failed c.args.senders.now c.args.k c.put.new.self c.index-senders-k.result c.put.ensures.failed
