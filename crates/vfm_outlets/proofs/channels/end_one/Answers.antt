use Rattle.std.proofs.Common.{◌≡◌, ◌∙◌, refl, ap, ◌++◌, slice_index_or}
use Rattle.std.proofs.Math.Seq.{map-set_same}
use Rattle.std.proofs.lemmas.List.{get_or_default}
use Rattle.vfm_packet.specs.Packet.{packet_bytes}
use Rattle.vfm_send.specs.declared.sender.Sender.{Sender}
use Rattle.vfm_send.specs.Sends.{has_failed, left, link_of, mark_of}
use Rattle.vfm_outlets.proofs.Faring.{fares_of}
use Rattle.vfm_outlets.proofs.Given.{ok_of, flag_of, begun_either}
use Rattle.vfm_outlets.proofs.channels.end_one.Goals as goal

pub returns-clause-ends : goal.returns-clause-ends
returns-clause-ends g c =
    let was : Sender g.row.L.Denot = slice_index_or c.args.senders.now c.args.k c.index-senders-k.result in
    let flag : c.is_err.result ≡ has_failed c.end.new.self =
    c.is_err.ensures.value
    ∙ flag_of (has_failed was) (has_failed c.end.new.self) c.end.result c.end.ensures.failed (λ failed. (c.end.ensures.silent failed).0) in
    record {
      sender = c.end.new.self;
      was = was;
      place = refl;
      there = λ d. get_or_default c.args.senders.now c.args.k d c.index-senders-k.result c.requires.channel;
      changed = record {
        whole = λ fine. (
          ok_of c.is_err.result c.end.result _ c.is_err.ensures.value c.end.ensures.sent (flag ∙ fine),
          ok_of c.is_err.result c.end.result _ c.is_err.ensures.value c.end.ensures.finished (flag ∙ fine),
        );
        begun = begun_either (g.L.Link.sent (link_of was)) (g.L.Link.sent (link_of c.end.new.self))
            (left was ++ packet_bytes (mark_of c.args.abort c.args.session c.args.version)) c.end.result c.end.ensures.sent c.end.ensures.prefix;
      };
    }

pub returns-clause-received : goal.returns-clause-received
returns-clause-received g c =
    map-set_same (λ s. g.L.Link.received (link_of s)) c.args.senders.now c.args.k c.end.new.self c.index-senders-k.result
    c.end.ensures.received

pub returns-clause-failed_in : goal.returns-clause-failed_in
returns-clause-failed_in g c =
    map-set_same (λ s. g.L.Link.failed_in (link_of s)) c.args.senders.now c.args.k c.end.new.self c.index-senders-k.result
    c.end.ensures.failed_in

pub returns-clause-sent : goal.returns-clause-sent
returns-clause-sent g c = record {
  sender = c.end.new.self;
  place = refl;
  flag =
      c.is_err.ensures.value
      ∙ flag_of (has_failed (slice_index_or c.args.senders.now c.args.k c.index-senders-k.result)) (has_failed c.end.new.self)
      c.end.result c.end.ensures.failed (λ failed. (c.end.ensures.silent failed).0);
  all = ok_of c.is_err.result c.end.result _ c.is_err.ensures.value c.end.ensures.all;
}

pub returns-clause-ended : goal.returns-clause-ended
returns-clause-ended g c =
    map-set_same (λ s. g.L.Link.ended (link_of s)) c.args.senders.now c.args.k c.end.new.self c.index-senders-k.result
    c.end.ensures.ended

pub returns-clause-fares : goal.returns-clause-fares
returns-clause-fares g c =
    let was : Sender g.row.L.Denot = slice_index_or c.args.senders.now c.args.k c.index-senders-k.result in
    record {
      sender = c.end.new.self;
      was = was;
      place = refl;
      there = λ d. get_or_default c.args.senders.now c.args.k d c.index-senders-k.result c.requires.channel;
      changed =
          fares_of (has_failed was) (has_failed c.end.new.self) (g.L.Link.failed_out (link_of was)) (g.L.Link.failed_out (link_of c.end.new.self))
          c.end.result c.end.ensures.failed c.end.ensures.never_falls c.end.ensures.ok c.end.ensures.fault
          (λ failed. ap g.L.Link.failed_out (c.end.ensures.silent failed).1);
    }
