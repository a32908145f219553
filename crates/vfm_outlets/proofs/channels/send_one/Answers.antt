use Rattle.std.proofs.Common.{◌∙◌, refl, ap, slice_index_or}
use Rattle.std.proofs.Math.Seq.{map-set_same}
use Rattle.std.proofs.lemmas.List.{get_or_default}
use Rattle.vfm_send.specs.declared.sender.Sender.{Sender}
use Rattle.vfm_send.specs.Sends.{given, has_failed, left, link_of}
use Rattle.vfm_outlets.proofs.Faring.{fares_of}
use Rattle.vfm_outlets.proofs.Given.{begun_either, flag_of, ok_of}
use Rattle.vfm_outlets.proofs.channels.send_one.Goals as goal

pub returns-clause-given : goal.returns-clause-given
returns-clause-given g c =
    map-set_same (given g.L.Link.sent) c.args.senders.now c.args.k c.send_all.new.self c.index-senders-k.result c.send_all.ensures.given

pub returns-clause-received : goal.returns-clause-received
returns-clause-received g c =
    map-set_same (λ s. g.L.Link.received (link_of s)) c.args.senders.now c.args.k c.send_all.new.self c.index-senders-k.result
    c.send_all.ensures.received

pub returns-clause-finished : goal.returns-clause-finished
returns-clause-finished g c =
    map-set_same (λ s. g.L.Link.finished (link_of s)) c.args.senders.now c.args.k c.send_all.new.self c.index-senders-k.result
    c.send_all.ensures.finished

pub returns-clause-ended : goal.returns-clause-ended
returns-clause-ended g c =
    map-set_same (λ s. g.L.Link.ended (link_of s)) c.args.senders.now c.args.k c.send_all.new.self c.index-senders-k.result
    c.send_all.ensures.ended

pub returns-clause-failed_in : goal.returns-clause-failed_in
returns-clause-failed_in g c =
    map-set_same (λ s. g.L.Link.failed_in (link_of s)) c.args.senders.now c.args.k c.send_all.new.self c.index-senders-k.result
    c.send_all.ensures.failed_in

pub returns-clause-sent : goal.returns-clause-sent
returns-clause-sent g c = record {
  sender = c.send_all.new.self;
  place = refl;
  flag =
      c.is_err.ensures.value
      ∙ flag_of (has_failed (slice_index_or c.args.senders.now c.args.k c.index-senders-k.result)) (has_failed c.send_all.new.self)
      c.send_all.result c.send_all.ensures.failed (λ failed. (c.send_all.ensures.silent failed).0);
  all = ok_of c.is_err.result c.send_all.result _ c.is_err.ensures.value c.send_all.ensures.all;
}

pub returns-clause-fares : goal.returns-clause-fares
returns-clause-fares g c =
    let was : Sender g.row.L.Denot = slice_index_or c.args.senders.now c.args.k c.index-senders-k.result in
    record {
      sender = c.send_all.new.self;
      was = was;
      place = refl;
      there = λ d. get_or_default c.args.senders.now c.args.k d c.index-senders-k.result c.requires.channel;
      changed =
          fares_of (has_failed was) (has_failed c.send_all.new.self) (g.L.Link.failed_out (link_of was))
          (g.L.Link.failed_out (link_of c.send_all.new.self)) c.send_all.result c.send_all.ensures.failed c.send_all.ensures.never_falls
          c.send_all.ensures.ok c.send_all.ensures.fault (λ failed. ap g.L.Link.failed_out (c.send_all.ensures.silent failed).1);
    }

pub returns-clause-prefix : goal.returns-clause-prefix
returns-clause-prefix g c =
    let was : Sender g.row.L.Denot = slice_index_or c.args.senders.now c.args.k c.index-senders-k.result in
    record {
      sender = c.send_all.new.self;
      was = was;
      place = refl;
      there = λ d. get_or_default c.args.senders.now c.args.k d c.index-senders-k.result c.requires.channel;
      changed =
          begun_either (g.L.Link.sent (link_of was)) (g.L.Link.sent (link_of c.send_all.new.self)) (left was) c.send_all.result
          c.send_all.ensures.sent c.send_all.ensures.prefix;
    }
