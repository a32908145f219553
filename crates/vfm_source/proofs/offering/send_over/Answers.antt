-- The rounds, the records that close the streams and the end of the channels make an offer.
use Rattle.std.proofs.Common.{◌≡◌, List, Result, length, map, sym, subst, ◌∙◌}
use Rattle.vfm_outlets.specs.Carrying.{links_of}
use Rattle.vfm_outlets.proofs.Faring.{same_count}
use Rattle.vfm_source.specs.declared.fault.OfferFault.{OfferFault}
use Rattle.vfm_source.specs.Moving.{IsMoving, past_in}
use Rattle.vfm_source.specs.Offers.{Offer, Offers, offer_of, outcome_of, told}
use Rattle.vfm_source.specs.Rounds.{LinkWords, words}
use Rattle.vfm_source.proofs.Channels.{AreEnded, Stages, Words, facts_at, flag_of, none_failed, some_failed}
use Rattle.vfm_source.proofs.Finishing.{Ended, fares_in_all}
use Rattle.vfm_source.proofs.Outcomes.{Facts, offers_of}
use Rattle.vfm_source.proofs.offering.send_over.Goals as goal

pub returns-clause-offers : goal.returns-clause-offers
returns-clause-offers g c =
    let L = g.row.L.Denot in
    let core = c.make_rounds-stop.new.core in
    let D = core.desc in
    let past = past_in core in
    let first = c.args.outlets in
    let rounds = c.make_rounds-stop.new.outlets in
    let shut = c.close-closed.new.outlets in
    let last = c.end-channel.new.self in
    let say : LinkWords L = words g.L.Link.failed_out g.L.Link.failed_in g.L.Link.received g.L.Link.ended in
    let tell = told g.L.Link.sent g.L.Link.finished g.L.Link.failed_out in
    let starts = map g.L.Link.sent (links_of first) in
    let moving : IsMoving g.L.Link.sent starts c.make_rounds-stop.new.joint core rounds = c.make_rounds-stop.ensures.moves starts c.requires.moving in
    let leaves = c.make_rounds-stop.ensures.leaves in
    let ended : Ended say shut last =
    record {
      count = c.end-channel.ensures.count;
      fares = c.end-channel.ensures.fares;
      failed_in = c.end-channel.ensures.failed_in;
      received = c.end-channel.ensures.received;
      heard = c.end-channel.ensures.ended;
    } in
    let closed_many : length shut.senders.items ≡ D.channels = same_count rounds shut c.close-closed.ensures.links ∙ moving.carries.channels in
    let last_many : length last.senders.items ≡ D.channels = c.end-channel.ensures.count ∙ closed_many in
    let own : Words L = record { sent = g.L.Link.sent; finished = g.L.Link.finished; failed_out = g.L.Link.failed_out } in
    let stages : Stages L = record { first = first; closed = shut; last = last } in
    let are : AreEnded own D past c.close-closed.result stages =
    record {
      first = sym leaves.count ∙ moving.carries.channels;
      last = last_many;
      unfailed = c.requires.unfailed;
      fares = fares_in_all say first rounds shut last leaves c.close-closed.ensures.links c.close-closed.ensures.failed ended;
      part = c.close-closed.ensures.part starts moving;
      whole = λ all. c.close-closed.ensures.whole all starts moving;
      shares = λ all carries k link inside. c.end-channel.ensures.shares D starts all carries k link inside;
    } in
    let offer : Offer = offer_of core c.args.abort_after (map tell (links_of first)) (map tell (links_of last)) in
    let facts : Facts offer c.failed_arc.result c.end-channel.result c.make_rounds-stop.result c.close-closed.result =
    record {
      going = moving.way.going;
      arc_some = c.failed_arc.ensures.some;
      arc_none = c.failed_arc.ensures.none;
      stopped = c.make_rounds-stop.ensures.stops;
      early = c.make_rounds-stop.ensures.early c.requires.early;
      done = c.close-closed.ensures.done;
      failed = flag_of stages;
      channels = λ k inside. facts_at own D past c.close-closed.result stages are k inside;
      none = none_failed last (length shut.senders.items) D.channels closed_many last_many c.end-channel.result c.end-channel.ensures.failed;
      some = some_failed last (length shut.senders.items) D.channels closed_many last_many c.end-channel.result c.end-channel.ensures.failed;
    } in
    subst (λ (r : Result (Unit {0}) OfferFault). Offers (offer_of core c.args.abort_after (map tell (links_of first)) (map tell c.into_links.result.items)) r)
    (sym c.outcome-result.ensures)
    (subst (λ (links : List L). Offers (offer_of core c.args.abort_after (map tell (links_of first)) (map tell links))
    (outcome_of c.failed_arc.result c.end-channel.result c.make_rounds-stop.result c.close-closed.result c.args.abort_after))
    (sym c.into_links.ensures)
    (offers_of offer c.failed_arc.result c.end-channel.result c.make_rounds-stop.result c.close-closed.result facts))
