-- What was sent over new links is all that they sent.
use Rattle.std.proofs.Common.{◌≡◌, ◌∙◌, length, ap, sym, subst}
use Rattle.std.proofs.lemmas.List.{length-map}
use Rattle.vfm_types.specs.declared.desc.Desc.{Desc}
use Rattle.vfm_core.specs.CoreState.{CoreState, FitsDesc}
use Rattle.vfm_migrate.proofs.Offers.{LinkWords, channels_sent, offered_for, own_digest_of, tell}
use Rattle.vfm_migrate.proofs.channels.offer.Goals as goal

pub returns-clause-offered : goal.returns-clause-offered
returns-clause-offered g c =
    let words : LinkWords g.row.L.Denot = record {
      ended = g.L.Link.ended;
      finished = g.L.Link.finished;
      failed_out = g.L.Link.failed_out;
      failed_in = g.L.Link.failed_in;
      sent = g.L.Link.sent;
      received = g.L.Link.received;
    } in
    let core = c.offer-offered.new.self.core in
    let before = c.args.links.items in
    let now = c.offer-offered.result.0.items in
    let result = c.offer-offered.result.1 in
    let count : length now ≡ length before = c.offer-offered.ensures.hear.count in
    let many : length before ≡ core.desc.channels =
    c.requires.channels ∙ sym (ap (λ (D : Desc). D.channels) c.offer-offered.ensures.desc) in
    record {
      fits = subst (λ (s : CoreState). FitsDesc s.desc s.world) c.core.ensures.value c.desc.ensures.fits;
      run = c.offer-offered.ensures.run.run;
      going = c.offer-offered.ensures.going;
      channels = length-map now (tell words) ∙ count ∙ many;
      sent = channels_sent words core c.args.abort_after before now many count c.requires.new result
          c.offer-offered.ensures.sent;
      why =
          offered_for words core c.args.abort_after before now many count c.requires.new result
          c.offer-offered.ensures.going
          c.offer-offered.ensures.cause c.offer-offered.ensures.pass c.offer-offered.ensures.early
          (own_digest_of core c.offer-offered.new.self.digest result c.offer-offered.ensures.digest);
    }
