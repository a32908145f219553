-- Without memory for the channels every link is told that the source gives up.
use Rattle.std.proofs.Common.{List, Result, ap, map, sym, subst, ◌∙◌}
use Rattle.std.proofs.lemmas.Bool.{false≢true}
use Rattle.vfm_types.specs.declared.desc.Desc.{Desc}
use Rattle.vfm_types.specs.Phases.{is_failed}
use Rattle.vfm_source.specs.declared.fault.OfferFault.{OfferFault}
use Rattle.vfm_source.specs.Offers.{Offer, Offers, abort_bytes, offer_of, told}
use Rattle.vfm_source.specs.Refusals.{AllRefused, IsFirstRefusal}
use Rattle.vfm_source.proofs.RefusedOffers.{refused_offers}
use Rattle.vfm_source.proofs.offering.send_move.Goals as goal

pub send_over-requires-clause-early : goal.send_over-requires-clause-early
send_over-requires-clause-early g c κs within some failed =
    absurd (false≢true (sym (ap is_failed c.requires.fresh) ∙ failed))

pub returns-in-Err-clause-offers : goal.returns-in-Err-clause-offers
returns-in-Err-clause-offers g c =
    let tell = told g.L.Link.sent g.L.Link.finished g.L.Link.failed_out in
    let D = c.args.core.now.desc in
    let now = map tell c.refuse_all.result.0.items in
    let offer : Offer = offer_of c.args.core.now c.args.abort_after (map tell c.args.links.items) now in
    let all : AllRefused (abort_bytes D) D.channels (map tell c.args.links.items) now =
    subst (λ (E : Desc). AllRefused (abort_bytes E) E.channels (map tell c.args.links.items) now) c.desc-in-Err.ensures.value
    (subst (λ (links : List g.row.L.Denot). AllRefused (abort_bytes c.desc-in-Err.result.now) c.desc-in-Err.result.now.channels (map tell links) now) c.in-Err.ensures.back
    c.refuse_all.ensures.refused) in
    let fault = c.refuse_all.ensures.fault in
    let least : IsFirstRefusal D.channels (map tell c.args.links.items) now fault.0 =
    subst (λ (E : Desc). IsFirstRefusal E.channels (map tell c.args.links.items) now fault.0) c.desc-in-Err.ensures.value
    (subst (λ (links : List g.row.L.Denot). IsFirstRefusal c.desc-in-Err.result.now.channels (map tell links) now fault.0) c.in-Err.ensures.back fault.1) in
    subst (λ (r : Result (Unit {0}) OfferFault). Offers offer r) (sym fault.2) (refused_offers offer c.requires.fresh all fault.0 least)
