-- What was sent is told with the digest of the machine at the joint stop.
use Rattle.std.proofs.Common.{◌≡◌, ℕ, List, Result, IfOk, map, sym, subst}
use Rattle.vfm_types.specs.Deliveries.{joint_machine}
use Rattle.vfm_plain.specs.StateText.{state_digest}
use Rattle.vfm_core.specs.CoreState.{CoreState}
use Rattle.vfm_source.specs.declared.fault.OfferFault.{OfferFault}
use Rattle.vfm_source.specs.Moving.{past_in}
use Rattle.vfm_source.specs.Offers.{FailsBeforePass, IsComplete, TellsFail, Told, offer_of, told}
use Rattle.vfm_source.proofs.Sources.{complete_with, digest_with, early_with, fails_with}
use Rattle.vfm_source.proofs.mover.Mover.offer.Goals as goal

pub returns-clause-arc_failed : goal.returns-clause-arc_failed
returns-clause-arc_failed g c =
    let tell = told g.L.Link.sent g.L.Link.finished g.L.Link.failed_out in
    let core = c.send_move-links.new.core in
    let before : List Told = map tell c.args.links.items in
    let now : List Told = map tell c.send_move-links.result.0.items in
    subst (λ (s : CoreState). TellsFail (offer_of s c.args.abort_after before now) c.conclude.result) (sym c.conclude.ensures.core)
    (subst (λ (r : Result (List ℕ) OfferFault). TellsFail (offer_of core c.args.abort_after before now) r) (sym c.conclude.ensures.answer)
    (fails_with (offer_of core c.args.abort_after before now) c.conclude.new.self.digest c.send_move-links.result.1 c.send_move-links.ensures.way.run.legal
    c.send_move-links.ensures.way.going c.send_move-links.ensures.offers.cause))

pub returns-clause-complete : goal.returns-clause-complete
returns-clause-complete g c =
    let tell = told g.L.Link.sent g.L.Link.finished g.L.Link.failed_out in
    let core = c.send_move-links.new.core in
    let before : List Told = map tell c.args.links.items in
    let now : List Told = map tell c.send_move-links.result.0.items in
    subst (λ (s : CoreState). IsComplete (offer_of s c.args.abort_after before now) c.conclude.result) (sym c.conclude.ensures.core)
    (subst (λ (r : Result (List ℕ) OfferFault). IsComplete (offer_of core c.args.abort_after before now) r) (sym c.conclude.ensures.answer)
    (complete_with (offer_of core c.args.abort_after before now) c.conclude.new.self.digest c.send_move-links.result.1 c.send_move-links.ensures.way.run.legal
    c.send_move-links.ensures.offers.cause))

pub returns-clause-early : goal.returns-clause-early
returns-clause-early g c =
    let tell = told g.L.Link.sent g.L.Link.finished g.L.Link.failed_out in
    let core = c.send_move-links.new.core in
    let before : List Told = map tell c.args.links.items in
    let now : List Told = map tell c.send_move-links.result.0.items in
    subst (λ (s : CoreState). FailsBeforePass (offer_of s c.args.abort_after before now) c.conclude.result) (sym c.conclude.ensures.core)
    (subst (λ (r : Result (List ℕ) OfferFault). FailsBeforePass (offer_of core c.args.abort_after before now) r) (sym c.conclude.ensures.answer)
    (early_with (offer_of core c.args.abort_after before now) c.conclude.new.self.digest c.send_move-links.result.1 c.send_move-links.ensures.offers.early))

pub returns-clause-digest : goal.returns-clause-digest
returns-clause-digest g c =
    let tell = told g.L.Link.sent g.L.Link.finished g.L.Link.failed_out in
    let core = c.send_move-links.new.core in
    let before : List Told = map tell c.args.links.items in
    let now : List Told = map tell c.send_move-links.result.0.items in
    let digest = c.conclude.new.self.digest in
    subst (λ (s : CoreState). IfOk c.conclude.result (λ told. (told ≡ state_digest s.desc (joint_machine s.desc (past_in s))) × (digest ≡ told)))
    (sym c.conclude.ensures.core)
    (subst (λ (r : Result (List ℕ) OfferFault). IfOk r (λ told. (told ≡ state_digest core.desc (joint_machine core.desc (past_in core))) × (digest ≡ told)))
    (sym c.conclude.ensures.answer)
    (digest_with core c.send_move-links.new.joint c.args.abort_after before now digest c.send_move-links.result.1 c.conclude.ensures.fits
    c.send_move-links.ensures.way c.send_move-links.ensures.offers.cause c.conclude.ensures.digest))
