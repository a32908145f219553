-- An offer that failed decides the move.
use Rattle.std.proofs.Common.{ℕ, List, None, Err, Result, sym, subst}
use Rattle.vfm_outside.specs.Carried.{told_by}
use Rattle.vfm_outside.specs.Links.{Told, ToldEnds}
use Rattle.vfm_source.specs.declared.fault.OfferFault.{OfferFault}
use Rattle.vfm_status.specs.declared.status.Status.{Status}
use Rattle.vfm_migrate.specs.Answers.{ends_of}
use Rattle.vfm_migrate.specs.Carrying.{ComesTo}
use Rattle.vfm_migrate.specs.Offered.{IsOffered}
use Rattle.vfm_migrate.specs.declared.step.Step.TheVariants as steps
use Rattle.vfm_migrate.proofs.Answering.{offer_failed}
use Rattle.vfm_migrate.proofs.Hearing.{offers_on, still_unheard}
use Rattle.vfm_migrate.proofs.carrying.shake.Goals as goal

pub returns-in-Err-clause-step : goal.returns-in-Err-clause-step
returns-in-Err-clause-step g c = λ attempt from to offered staged_for.
    let T = told_by g.L.Link.ended g.L.Link.failed_out g.L.Link.failed_in g.L.Link.sent g.L.Link.received in
    let core = c.args.mover.now.core in
    let fault = c.in-Err.fault in
    let before : Told = T c.args.dest.now in
    let now : Told = T c.refuse.new.dest in
    let ends : ToldEnds = ends_of from to (T c.args.source.now) now in
    let failed : IsOffered attempt.abort_after core from (Err fault) =
    subst (λ (r : Result (List ℕ) OfferFault). IsOffered attempt.abort_after core from r) c.in-Err.is offered in
    subst (λ (s : Status). ComesTo attempt core c.args.mover.now.digest ends (steps.Decided s None))
    (sym c.offer_status.ensures) (
      offer_failed attempt core ends fault failed c.requires.source
          (still_unheard before now c.requires.dest c.refuse.ensures.received c.refuse.ensures.ended),
      offers_on fault,
    )
