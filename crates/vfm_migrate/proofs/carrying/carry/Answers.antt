-- What was offered, staged and answered, of one attempt.
use Rattle.std.proofs.Common.{ℕ, List, map, sym, subst}
use Rattle.vfm_outside.specs.Carried.{told_by}
use Rattle.vfm_outside.specs.Links.{Told, ToldEnds}
use Rattle.vfm_core.specs.CoreState.{CoreState}
use Rattle.vfm_migrate.specs.Answers.{ends_of}
use Rattle.vfm_migrate.specs.Carrying.{ComesTo}
use Rattle.vfm_migrate.specs.Offered.{IsOffered}
use Rattle.vfm_migrate.proofs.carrying.carry.Goals as goal

pub returns-clause-comes_to : goal.returns-clause-comes_to
returns-clause-comes_to g c = λ attempt asked.
    let T = told_by g.L.Link.ended g.L.Link.failed_out g.L.Link.failed_in g.L.Link.sent g.L.Link.received in
    let mid = c.offer-source.new.mover in
    let from : List Told = map T c.offer-source.result.0.items in
    let to : List Told = map T c.stage-dest.result.0.items in
    let ends : ToldEnds = ends_of from to (T c.shake-step.new.source) (T c.shake-step.new.dest) in
    let offered : IsOffered attempt.abort_after mid.core from c.offer-source.result.1 =
    subst (λ (n : ℕ). IsOffered n mid.core from c.offer-source.result.1) (sym asked) c.offer-source.ensures.offered in
    let comes : ComesTo attempt mid.core mid.digest ends c.shake-step.result =
    c.shake-step.ensures.step attempt from to offered c.stage-dest.ensures.staged in
    subst (λ (s : CoreState). ComesTo attempt s c.shake-step.new.mover.digest ends c.shake-step.result)
    (sym c.shake-step.ensures.mover.core)
    (subst (λ (own : List ℕ). ComesTo attempt mid.core own ends c.shake-step.result)
    (sym c.shake-step.ensures.mover.digest) comes)

pub returns-clause-step : goal.returns-clause-step
returns-clause-step g c = c.shake-step.ensures.kind c.args.desc.now c.stage-dest.ensures.desc
