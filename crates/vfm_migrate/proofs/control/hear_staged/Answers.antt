-- By what the source heard, and by both machines.
use Rattle.std.proofs.Common.{◌≡◌, Ok, Err, ap, subst, rules, refl}
use Rattle.vfm_outside.specs.Carried.{told_by}
use Rattle.vfm_outside.specs.Links.{Told}
use Rattle.vfm_core.specs.CoreState.{CoreState}
use Rattle.vfm_source.specs.Source.{MoverState}
use Rattle.vfm_streams.specs.Verdict.{Loads}
use Rattle.vfm_migrate.specs.Answers.{Compares, HearsAnswer}
use Rattle.vfm_migrate.specs.Carrying.{machine_of_staged}
use Rattle.vfm_migrate.proofs.Hearing.{heard_compared, heard_other_step, kind_compared, not_sent}
use Rattle.vfm_migrate.proofs.control.hear_staged.Goals as goal

pub returns-then-is_err-clause-step : goal.returns-then-is_err-clause-step
returns-then-is_err-clause-step g c = λ attempt ends same waits answers as_is.
    let T = told_by g.L.Link.ended g.L.Link.failed_out g.L.Link.failed_in g.L.Link.sent g.L.Link.received in
    let core = c.args.mover.now.core in
    let digest = c.args.mover.now.digest in
    let was : Told = T c.args.source.now in (
      not_sent attempt core digest (Loads (machine_of_staged c.args.staged)) ends was was same waits c.args.answered
          answers (search rules),
      refl,
    )

pub returns-in-Ok-clause-step : goal.returns-in-Ok-clause-step
returns-in-Ok-clause-step g c = λ attempt ends same waits answers as_is.
    let T = told_by g.L.Link.ended g.L.Link.failed_out g.L.Link.failed_in g.L.Link.sent g.L.Link.received in
    let core = c.args.mover.now.core in
    let digest = c.args.mover.now.digest in
    let was : Told = T c.args.source.now in
    let now : Told = T c.settle.new.control in
    let hears : HearsAnswer core.desc.session digest was now (Ok tt) =
    record {
      settles = c.in-Ok.ensures.settles;
      fault = c.in-Ok.ensures.fault;
      sent = c.in-Ok.ensures.sent;
      failed_out = c.in-Ok.ensures.failed_out;
    } in
    let unchanged : c.settle.new.self.core ≡ core = ap (λ (m : MoverState). m.core) c.in-Ok.ensures.phase in
    let compared : Compares core c.args.staged c.compare.result =
    subst (λ (s : CoreState). Compares s c.args.staged c.compare.result) unchanged c.compare.ensures in
    heard_compared attempt core digest (Loads (machine_of_staged c.args.staged)) ends was now same waits
    c.args.answered answers c.args.staged
    c.compare.result refl as_is (search rules) hears compared

pub returns-in-Err-clause-step : goal.returns-in-Err-clause-step
returns-in-Err-clause-step g c = λ attempt ends same waits answers as_is.
    let T = told_by g.L.Link.ended g.L.Link.failed_out g.L.Link.failed_in g.L.Link.sent g.L.Link.received in
    let core = c.args.mover.now.core in
    let digest = c.args.mover.now.digest in
    let was : Told = T c.args.source.now in
    let now : Told = T c.settle.new.control in
    let hears : HearsAnswer core.desc.session digest was now (Err c.in-Err.fault) =
    record {
      settles = c.in-Err.ensures.settles;
      fault = c.in-Err.ensures.fault;
      sent = c.in-Err.ensures.sent;
      failed_out = c.in-Err.ensures.failed_out;
    } in
    heard_other_step attempt core digest (Loads (machine_of_staged c.args.staged)) ends was now same waits
    c.args.answered answers
    c.in-Err.fault c.settle_status.result c.settle_status.ensures (search rules) hears

pub returns-in-Ok-clause-kind : goal.returns-in-Ok-clause-kind
returns-in-Ok-clause-kind g c = λ D same.
    kind_compared D c.settle.new.self.core c.args.staged c.compare.result c.settle.new.self.phase
    (ap (λ (m : MoverState). m.phase) c.in-Ok.ensures.phase) same c.compare.ensures
