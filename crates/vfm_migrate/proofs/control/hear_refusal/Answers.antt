-- By what the source heard.
use Rattle.std.proofs.Common.{Ok, Err, None, sym, subst, rules, refl}
use Rattle.vfm_outside.specs.Carried.{told_by}
use Rattle.vfm_outside.specs.Links.{Told}
use Rattle.vfm_streams.specs.Verdict.{Refuses}
use Rattle.vfm_status.specs.declared.status.Status.{Status}
use Rattle.vfm_move.specs.Move.{IsDecided}
use Rattle.vfm_migrate.specs.Answers.{HearsAnswer, with_source}
use Rattle.vfm_migrate.specs.Offered.{made_so_far}
use Rattle.vfm_migrate.proofs.Hearing.{heard_other, heard_refused, not_sent}
use Rattle.vfm_migrate.proofs.control.hear_refusal.Goals as goal

pub returns-then-is_err-clause-decided : goal.returns-then-is_err-clause-decided
returns-then-is_err-clause-decided g c = λ attempt ends same waits answers.
    let T = told_by g.L.Link.ended g.L.Link.failed_out g.L.Link.failed_in g.L.Link.sent g.L.Link.received in
    let core = c.args.mover.now.core in
    let digest = c.args.mover.now.digest in
    let was : Told = T c.args.source.now in
    not_sent attempt core digest (Refuses c.args.why) ends was was same waits c.args.answered answers (search rules)

pub returns-in-Ok-clause-decided : goal.returns-in-Ok-clause-decided
returns-in-Ok-clause-decided g c = λ attempt ends same waits answers.
    let T = told_by g.L.Link.ended g.L.Link.failed_out g.L.Link.failed_in g.L.Link.sent g.L.Link.received in
    let core = c.args.mover.now.core in
    let digest = c.args.mover.now.digest in
    let was : Told = T c.args.source.now in
    let now : Told = T c.settle.new.control in
    let hears : HearsAnswer core.desc.session digest was now (Ok tt) =
    record {
      settles = c.in-Ok.ensures.settles;
      fault = c.in-Ok.ensures.fault;
      sent = c.in-Ok.ensures.sent;
      failed_out = c.in-Ok.ensures.failed_out;
    } in
    heard_refused attempt core digest (Refuses c.args.why) ends was now same waits c.args.answered answers c.args.why
    refl (search rules) hears

pub returns-in-Err-clause-decided : goal.returns-in-Err-clause-decided
returns-in-Err-clause-decided g c = λ attempt ends same waits answers.
    let T = told_by g.L.Link.ended g.L.Link.failed_out g.L.Link.failed_in g.L.Link.sent g.L.Link.received in
    let core = c.args.mover.now.core in
    let digest = c.args.mover.now.digest in
    let was : Told = T c.args.source.now in
    let now : Told = T c.settle.new.control in
    let hears : HearsAnswer core.desc.session digest was now (Err c.in-Err.fault) =
    record {
      settles = c.in-Err.ensures.settles;
      fault = c.in-Err.ensures.fault;
      sent = c.in-Err.ensures.sent;
      failed_out = c.in-Err.ensures.failed_out;
    } in
    subst (λ (s : Status). IsDecided attempt s (made_so_far core None) (with_source now ends))
    (sym c.settle_status.ensures)
    (heard_other attempt core digest (Refuses c.args.why) ends was now same waits c.args.answered answers
    c.in-Err.fault (search rules) hears)
