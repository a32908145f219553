-- What was heard decides.
use Rattle.std.proofs.Common.{rules, ◌≡◌, ◌∙◌, ◌<◌, ◌^◌, ℕ, List, Ok, Err, ap, subst}
use Rattle.vfm_types.specs.declared.desc.Desc.{Desc}
use Rattle.vfm_control.specs.Frame.{IsDigest}
use Rattle.vfm_core.specs.CoreState.{CoreState}
use Rattle.vfm_handshake.specs.Control.{Receipt, TakesOver}
use Rattle.vfm_dest.specs.Stages.{core_of, digest_of}
use Rattle.vfm_dest.proofs.Taking.{own-refused, pair-steps}
use Rattle.vfm_dest.proofs.finishing.finish.Goals as goal

pub returns-in-Ok-clause-pair : goal.returns-in-Ok-clause-pair
returns-in-Ok-clause-pair g c p told bytes at before now go =
    let core = core_of c.args.staged in
    let own = digest_of c.args.staged in
    let session : c.desc.result.now.session ≡ core.desc.session =
    ap (λ (D : Desc). D.session) c.desc.ensures.value ∙ ap (λ (s : CoreState). s.desc.session) c.core.ensures.value in
    let r : Receipt = record {
      before = g.L.Link.received c.args.control.now;
      now = g.L.Link.received c.hear_go.new.control;
      had_ended = g.L.Link.ended c.args.control.now;
      ended = g.L.Link.ended c.hear_go.new.control;
    } in
    let to : TakesOver core.desc.session own r (Ok tt) =
    subst (λ (n : ℕ). TakesOver n own r (Ok tt)) session
    (subst (λ (list : List ℕ). TakesOver c.desc.result.now.session list r (Ok tt)) c.digest-digest.ensures c.in-Ok.ensures.takes_over) in
    pair-steps p core.desc.session own r told bytes (Ok core) to at before now go

pub returns-in-Err-clause-own_go : goal.returns-in-Err-clause-own_go
returns-in-Err-clause-own_go g c told before now sound =
    let core = core_of c.args.staged in
    let own = digest_of c.args.staged in
    let session : c.desc.result.now.session ≡ core.desc.session =
    ap (λ (D : Desc). D.session) c.desc.ensures.value ∙ ap (λ (s : CoreState). s.desc.session) c.core.ensures.value in
    let r : Receipt = record {
      before = g.L.Link.received c.args.control.now;
      now = g.L.Link.received c.hear_go.new.control;
      had_ended = g.L.Link.ended c.args.control.now;
      ended = g.L.Link.ended c.hear_go.new.control;
    } in
    let to : TakesOver core.desc.session own r (Err c.in-Err.fault) =
    subst (λ (n : ℕ). TakesOver n own r (Err c.in-Err.fault)) session
    (subst (λ (list : List ℕ). TakesOver c.desc.result.now.session list r (Err c.in-Err.fault)) c.digest-digest.ensures c.in-Err.ensures.takes_over) in
    let heard : IsDigest c.digest-digest.result = record { len = search rules; bytes = search rules } in
    let small : core.desc.session < 2 ^ 64 =
    subst (λ (s : CoreState). s.desc.session < 2 ^ 64) c.core.ensures.value c.desc.ensures.fits.valid.in_range.session in
    own-refused core.desc.session own r c.in-Err.fault to small (subst IsDigest c.digest-digest.ensures heard) told before now
    (λ same. sound (ap Err same))

pub returns-in-Err-clause-pair : goal.returns-in-Err-clause-pair
returns-in-Err-clause-pair g c p told bytes at before now go =
    let core = core_of c.args.staged in
    let own = digest_of c.args.staged in
    let session : c.desc.result.now.session ≡ core.desc.session =
    ap (λ (D : Desc). D.session) c.desc.ensures.value ∙ ap (λ (s : CoreState). s.desc.session) c.core.ensures.value in
    let r : Receipt = record {
      before = g.L.Link.received c.args.control.now;
      now = g.L.Link.received c.hear_go.new.control;
      had_ended = g.L.Link.ended c.args.control.now;
      ended = g.L.Link.ended c.hear_go.new.control;
    } in
    let to : TakesOver core.desc.session own r (Err c.in-Err.fault) =
    subst (λ (n : ℕ). TakesOver n own r (Err c.in-Err.fault)) session
    (subst (λ (list : List ℕ). TakesOver c.desc.result.now.session list r (Err c.in-Err.fault)) c.digest-digest.ensures c.in-Err.ensures.takes_over) in
    pair-steps p core.desc.session own r told bytes (Err c.in-Err.fault) to at before now go
