-- By what the destination staged.
use Rattle.std.proofs.Common.{◌≡◌, ◌∙◌, List, Err, Result, IfOk, ap, ap₂, sym, subst, refl, rules, ℕ}
use Rattle.vfm_types.specs.declared.desc.Desc.{Desc}
use Rattle.vfm_outside.specs.Carried.{told_by}
use Rattle.vfm_outside.specs.Links.{Told, ToldEnds}
use Rattle.vfm_control.specs.declared.frame.Frame.TheVariants as frames
use Rattle.vfm_plain.specs.StateText.{state_digest}
use Rattle.vfm_streams.specs.Verdict.{Loads, Refuses}
use Rattle.vfm_dest.specs.StagedCores.{StagedState}
use Rattle.vfm_dest.specs.Stages.{core_of, digest_of}
use Rattle.vfm_dest.specs.Saying.{frame_for}
use Rattle.vfm_dest.specs.declared.judging.StageFault.{StageFault}
use Rattle.vfm_dest.specs.declared.judging.StageFault.TheVariants as faults
use Rattle.vfm_migrate.specs.Answers.{AnswersOrFails, AwaitsAnswer, HeardNothing, ends_of}
use Rattle.vfm_migrate.specs.Brought.{IsStaged, StagedFor}
use Rattle.vfm_migrate.specs.Carrying.{machine_of_staged}
use Rattle.vfm_migrate.proofs.Answering.{dest_failed, memory_wanting, unheard_nothing}
use Rattle.vfm_migrate.proofs.Hearing.{answers_by, still_nothing}
use Rattle.vfm_migrate.proofs.control.answer.Goals as goal

pub returns-in-Ok-clause-step : goal.returns-in-Ok-clause-step
returns-in-Ok-clause-step g c = λ attempt from to offered staged_for.
    let T = told_by g.L.Link.ended g.L.Link.failed_out g.L.Link.failed_in g.L.Link.sent g.L.Link.received in
    let core = c.args.mover.now.core in
    let digest = c.args.mover.now.digest in
    let staged = c.in-Ok.staged in
    let was : Told = T c.args.source.now in
    let before : Told = T c.args.dest.now in
    let now : Told = T c.answer-answered.new.control in
    let ends : ToldEnds = ends_of from to was now in
    let nothing : HeardNothing now =
    still_nothing before now c.requires.dest c.answer-answered.ensures.received c.answer-answered.ensures.ended
    c.answer-answered.ensures.failed_in in
    let waits : AwaitsAnswer attempt core digest ends = record
    { offered = offered; source = c.requires.source; dest = nothing } in
    let is : IsStaged core.desc to staged =
    subst (λ (D : Desc). IsStaged D to staged) (sym c.requires.desc)
    (subst (λ (r : Result StagedState StageFault). StagedFor c.args.desc.now to r) c.in-Ok.is staged_for) in
    let frame : frame_for c.args.desc.now.session c.args.staged ≡ frames.Staged c.args.desc.now.session
    (digest_of staged) =
    ap (frame_for c.args.desc.now.session) c.in-Ok.is in
    let said : frame_for c.args.desc.now.session c.args.staged ≡ frames.Staged core.desc.session
    (state_digest core.desc (machine_of_staged staged)) =
    frame ∙ ap₂ (λ (session : ℕ) (own : List ℕ). frames.Staged session own)
    (ap (λ (D : Desc). D.session) (sym c.requires.desc)) is.digest in
    let answers : AnswersOrFails core.desc (Loads (machine_of_staged staged)) ends c.answer-answered.result =
    answers_by core.desc (Loads (machine_of_staged staged)) from to was before now
    (frame_for c.args.desc.now.session c.args.staged)
    c.answer-answered.result c.requires.dest c.answer-answered.ensures.sent c.answer-answered.ensures.count said
    is.brought in
    c.hear_staged.ensures.step attempt ends refl waits answers (record { desc = is.desc; digest = is.digest })

pub returns-in-Err-Refusal-clause-step : goal.returns-in-Err-Refusal-clause-step
returns-in-Err-Refusal-clause-step g c = λ attempt from to offered staged_for.
    let T = told_by g.L.Link.ended g.L.Link.failed_out g.L.Link.failed_in g.L.Link.sent g.L.Link.received in
    let core = c.args.mover.now.core in
    let digest = c.args.mover.now.digest in
    let why = c.in-Err-Refusal.why in
    let was : Told = T c.args.source.now in
    let before : Told = T c.args.dest.now in
    let now : Told = T c.answer-answered.new.control in
    let ends : ToldEnds = ends_of from to was now in
    let nothing : HeardNothing now =
    still_nothing before now c.requires.dest c.answer-answered.ensures.received c.answer-answered.ensures.ended
    c.answer-answered.ensures.failed_in in
    let waits : AwaitsAnswer attempt core digest ends = record
    { offered = offered; source = c.requires.source; dest = nothing } in
    let same : c.args.staged ≡ Err (faults.Refusal why) = search rules in
    let brought : StagedFor core.desc to (Err (faults.Refusal why)) =
    subst (λ (D : Desc). StagedFor D to (Err (faults.Refusal why))) (sym c.requires.desc)
    (subst (λ (r : Result StagedState StageFault). StagedFor c.args.desc.now to r) same staged_for) in
    let said : frame_for c.args.desc.now.session c.args.staged ≡ frames.Refused core.desc.session why =
    ap (frame_for c.args.desc.now.session) same
    ∙ ap (λ (session : ℕ). frames.Refused session why) (ap (λ (D : Desc). D.session) (sym c.requires.desc)) in
    let answers : AnswersOrFails core.desc (Refuses why) ends c.answer-answered.result =
    answers_by core.desc (Refuses why) from to was before now (frame_for c.args.desc.now.session c.args.staged)
    c.answer-answered.result c.requires.dest c.answer-answered.ensures.sent c.answer-answered.ensures.count said
    brought in
    (c.hear_refusal.ensures.decided attempt ends refl waits answers, c.hear_refusal.ensures.goes_on)

pub returns-in-Err-Link-clause-step : goal.returns-in-Err-Link-clause-step
returns-in-Err-Link-clause-step g c = λ attempt from to offered staged_for.
    let T = told_by g.L.Link.ended g.L.Link.failed_out g.L.Link.failed_in g.L.Link.sent g.L.Link.received in
    let core = c.args.mover.now.core in
    let digest = c.args.mover.now.digest in
    let was : Told = T c.args.source.now in
    let before : Told = T c.args.dest.now in
    let now : Told = T c.answer-answered.new.control in
    let ends : ToldEnds = ends_of from to was now in
    let nothing : HeardNothing now =
    still_nothing before now c.requires.dest c.answer-answered.ensures.received c.answer-answered.ensures.ended
    c.answer-answered.ensures.failed_in in
    let same : c.args.staged ≡ Err (faults.Link c.in-Err-Link.channel) = search rules in
    let failed : StagedFor c.args.desc.now to (Err (faults.Link c.in-Err-Link.channel)) =
    subst (λ (r : Result StagedState StageFault). StagedFor c.args.desc.now to r) same staged_for in (
      dest_failed attempt core ends digest offered c.in-Err-Link.channel c.requires.source
          (unheard_nothing now nothing) failed,
      refl,
    )

pub returns-in-Err-NoMemory-clause-step : goal.returns-in-Err-NoMemory-clause-step
returns-in-Err-NoMemory-clause-step g c = λ attempt from to offered staged_for.
    let T = told_by g.L.Link.ended g.L.Link.failed_out g.L.Link.failed_in g.L.Link.sent g.L.Link.received in
    let core = c.args.mover.now.core in
    let digest = c.args.mover.now.digest in
    let was : Told = T c.args.source.now in
    let before : Told = T c.args.dest.now in
    let now : Told = T c.answer-answered.new.control in
    let ends : ToldEnds = ends_of from to was now in
    let nothing : HeardNothing now =
    still_nothing before now c.requires.dest c.answer-answered.ensures.received c.answer-answered.ensures.ended
    c.answer-answered.ensures.failed_in in
    (memory_wanting attempt core ends digest offered c.requires.source (unheard_nothing now nothing), refl)

pub returns-in-Ok-clause-kind : goal.returns-in-Ok-clause-kind
returns-in-Ok-clause-kind g c = λ D all.
    c.hear_staged.ensures.kind D
    (subst (λ (r : Result StagedState StageFault). IfOk r (λ staged. (core_of staged).desc ≡ D)) c.in-Ok.is all)
