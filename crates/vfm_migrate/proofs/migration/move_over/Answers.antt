-- The source gave up, or Go was said; and the links went back.
use Rattle.std.proofs.Common.{◌≡◌, ◌∙◌, None, ap, refl, subst, sym}
use Rattle.std.proofs.lemmas.List.{length-map}
use Rattle.vfm_outside.specs.Tells.{wires_tell}
use Rattle.vfm_core.specs.CoreState.{CoreState}
use Rattle.vfm_source.specs.Source.{MoverState}
use Rattle.vfm_migrate.specs.Carrying.{ComesTo, IsStepOf}
use Rattle.vfm_migrate.specs.Links.{tells}
use Rattle.vfm_migrate.specs.Migrations.{IsMigrated, attempt_of}
use Rattle.vfm_migrate.specs.declared.migration.Migration.{Migration}
use Rattle.vfm_migrate.specs.declared.step.Step.{Step}
use Rattle.vfm_migrate.proofs.Migrated.{committed_ends, decided_ends, migrated, moved_as}
use Rattle.vfm_migrate.proofs.migration.move_over.Goals as goal

pub returns-in-Decided : goal.returns-in-Decided
returns-in-Decided g c = λ before connected.
    let carry = c.carry-ends in
    let D = c.args.desc.now in
    let status = c.in-Decided.status in
    let loaded = c.in-Decided.loaded in
    let old = carry.new.mover in
    let new = c.go_home.new.mover in
    let home = c.go_home.ensures in
    let ends = tells g.W.L.Link.ended g.W.L.Link.failed_out g.W.L.Link.failed_in g.W.L.Link.sent g.W.L.Link.received carry.result.0 in
    let attempt = attempt_of c.args.abort_after before
    (wires_tell (g.W.Wires.asked c.back.new.self) (g.W.Wires.carried c.back.new.self) (g.W.Wires.faults c.back.new.self)) in
    let comes = subst (λ (step : Step). ComesTo attempt old.core old.digest ends step) c.in-Decided.is (carry.ensures.comes_to attempt refl) in
    let left = subst (λ (step : Step). IsStepOf D old.phase step) c.in-Decided.is carry.ensures.step in
    migrated attempt D status new loaded None ends _ c.requires.valid
    (record { desc = home.desc ∙ carry.ensures.desc; moves = home.moves })
    left.0 tt connected
    (record { carried = c.back.ensures.carried; faults = c.back.ensures.count; asked = c.back.ensures.asked })
    (length-map _ _ ∙ carry.ensures.source) (length-map _ _ ∙ carry.ensures.dest)
    (decided_ends attempt status old new loaded ends (rw carry.ensures.desc c.requires.valid) comes.1 home comes.0)

pub returns-in-Confirmed : goal.returns-in-Confirmed
returns-in-Confirmed g c = λ before connected.
    let carry = c.carry-ends in
    let D = c.args.desc.now in
    let old = carry.new.mover in
    let committed = c.commit_over-ends in
    let ends = tells g.W.L.Link.ended g.W.L.Link.failed_out g.W.L.Link.failed_in g.W.L.Link.sent g.W.L.Link.received carry.result.0 in
    let now = tells g.W.L.Link.ended g.W.L.Link.failed_out g.W.L.Link.failed_in g.W.L.Link.sent g.W.L.Link.received committed.result.0 in
    let back = c.back-in-Confirmed in
    let attempt = attempt_of c.args.abort_after before
    (wires_tell (g.W.Wires.asked back.new.self) (g.W.Wires.carried back.new.self) (g.W.Wires.faults back.new.self)) in
    let comes = subst (λ (step : Step). ComesTo attempt old.core old.digest ends step) c.in-Confirmed.is (carry.ensures.comes_to attempt refl) in
    let core : committed.new.mover.core ≡ old.core = ap (λ (mover : MoverState). mover.core) committed.ensures.mover in
    let joint : committed.new.mover.joint ≡ old.joint = ap (λ (mover : MoverState). mover.joint) committed.ensures.mover in
    subst (λ (migration : Migration). IsMigrated attempt D migration) (sym c.concluded.ensures)
    (committed_ends attempt D committed.new.mover committed.result.1 now _ c.requires.valid
    (record { desc = ap (λ (core : CoreState). core.desc) core ∙ carry.ensures.desc; moves = moved_as old committed.new.mover core joint carry.ensures.moves })
    connected
    (record { carried = back.ensures.carried; faults = back.ensures.count; asked = back.ensures.asked })
    (length-map _ _ ∙ committed.ensures.source ∙ carry.ensures.source) (length-map _ _ ∙ committed.ensures.dest ∙ carry.ensures.dest)
    (rw core (committed.ensures.commits attempt comes)))
