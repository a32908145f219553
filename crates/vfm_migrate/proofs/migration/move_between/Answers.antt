-- There are links, or there are none.
use Rattle.std.proofs.Common.{Err, ap, subst, sym}
use Rattle.vfm_outside.specs.Tells.{wires_tell}
use Rattle.vfm_migrate.specs.Migrations.{IsMigrated, attempt_of}
use Rattle.vfm_migrate.specs.declared.migration.Migration.{Migration}
use Rattle.vfm_migrate.proofs.Migrated.{no_links, not_connected, wires_same}
use Rattle.vfm_migrate.proofs.migration.move_between.Goals as goal

pub returns-in-Ok : goal.returns-in-Ok
returns-in-Ok g c =
    let made = c.in-Ok.ensures in
    c.move_over.ensures _ (record { asked = made.asked (λ is. cc); faults = made.ok })

pub returns-in-Err-Failed : goal.returns-in-Err-Failed
returns-in-Err-Failed g c =
    let failed = c.in-Err-Failed.ensures in
    let is = ap Err c.in-Err-Failed.field-0-is in
    let attempt = attempt_of c.args.abort_after
    (wires_tell (g.W.Wires.asked c.args.wires.now) (g.W.Wires.carried c.args.wires.now) (g.W.Wires.faults c.args.wires.now))
    (wires_tell (g.W.Wires.asked c.connect.new.self) (g.W.Wires.carried c.connect.new.self) (g.W.Wires.faults c.connect.new.self)) in
    subst (λ (migration : Migration). IsMigrated attempt c.args.desc.now migration) (sym c.alone.ensures.is)
    (not_connected attempt c.args.desc.now c.args.mover c.alone.ensures.new c.requires.valid c.requires.first.core c.alone.ensures.home
    (failed.carried, failed.failed is) (failed.asked (λ other. cc)))

pub returns-in-Err-NoMemory : goal.returns-in-Err-NoMemory
returns-in-Err-NoMemory g c =
    let short = c.in-Err-NoMemory.ensures in
    let is = ap Err c.in-Err-NoMemory.field-0-is in
    let alone = c.alone-in-Err-NoMemory.ensures in
    let before = wires_tell (g.W.Wires.asked c.args.wires.now) (g.W.Wires.carried c.args.wires.now) (g.W.Wires.faults c.args.wires.now) in
    let now = wires_tell (g.W.Wires.asked c.connect.new.self) (g.W.Wires.carried c.connect.new.self) (g.W.Wires.faults c.connect.new.self) in
    let attempt = attempt_of c.args.abort_after before now in
    subst (λ (migration : Migration). IsMigrated attempt c.args.desc.now migration) (sym alone.is)
    (no_links attempt c.args.desc.now c.args.mover alone.new c.requires.valid c.requires.first.core alone.home
    (wires_same now before (short.not_asked is) short.carried (short.no_memory is)))
