-- The parts of the loaded machine, with the room of a run.
use Rattle.std.proofs.Common.{refl}
use Rattle.vfm_core.proofs.Loads.{pages_same, staged_kept, staged_begins}
use Rattle.vfm_core.proofs.machine.Core.staged.Goals as goal

pub invariant_of-result : goal.invariant_of-result
invariant_of-result c =
    let pages = rw c.as_slice.ensures.value at c.in_ok-pages.ensures in
    let devices = rw c.as_slice-2.ensures.value at c.in_ok-devices.ensures in
    rw (c.in_ok-journal.ensures.entries, c.in_ok-journal.ensures.room, c.room_of_run.ensures, c.staged.ensures, devices, pages, pages_same c.args.desc c.args.parts.items c.requires)
    (staged_kept c.args.desc c.args.parts.items c.requires)

pub returns-clause-core : goal.returns-clause-core
returns-clause-core c =
    let pages = rw c.as_slice.ensures.value at c.in_ok-pages.ensures in
    let devices = rw c.as_slice-2.ensures.value at c.in_ok-devices.ensures in
    rw (c.in_ok-journal.ensures.entries, c.staged.ensures, devices, pages, pages_same c.args.desc c.args.parts.items c.requires) refl

pub returns-clause-begins : goal.returns-clause-begins
returns-clause-begins c = λ past legal ended on here well same.
    staged_begins c.args.desc c.args.parts.items _ past c.requires legal ended on here well same (returns-clause-core c)
