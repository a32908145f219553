-- The parts of the described machine, with the room of a run.
use Rattle.std.proofs.Common.{sym}
use Rattle.vfm_parts.proofs.Worlds.{world_first}
use Rattle.vfm_core.proofs.Follows.{first_kept}
use Rattle.vfm_core.proofs.machine.Core.of.Goals as goal

pub invariant_of-result : goal.invariant_of-result
invariant_of-result c =
    rw (c.in_ok-journal.ensures.entries, c.in_ok-journal.ensures.room, c.room_of_run.ensures, c.new.ensures, c.in_ok-devices.ensures, c.in_ok-pages.ensures)
    (first_kept c.args.desc c.requires)

pub returns-clause-begins : goal.returns-clause-begins
returns-clause-begins c = record { legal = tt; told = rw (c.new.ensures, c.in_ok-devices.ensures, c.in_ok-pages.ensures) (sym (world_first c.args.desc)) }
