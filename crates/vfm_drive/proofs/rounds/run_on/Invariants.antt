-- The run goes on, and fewer entries are left after each round that makes one.
use Rattle.std.proofs.Common.{List, Option}
use Rattle.vfm_types.specs.declared.entry.Entry.{Entry}
use Rattle.vfm_drive.specs.Rounds.{ByRounds}
use Rattle.vfm_drive.specs.Runs.{GoesOn, HasRun, IsOn, left_in}
use Rattle.vfm_drive.proofs.rounds.run_on.Given as goal

abbrev pub invariant-rounds : goal.invariant-rounds
invariant-rounds l =
    record {
      run : HasRun l.core.desc l.core.world;
      on : (origin : Option (List Entry)) (mine : List Entry) → IsOn l.fn.core.desc origin mine l.fn.core.world → GoesOn l.fn.core l.core origin mine;
      rounds : ByRounds l.fn.core l.core l.fn.abort_after;
    }

abbrev pub decreases-rounds : goal.decreases-rounds
decreases-rounds l = left_in l.core
