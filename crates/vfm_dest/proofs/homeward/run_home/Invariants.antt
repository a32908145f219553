-- The core goes homeward, by rounds as of a run; fewer entries are left after each round that makes one.
use Rattle.std.proofs.Common.{List, Option}
use Rattle.vfm_types.specs.declared.entry.Entry.{Entry}
use Rattle.vfm_drive.specs.Rounds.{ByRounds}
use Rattle.vfm_drive.specs.Runs.{GoesOn, HasRun, IsOn, left_in}
use Rattle.vfm_dest.specs.Homeward.{GoesHomeward}
use Rattle.vfm_dest.proofs.homeward.run_home.Given as goal

abbrev pub invariant-rounds : goal.invariant-rounds
invariant-rounds l =
    record {
      homeward : GoesHomeward l.fn.core l.core;
      on : (origin : Option (List Entry)) (mine : List Entry) → IsOn l.fn.core.desc origin mine l.fn.core.world → GoesOn l.fn.core l.core origin mine;
      rounds : HasRun l.fn.core.desc l.fn.core.world → ByRounds l.fn.core l.core 0;
    }

abbrev pub decreases-rounds : goal.decreases-rounds
decreases-rounds l = left_in l.core
