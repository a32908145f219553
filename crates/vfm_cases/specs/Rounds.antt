-- A machine with one page and one device that writes it, moved in two passes before the device stops.
use Rattle.std.specs.Prelude.{List, [], ◌∷◌, ◌++◌}
use Rattle.vfm_types.specs.declared.desc.Desc.{Desc}
use Rattle.vfm_types.specs.declared.job.Job.TheVariants.{Write}
use Rattle.vfm_types.specs.declared.state.MigState.TheVariants.{PreCopy, PreCopyP2p}
use Rattle.vfm_types.specs.declared.entry.Entry.{Entry}
use Rattle.vfm_types.specs.declared.entry.Entry.TheVariants.{Issue, Deliver, Complete, Hold, Arc, Report, Pass, Copy, Block, Dry, Begin}
use Rattle.vfm_cases.specs.Bare.{bare_device, bare_machine}

abbrev pub rounds_two : Desc
rounds_two =
    record bare_machine {
      rounds = 2;
      devices = (record bare_device { budget = 1; jobs = Write 4 (9 ∷ []) ∷ []; queue = 0 ∷ [] }) ∷ [];
    }

-- up to the second pass, in whose set the written page is
abbrev pub rounds_second : List Entry
rounds_second =
    Begin ∷ Arc 0 PreCopy ∷ Issue 0 0 ∷ Deliver 0 0 ∷ Pass 1 ∷ Copy 0 ∷ Complete 0 0 ∷ Block 0 0 ∷ Report 0 ∷ Pass 2 ∷ []

-- until the device is held
abbrev pub rounds_held : List Entry
rounds_held = rounds_second ++ Copy 0 ∷ Dry 0 ∷ Hold 0 PreCopyP2p ∷ []
