-- A machine with one device, which has PRE_COPY and no peer-to-peer states.
use Rattle.std.specs.Prelude.{true, List, [], ◌∷◌}
use Rattle.vfm_types.specs.declared.desc.Desc.{Desc}
use Rattle.vfm_types.specs.declared.desc.DevShape.{DevShape}
use Rattle.vfm_types.specs.declared.job.Job.TheVariants.{Write, Store, Add}
use Rattle.vfm_types.specs.declared.state.MigState.TheVariants.{Stop, Running, StopCopy, PreCopy}
use Rattle.vfm_types.specs.declared.entry.Entry.{Entry}
use Rattle.vfm_types.specs.declared.entry.Entry.TheVariants.{Issue, Deliver, Complete, Hold, Arc, Report, Pass, Copy, Block, Dry, Begin, Joint, Abort, Resume}

abbrev pub solo_disk : DevShape
solo_disk =
    record {
      name = 100 ∷ 105 ∷ 115 ∷ 107 ∷ [];
      flags = 5;
      bars = 128 ∷ [];
      window = 2;
      tells = true;
      budget = 5;
      fails = 0;
      jobs = Write 6 (1 ∷ 2 ∷ 3 ∷ []) ∷ Write 40 (4 ∷ 5 ∷ []) ∷ Add 72 7 ∷ Store 9 4 ∷ [];
      queue = 0 ∷ 1 ∷ 2 ∷ 3 ∷ 1 ∷ [];
    }

abbrev pub solo : Desc
solo =
    record {
      session = 11;
      page = 32;
      pages = 3;
      channels = 1;
      version = 1;
      begin = 2;
      rounds = 2;
      threshold = 0;
      devices = solo_disk ∷ [];
    }

-- each device and the coordinator in turn, then the destination
abbrev pub solo_ordered : List Entry
solo_ordered =
    Issue 0 0 ∷ Deliver 0 0 ∷ Complete 0 0 ∷ Issue 0 1 ∷ Deliver 0 1 ∷ Complete 0 1 ∷ Begin ∷ Issue 0 2
    ∷ Arc 0 PreCopy ∷ Deliver 0 2 ∷ Pass 1 ∷ Complete 0 2 ∷ Copy 0 ∷ Issue 0 3 ∷ Copy 1 ∷ Deliver 0 3 ∷ Copy 2
    ∷ Complete 0 3 ∷ Block 0 0 ∷ Issue 0 4 ∷ Block 0 1 ∷ Deliver 0 4 ∷ Report 0 ∷ Complete 0 4 ∷ Pass 2 ∷ Copy 0
    ∷ Copy 2 ∷ Dry 0 ∷ Hold 0 StopCopy ∷ Arc 0 StopCopy ∷ Joint ∷ Report 0 ∷ Pass 3 ∷ Copy 1 ∷ Dry 0 ∷ Resume
    ∷ Arc 0 Stop ∷ Arc 0 Running ∷ []

-- the same machine in another order
abbrev pub solo_scattered : List Entry
solo_scattered =
    Issue 0 0 ∷ Deliver 0 0 ∷ Complete 0 0 ∷ Issue 0 1 ∷ Deliver 0 1 ∷ Complete 0 1 ∷ Begin ∷ Arc 0 PreCopy
    ∷ Issue 0 2 ∷ Deliver 0 2 ∷ Complete 0 2 ∷ Issue 0 3 ∷ Deliver 0 3 ∷ Complete 0 3 ∷ Issue 0 4 ∷ Pass 1 ∷ Copy 0
    ∷ Deliver 0 4 ∷ Complete 0 4 ∷ Copy 1 ∷ Copy 2 ∷ Block 0 0 ∷ Block 0 1 ∷ Report 0 ∷ Pass 2 ∷ Copy 0 ∷ Copy 1
    ∷ Copy 2 ∷ Dry 0 ∷ Hold 0 StopCopy ∷ Arc 0 StopCopy ∷ Joint ∷ Report 0 ∷ Pass 3 ∷ Dry 0 ∷ Resume ∷ Arc 0 Stop
    ∷ Arc 0 Running ∷ []

-- given up while the second pass is under way
abbrev pub solo_given_up : List Entry
solo_given_up =
    Issue 0 0 ∷ Deliver 0 0 ∷ Complete 0 0 ∷ Issue 0 1 ∷ Deliver 0 1 ∷ Complete 0 1 ∷ Begin ∷ Issue 0 2
    ∷ Arc 0 PreCopy ∷ Pass 1 ∷ Copy 0 ∷ Copy 1 ∷ Copy 2 ∷ Deliver 0 2 ∷ Complete 0 2 ∷ Issue 0 3 ∷ Deliver 0 3
    ∷ Block 0 0 ∷ Block 0 1 ∷ Report 0 ∷ Pass 2 ∷ Abort ∷ Arc 0 Running ∷ Complete 0 3 ∷ Issue 0 4 ∷ Deliver 0 4
    ∷ Complete 0 4 ∷ []
