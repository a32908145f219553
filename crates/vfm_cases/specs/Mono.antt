-- A machine with one device, which has the peer-to-peer states and no PRE_COPY.
use Rattle.std.specs.Prelude.{true, List, [], ◌∷◌}
use Rattle.vfm_types.specs.declared.desc.Desc.{Desc}
use Rattle.vfm_types.specs.declared.desc.DevShape.{DevShape}
use Rattle.vfm_types.specs.declared.job.Job.TheVariants.{Write, Read, Store}
use Rattle.vfm_types.specs.declared.state.MigState.TheVariants.{Stop, Running, StopCopy, RunningP2p}
use Rattle.vfm_types.specs.declared.entry.Entry.{Entry}
use Rattle.vfm_types.specs.declared.entry.Entry.TheVariants.{Issue, Deliver, Complete, Hold, Arc, Report, Pass, Copy, Block, Begin, Joint, Resume}

abbrev pub mono_nvme : DevShape
mono_nvme =
    record {
      name = 110 ∷ 118 ∷ 109 ∷ 101 ∷ [];
      flags = 3;
      bars = 64 ∷ [];
      window = 3;
      tells = true;
      budget = 4;
      fails = 0;
      jobs = Write 3 (1 ∷ 1 ∷ []) ∷ Write 20 (2 ∷ []) ∷ Read 0 16 ∷ Store 16 8 ∷ [];
      queue = 0 ∷ 1 ∷ 2 ∷ 3 ∷ [];
    }

abbrev pub mono : Desc
mono =
    record {
      session = 14;
      page = 16;
      pages = 2;
      channels = 1;
      version = 1;
      begin = 1;
      rounds = 2;
      threshold = 1;
      devices = mono_nvme ∷ [];
    }

-- each device and the coordinator in turn, then the destination
abbrev pub mono_ordered : List Entry
mono_ordered =
    Issue 0 0 ∷ Deliver 0 0 ∷ Complete 0 0 ∷ Begin ∷ Issue 0 1 ∷ Pass 1 ∷ Deliver 0 1 ∷ Copy 0 ∷ Complete 0 1 ∷ Copy 1
    ∷ Issue 0 2 ∷ Report 0 ∷ Deliver 0 2 ∷ Pass 2 ∷ Complete 0 2 ∷ Copy 1 ∷ Issue 0 3 ∷ Hold 0 RunningP2p
    ∷ Deliver 0 3 ∷ Arc 0 RunningP2p ∷ Complete 0 3 ∷ Hold 0 Stop ∷ Arc 0 Stop ∷ Arc 0 StopCopy ∷ Joint ∷ Report 0
    ∷ Pass 3 ∷ Copy 1 ∷ Block 0 0 ∷ Resume ∷ Arc 0 Stop ∷ Arc 0 RunningP2p ∷ Arc 0 Running ∷ []

-- the same machine in another order
abbrev pub mono_scattered : List Entry
mono_scattered =
    Issue 0 0 ∷ Deliver 0 0 ∷ Complete 0 0 ∷ Begin ∷ Pass 1 ∷ Issue 0 1 ∷ Copy 0 ∷ Deliver 0 1 ∷ Complete 0 1 ∷ Copy 1
    ∷ Issue 0 2 ∷ Report 0 ∷ Deliver 0 2 ∷ Pass 2 ∷ Copy 1 ∷ Hold 0 RunningP2p ∷ Complete 0 2 ∷ Arc 0 RunningP2p
    ∷ Issue 0 3 ∷ Deliver 0 3 ∷ Hold 0 Stop ∷ Complete 0 3 ∷ Arc 0 Stop ∷ Arc 0 StopCopy ∷ Joint ∷ Report 0 ∷ Pass 3
    ∷ Copy 1 ∷ Block 0 0 ∷ Resume ∷ Arc 0 Stop ∷ Arc 0 RunningP2p ∷ Arc 0 Running ∷ []
