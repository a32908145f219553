-- A machine with three devices, one of which lacks PRE_COPY and cannot tell peer-to-peer DMA from other DMA.
use Rattle.std.specs.Prelude.{true, false, List, [], ◌∷◌}
use Rattle.vfm_types.specs.declared.desc.Desc.{Desc}
use Rattle.vfm_types.specs.declared.desc.DevShape.{DevShape}
use Rattle.vfm_types.specs.declared.job.Job.TheVariants.{Write, Read, Store, Add}
use Rattle.vfm_types.specs.declared.state.MigState.TheVariants.{Stop, Running, StopCopy, RunningP2p, PreCopy, PreCopyP2p}
use Rattle.vfm_types.specs.declared.entry.Entry.{Entry}
use Rattle.vfm_types.specs.declared.entry.Entry.TheVariants.{Issue, Deliver, Complete, Hold, Arc, Report, Pass, Copy, Block, Dry, Begin, Joint, Abort, Resume}

abbrev pub three_nic : DevShape
three_nic =
    record {
      name = 110 ∷ 105 ∷ 99 ∷ [];
      flags = 7;
      bars = 64 ∷ [];
      window = 2;
      tells = true;
      budget = 4;
      fails = 0;
      jobs = Write 268959744 (0 ∷ 0 ∷ 0 ∷ 0 ∷ 0 ∷ 0 ∷ 0 ∷ 0 ∷ []) ∷ Write 269484040 (6 ∷ 6 ∷ 6 ∷ 6 ∷ []) ∷ Write 0 (1 ∷ []) ∷ [];
      queue = 2 ∷ 0 ∷ 1 ∷ [];
    }

abbrev pub three_gpu : DevShape
three_gpu =
    record {
      name = 103 ∷ 112 ∷ 117 ∷ [];
      flags = 3;
      bars = 64 ∷ [];
      window = 1;
      tells = false;
      budget = 3;
      fails = 0;
      jobs = Add 16 9 ∷ Store 269484032 8 ∷ [];
      queue = [];
    }

abbrev pub three_tap : DevShape
three_tap =
    record {
      name = 116 ∷ 97 ∷ 112 ∷ [];
      flags = 7;
      bars = 64 ∷ [];
      window = 2;
      tells = true;
      budget = 3;
      fails = 0;
      jobs = Write 8 (2 ∷ 2 ∷ []) ∷ Read 268435472 8 ∷ [];
      queue = 0 ∷ 1 ∷ [];
    }

abbrev pub three : Desc
three =
    record {
      session = 13;
      page = 16;
      pages = 2;
      channels = 3;
      version = 1;
      begin = 0;
      rounds = 1;
      threshold = 1;
      devices = three_nic ∷ three_gpu ∷ three_tap ∷ [];
    }

-- each device and the coordinator in turn, then the destination
abbrev pub three_ordered : List Entry
three_ordered =
    Begin ∷ Issue 0 0 ∷ Issue 2 0 ∷ Arc 0 PreCopy ∷ Deliver 0 0 ∷ Deliver 2 0 ∷ Arc 2 PreCopy ∷ Complete 0 0
    ∷ Complete 2 0 ∷ Pass 1 ∷ Issue 0 1 ∷ Issue 2 1 ∷ Copy 0 ∷ Deliver 0 1 ∷ Issue 1 0 ∷ Deliver 2 1 ∷ Copy 1
    ∷ Complete 0 1 ∷ Deliver 1 0 ∷ Complete 2 1 ∷ Block 0 0 ∷ Issue 0 2 ∷ Complete 1 0 ∷ Block 2 0 ∷ Deliver 0 2
    ∷ Hold 0 PreCopyP2p ∷ Complete 0 2 ∷ Hold 1 RunningP2p ∷ Hold 2 PreCopyP2p ∷ Arc 0 PreCopyP2p ∷ Arc 1 RunningP2p
    ∷ Arc 2 PreCopyP2p ∷ Hold 0 StopCopy ∷ Hold 1 Stop ∷ Hold 2 StopCopy ∷ Arc 0 StopCopy ∷ Arc 1 Stop
    ∷ Arc 1 StopCopy ∷ Arc 2 StopCopy ∷ Joint ∷ Report 0 ∷ Report 1 ∷ Report 2 ∷ Pass 2 ∷ Copy 0 ∷ Copy 1 ∷ Dry 0
    ∷ Block 1 0 ∷ Block 2 0 ∷ Resume ∷ Arc 0 Stop ∷ Arc 0 RunningP2p ∷ Arc 1 Stop ∷ Arc 1 RunningP2p ∷ Arc 2 Stop
    ∷ Arc 2 RunningP2p ∷ Arc 0 Running ∷ Arc 1 Running ∷ Arc 2 Running ∷ []

-- the same machine in another order
abbrev pub three_scattered : List Entry
three_scattered =
    Begin ∷ Arc 0 PreCopy ∷ Issue 0 0 ∷ Issue 0 1 ∷ Issue 2 0 ∷ Deliver 2 0 ∷ Deliver 0 1 ∷ Issue 1 0 ∷ Complete 2 0
    ∷ Deliver 1 0 ∷ Issue 2 1 ∷ Deliver 2 1 ∷ Complete 2 1 ∷ Complete 1 0 ∷ Arc 2 PreCopy ∷ Deliver 0 0 ∷ Complete 0 1
    ∷ Pass 1 ∷ Copy 0 ∷ Copy 1 ∷ Block 0 0 ∷ Complete 0 0 ∷ Issue 0 2 ∷ Block 2 0 ∷ Deliver 0 2 ∷ Hold 0 PreCopyP2p
    ∷ Hold 1 RunningP2p ∷ Complete 0 2 ∷ Hold 2 PreCopyP2p ∷ Arc 0 PreCopyP2p ∷ Arc 1 RunningP2p ∷ Arc 2 PreCopyP2p
    ∷ Hold 0 StopCopy ∷ Hold 1 Stop ∷ Hold 2 StopCopy ∷ Arc 0 StopCopy ∷ Arc 1 Stop ∷ Arc 1 StopCopy ∷ Arc 2 StopCopy
    ∷ Joint ∷ Report 0 ∷ Report 1 ∷ Report 2 ∷ Pass 2 ∷ Copy 0 ∷ Copy 1 ∷ Dry 0 ∷ Block 1 0 ∷ Block 2 0 ∷ Resume
    ∷ Arc 0 Stop ∷ Arc 0 RunningP2p ∷ Arc 1 Stop ∷ Arc 1 RunningP2p ∷ Arc 2 Stop ∷ Arc 2 RunningP2p ∷ Arc 0 Running
    ∷ Arc 1 Running ∷ Arc 2 Running ∷ []

-- given up while the devices are in peer-to-peer states or on their way there
abbrev pub three_given_up : List Entry
three_given_up =
    Begin ∷ Arc 0 PreCopy ∷ Issue 2 0 ∷ Deliver 2 0 ∷ Issue 0 0 ∷ Arc 2 PreCopy ∷ Complete 2 0 ∷ Pass 1 ∷ Deliver 0 0
    ∷ Issue 2 1 ∷ Deliver 2 1 ∷ Copy 0 ∷ Copy 1 ∷ Complete 2 1 ∷ Block 0 0 ∷ Block 2 0 ∷ Hold 0 PreCopyP2p
    ∷ Hold 1 RunningP2p ∷ Hold 2 PreCopyP2p ∷ Arc 0 PreCopyP2p ∷ Arc 1 RunningP2p ∷ Abort ∷ Arc 0 RunningP2p
    ∷ Arc 0 Running ∷ Arc 1 Running ∷ Arc 2 Running ∷ Issue 0 1 ∷ Complete 0 0 ∷ Deliver 0 1 ∷ Issue 0 2 ∷ Issue 1 0
    ∷ Deliver 1 0 ∷ Complete 1 0 ∷ Deliver 0 2 ∷ Complete 0 1 ∷ Complete 0 2 ∷ []
