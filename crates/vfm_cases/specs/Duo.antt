-- A machine with two devices that write into each other and ring a doorbell.
use Rattle.std.specs.Prelude.{true, List, [], ◌∷◌}
use Rattle.vfm_types.specs.declared.desc.Desc.{Desc}
use Rattle.vfm_types.specs.declared.desc.DevShape.{DevShape}
use Rattle.vfm_types.specs.declared.job.Job.TheVariants.{Write, Read, Store, Add}
use Rattle.vfm_types.specs.declared.state.MigState.TheVariants.{Stop, Running, StopCopy, RunningP2p, PreCopy, PreCopyP2p}
use Rattle.vfm_types.specs.declared.entry.Entry.{Entry}
use Rattle.vfm_types.specs.declared.entry.Entry.TheVariants.{Issue, Deliver, Complete, Hold, Arc, Report, Pass, Copy, Block, Dry, Begin, Joint, Abort, Resume}

abbrev pub duo_nic : DevShape
duo_nic =
    record {
      name = 110 ∷ 105 ∷ 99 ∷ [];
      flags = 7;
      bars = 128 ∷ [];
      window = 2;
      tells = true;
      budget = 6;
      fails = 0;
      jobs = Write 20 (1 ∷ 2 ∷ 3 ∷ 4 ∷ []) ∷ Write 268959804 (9 ∷ 9 ∷ 9 ∷ 9 ∷ 9 ∷ 9 ∷ 9 ∷ 9 ∷ []) ∷ Write 268959744 (1 ∷ 0 ∷ 0 ∷ 0 ∷ 0 ∷ 0 ∷ 0 ∷ 0 ∷ []) ∷ Read 16 8 ∷ Store 48 4 ∷ [];
      queue = 0 ∷ 1 ∷ 2 ∷ 3 ∷ 4 ∷ 0 ∷ [];
    }

abbrev pub duo_gpu : DevShape
duo_gpu =
    record {
      name = 103 ∷ 112 ∷ 117 ∷ [];
      flags = 7;
      bars = 128 ∷ [];
      window = 2;
      tells = true;
      budget = 4;
      fails = 0;
      jobs = Write 36 (7 ∷ 7 ∷ []) ∷ Add 40 5 ∷ Write 268435520 (5 ∷ []) ∷ [];
      queue = 0 ∷ 2 ∷ [];
    }

abbrev pub duo : Desc
duo =
    record {
      session = 12;
      page = 16;
      pages = 4;
      channels = 2;
      version = 1;
      begin = 1;
      rounds = 2;
      threshold = 0;
      devices = duo_nic ∷ duo_gpu ∷ [];
    }

-- each device and the coordinator in turn, then the destination
abbrev pub duo_ordered : List Entry
duo_ordered =
    Issue 0 0 ∷ Issue 1 0 ∷ Deliver 0 0 ∷ Deliver 1 0 ∷ Complete 0 0 ∷ Complete 1 0 ∷ Begin ∷ Issue 0 1 ∷ Issue 1 1
    ∷ Arc 0 PreCopy ∷ Deliver 0 1 ∷ Deliver 1 1 ∷ Arc 1 PreCopy ∷ Complete 0 1 ∷ Complete 1 1 ∷ Pass 1 ∷ Issue 0 2
    ∷ Copy 0 ∷ Deliver 0 2 ∷ Issue 1 2 ∷ Copy 1 ∷ Complete 0 2 ∷ Deliver 1 2 ∷ Copy 2 ∷ Issue 0 3 ∷ Complete 1 2
    ∷ Copy 3 ∷ Deliver 0 3 ∷ Block 0 0 ∷ Complete 0 3 ∷ Block 0 1 ∷ Issue 0 4 ∷ Block 1 0 ∷ Deliver 0 4 ∷ Block 1 1
    ∷ Complete 0 4 ∷ Report 0 ∷ Issue 0 5 ∷ Report 1 ∷ Deliver 0 5 ∷ Pass 2 ∷ Complete 0 5 ∷ Copy 2 ∷ Copy 3 ∷ Dry 0
    ∷ Dry 1 ∷ Hold 0 PreCopyP2p ∷ Hold 1 PreCopyP2p ∷ Arc 0 PreCopyP2p ∷ Arc 1 PreCopyP2p ∷ Hold 0 StopCopy
    ∷ Hold 1 StopCopy ∷ Arc 0 StopCopy ∷ Arc 1 StopCopy ∷ Joint ∷ Report 0 ∷ Report 1 ∷ Pass 3 ∷ Copy 1 ∷ Dry 0
    ∷ Dry 1 ∷ Resume ∷ Arc 0 Stop ∷ Arc 0 RunningP2p ∷ Arc 1 Stop ∷ Arc 1 RunningP2p ∷ Arc 0 Running ∷ Arc 1 Running
    ∷ []

-- the same machine in another order
abbrev pub duo_scattered : List Entry
duo_scattered =
    Issue 0 0 ∷ Issue 1 0 ∷ Deliver 0 0 ∷ Complete 0 0 ∷ Deliver 1 0 ∷ Complete 1 0 ∷ Begin ∷ Issue 0 1 ∷ Issue 0 2
    ∷ Deliver 0 1 ∷ Arc 0 PreCopy ∷ Issue 1 1 ∷ Deliver 1 1 ∷ Arc 1 PreCopy ∷ Deliver 0 2 ∷ Complete 0 1
    ∷ Complete 1 1 ∷ Complete 0 2 ∷ Issue 1 2 ∷ Pass 1 ∷ Issue 0 3 ∷ Copy 0 ∷ Copy 1 ∷ Deliver 0 3 ∷ Copy 2
    ∷ Complete 0 3 ∷ Deliver 1 2 ∷ Issue 0 4 ∷ Copy 3 ∷ Block 0 0 ∷ Complete 1 2 ∷ Block 0 1 ∷ Deliver 0 4 ∷ Block 1 0
    ∷ Complete 0 4 ∷ Block 1 1 ∷ Report 0 ∷ Report 1 ∷ Pass 2 ∷ Issue 0 5 ∷ Deliver 0 5 ∷ Copy 2 ∷ Copy 3 ∷ Dry 0
    ∷ Complete 0 5 ∷ Dry 1 ∷ Hold 0 PreCopyP2p ∷ Hold 1 PreCopyP2p ∷ Arc 0 PreCopyP2p ∷ Arc 1 PreCopyP2p
    ∷ Hold 0 StopCopy ∷ Hold 1 StopCopy ∷ Arc 0 StopCopy ∷ Arc 1 StopCopy ∷ Joint ∷ Report 0 ∷ Report 1 ∷ Pass 3
    ∷ Copy 1 ∷ Dry 0 ∷ Dry 1 ∷ Resume ∷ Arc 0 Stop ∷ Arc 0 RunningP2p ∷ Arc 1 Stop ∷ Arc 1 RunningP2p ∷ Arc 0 Running
    ∷ Arc 1 Running ∷ []

-- given up with one device stopped and the other one not
abbrev pub duo_given_up : List Entry
duo_given_up =
    Issue 1 0 ∷ Deliver 1 0 ∷ Issue 0 0 ∷ Complete 1 0 ∷ Deliver 0 0 ∷ Complete 0 0 ∷ Begin ∷ Issue 1 1
    ∷ Arc 0 PreCopy ∷ Issue 0 1 ∷ Arc 1 PreCopy ∷ Pass 1 ∷ Copy 0 ∷ Issue 0 2 ∷ Deliver 0 1 ∷ Complete 0 1
    ∷ Deliver 1 1 ∷ Deliver 0 2 ∷ Copy 1 ∷ Complete 1 1 ∷ Complete 0 2 ∷ Issue 1 2 ∷ Copy 2 ∷ Copy 3 ∷ Issue 0 3
    ∷ Block 0 0 ∷ Deliver 0 3 ∷ Block 0 1 ∷ Block 1 0 ∷ Deliver 1 2 ∷ Complete 1 2 ∷ Complete 0 3 ∷ Block 1 1
    ∷ Issue 0 4 ∷ Report 0 ∷ Report 1 ∷ Pass 2 ∷ Copy 2 ∷ Deliver 0 4 ∷ Dry 0 ∷ Complete 0 4 ∷ Issue 0 5 ∷ Deliver 0 5
    ∷ Dry 1 ∷ Hold 0 PreCopyP2p ∷ Hold 1 PreCopyP2p ∷ Arc 0 PreCopyP2p ∷ Arc 1 PreCopyP2p ∷ Complete 0 5
    ∷ Hold 0 StopCopy ∷ Hold 1 StopCopy ∷ Arc 0 StopCopy ∷ Abort ∷ Arc 0 Stop ∷ Arc 0 RunningP2p ∷ Arc 0 Running
    ∷ Arc 1 RunningP2p ∷ Arc 1 Running ∷ []
