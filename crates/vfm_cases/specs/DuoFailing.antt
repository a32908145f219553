-- The machine with two devices, moved without a pass before they stop, whose second device fails its third arc.
use Rattle.std.specs.Prelude.{true, List, [], ◌∷◌}
use Rattle.vfm_types.specs.declared.desc.Desc.{Desc}
use Rattle.vfm_types.specs.declared.desc.DevShape.{DevShape}
use Rattle.vfm_types.specs.declared.job.Job.TheVariants.{Write, Read, Store, Add}
use Rattle.vfm_types.specs.declared.state.MigState.TheVariants.{Stop, Running, StopCopy, RunningP2p}
use Rattle.vfm_types.specs.declared.entry.Entry.{Entry}
use Rattle.vfm_types.specs.declared.entry.Entry.TheVariants.{Issue, Deliver, Complete, Hold, Arc, Fail, Begin, Abort}

abbrev pub duo_failing_nic : DevShape
duo_failing_nic =
    record {
      name = 110 ∷ 105 ∷ 99 ∷ [];
      flags = 7;
      bars = 128 ∷ [];
      window = 2;
      tells = true;
      budget = 6;
      fails = 0;
      jobs = Write 20 (1 ∷ 2 ∷ 3 ∷ 4 ∷ []) ∷ Write 268959804 (9 ∷ 9 ∷ 9 ∷ 9 ∷ 9 ∷ 9 ∷ 9 ∷ 9 ∷ []) ∷ Write 268959744 (1 ∷ 0 ∷ 0 ∷ 0 ∷ 0 ∷ 0 ∷ 0 ∷ 0 ∷ []) ∷ Read 16 8 ∷ Store 48 4 ∷ [];
      queue = 0 ∷ 1 ∷ 2 ∷ 3 ∷ 4 ∷ 0 ∷ [];
    }

abbrev pub duo_failing_gpu : DevShape
duo_failing_gpu =
    record {
      name = 103 ∷ 112 ∷ 117 ∷ [];
      flags = 7;
      bars = 128 ∷ [];
      window = 2;
      tells = true;
      budget = 4;
      fails = 3;
      jobs = Write 36 (7 ∷ 7 ∷ []) ∷ Add 40 5 ∷ Write 268435520 (5 ∷ []) ∷ [];
      queue = 0 ∷ 2 ∷ [];
    }

abbrev pub duo_failing : Desc
duo_failing =
    record {
      session = 12;
      page = 16;
      pages = 4;
      channels = 2;
      version = 1;
      begin = 0;
      rounds = 0;
      threshold = 0;
      devices = duo_failing_nic ∷ duo_failing_gpu ∷ [];
    }

-- with a third arc of the second device that fails, and what follows
abbrev pub duo_failing_run : List Entry
duo_failing_run =
    Begin ∷ Issue 0 0 ∷ Issue 1 0 ∷ Hold 0 RunningP2p ∷ Deliver 0 0 ∷ Deliver 1 0 ∷ Hold 1 RunningP2p ∷ Complete 0 0
    ∷ Complete 1 0 ∷ Arc 0 RunningP2p ∷ Arc 1 RunningP2p ∷ Hold 0 Stop ∷ Hold 1 Stop ∷ Arc 0 Stop ∷ Arc 0 StopCopy
    ∷ Arc 1 Stop ∷ Fail 1 StopCopy ∷ Abort ∷ Arc 0 Stop ∷ Arc 0 RunningP2p ∷ Arc 1 RunningP2p ∷ Arc 0 Running
    ∷ Issue 0 1 ∷ Arc 1 Running ∷ Deliver 0 1 ∷ Issue 1 1 ∷ Complete 0 1 ∷ Deliver 1 1 ∷ Issue 0 2 ∷ Complete 1 1
    ∷ Deliver 0 2 ∷ Issue 1 2 ∷ Complete 0 2 ∷ Deliver 1 2 ∷ Issue 0 3 ∷ Complete 1 2 ∷ Deliver 0 3 ∷ Complete 0 3
    ∷ Issue 0 4 ∷ Deliver 0 4 ∷ Complete 0 4 ∷ Issue 0 5 ∷ Deliver 0 5 ∷ Complete 0 5 ∷ []
