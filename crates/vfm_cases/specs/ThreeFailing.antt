-- The machine with three devices, whose first device fails its first arc.
use Rattle.std.specs.Prelude.{true, false, List, [], ◌∷◌}
use Rattle.vfm_types.specs.declared.desc.Desc.{Desc}
use Rattle.vfm_types.specs.declared.desc.DevShape.{DevShape}
use Rattle.vfm_types.specs.declared.job.Job.TheVariants.{Write, Read, Store, Add}
use Rattle.vfm_types.specs.declared.state.MigState.TheVariants.{PreCopy}
use Rattle.vfm_types.specs.declared.entry.Entry.{Entry}
use Rattle.vfm_types.specs.declared.entry.Entry.TheVariants.{Issue, Deliver, Complete, Fail, Begin, Abort}

abbrev pub three_failing_nic : DevShape
three_failing_nic =
    record {
      name = 110 ∷ 105 ∷ 99 ∷ [];
      flags = 7;
      bars = 64 ∷ [];
      window = 2;
      tells = true;
      budget = 4;
      fails = 1;
      jobs = Write 268959744 (0 ∷ 0 ∷ 0 ∷ 0 ∷ 0 ∷ 0 ∷ 0 ∷ 0 ∷ []) ∷ Write 269484040 (6 ∷ 6 ∷ 6 ∷ 6 ∷ []) ∷ Write 0 (1 ∷ []) ∷ [];
      queue = 2 ∷ 0 ∷ 1 ∷ [];
    }

abbrev pub three_failing_gpu : DevShape
three_failing_gpu =
    record {
      name = 103 ∷ 112 ∷ 117 ∷ [];
      flags = 3;
      bars = 64 ∷ [];
      window = 1;
      tells = false;
      budget = 3;
      fails = 0;
      jobs = Add 16 9 ∷ Store 269484032 8 ∷ [];
      queue = [];
    }

abbrev pub three_failing_tap : DevShape
three_failing_tap =
    record {
      name = 116 ∷ 97 ∷ 112 ∷ [];
      flags = 7;
      bars = 64 ∷ [];
      window = 2;
      tells = true;
      budget = 3;
      fails = 0;
      jobs = Write 8 (2 ∷ 2 ∷ []) ∷ Read 268435472 8 ∷ [];
      queue = 0 ∷ 1 ∷ [];
    }

abbrev pub three_failing : Desc
three_failing =
    record {
      session = 13;
      page = 16;
      pages = 2;
      channels = 3;
      version = 1;
      begin = 0;
      rounds = 2;
      threshold = 0;
      devices = three_failing_nic ∷ three_failing_gpu ∷ three_failing_tap ∷ [];
    }

-- the first arc into PRE_COPY fails, and what follows
abbrev pub three_failing_run : List Entry
three_failing_run =
    Begin ∷ Issue 0 0 ∷ Issue 2 0 ∷ Fail 0 PreCopy ∷ Deliver 0 0 ∷ Deliver 2 0 ∷ Abort ∷ Complete 0 0 ∷ Complete 2 0
    ∷ Issue 0 1 ∷ Issue 2 1 ∷ Deliver 0 1 ∷ Issue 1 0 ∷ Deliver 2 1 ∷ Complete 0 1 ∷ Deliver 1 0 ∷ Complete 2 1
    ∷ Issue 0 2 ∷ Complete 1 0 ∷ Deliver 0 2 ∷ Complete 0 2 ∷ []
