-- A machine of 64 pages of 4,096 bytes: the first device writes into the second one's BAR and rings its doorbell, by
-- which the second one adds 5 to the number at the start of page 2.
use Rattle.std.specs.Prelude.{true, List, [], ◌∷◌, ◌++◌, replicate}
use Rattle.vfm_types.specs.declared.desc.Desc.{Desc}
use Rattle.vfm_types.specs.declared.desc.DevShape.{DevShape}
use Rattle.vfm_types.specs.declared.job.Job.TheVariants.{Write, Add}
use Rattle.vfm_types.specs.declared.state.MigState.TheVariants.{Stop, Running, StopCopy, RunningP2p, PreCopy, PreCopyP2p}
use Rattle.vfm_types.specs.declared.entry.Entry.{Entry}
use Rattle.vfm_types.specs.declared.entry.Entry.TheVariants.{Issue, Deliver, Complete, Hold, Arc, Report, Pass, Copy, Dry, Begin, Joint, Resume}
use Rattle.vfm_cases.specs.Edits.{copies, blocks_of}

abbrev pub nic : DevShape
nic =
    record {
      name = 110 ∷ 105 ∷ 99 ∷ [];
      flags = 7;
      bars = 4096 ∷ [];
      window = 2;
      tells = true;
      budget = 2;
      fails = 0;
      jobs = Write 268959808 (161 ∷ 162 ∷ 163 ∷ 164 ∷ []) ∷ Write 268959744 (replicate 8 0) ∷ [];
      queue = 0 ∷ 1 ∷ [];
    }

abbrev pub gpu : DevShape
gpu =
    record {
      name = 103 ∷ 112 ∷ 117 ∷ [];
      flags = 7;
      bars = 4096 ∷ [];
      window = 2;
      tells = true;
      budget = 1;
      fails = 0;
      jobs = Add 8192 5 ∷ [];
      queue = [];
    }

abbrev pub pair : Desc
pair =
    record {
      session = 7;
      page = 4096;
      pages = 64;
      channels = 2;
      version = 1;
      begin = 1;
      rounds = 2;
      threshold = 4;
      devices = nic ∷ gpu ∷ [];
    }

-- the source's journal, each device and the coordinator in turn
abbrev pub pair_source : List Entry
pair_source =
    Issue 0 0 ∷ Deliver 0 0 ∷ Complete 0 0 ∷ Begin ∷ Issue 0 1 ∷ Arc 0 PreCopy ∷ Deliver 0 1 ∷ Issue 1 0 ∷ Arc 1 PreCopy
    ∷ Complete 0 1 ∷ Deliver 1 0 ∷ Pass 1 ∷ Complete 1 0 ∷ [] ++ copies 64 ++ blocks_of 0 64 ++ blocks_of 1 64 ++ Report 0
    ∷ Report 1 ∷ Pass 2 ∷ Copy 2 ∷ Dry 0 ∷ Dry 1 ∷ Hold 0 PreCopyP2p ∷ Hold 1 PreCopyP2p ∷ Arc 0 PreCopyP2p
    ∷ Arc 1 PreCopyP2p ∷ Hold 0 StopCopy ∷ Hold 1 StopCopy ∷ Arc 0 StopCopy ∷ Arc 1 StopCopy ∷ Joint ∷ Report 0 ∷ Report 1
    ∷ Pass 3 ∷ Dry 0 ∷ Dry 1 ∷ []

-- followed by the destination's
abbrev pub pair_joined : List Entry
pair_joined =
    pair_source ++ Resume ∷ Arc 0 Stop ∷ Arc 0 RunningP2p ∷ Arc 1 Stop ∷ Arc 1 RunningP2p ∷ Arc 0 Running ∷ Arc 1 Running ∷ []
