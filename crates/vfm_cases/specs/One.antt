-- A machine with one device that makes one write of four bytes into page 1.
use Rattle.std.specs.Prelude.{ℕ, true, List, [], ◌∷◌, ◌++◌}
use Rattle.vfm_types.specs.declared.desc.Desc.{Desc}
use Rattle.vfm_types.specs.declared.desc.DevShape.{DevShape}
use Rattle.vfm_types.specs.declared.job.Job.TheVariants.{Write}
use Rattle.vfm_types.specs.declared.state.MigState.TheVariants.{Stop, Running, StopCopy}
use Rattle.vfm_types.specs.declared.entry.Entry.{Entry}
use Rattle.vfm_types.specs.declared.entry.Entry.TheVariants.{Issue, Deliver, Complete, Hold, Arc, Fail, Report, Pass, Copy, Block, Begin, Joint, Abort, Resume}

abbrev pub one_device : DevShape
one_device =
    record {
      name = 97 ∷ [];
      flags = 1;
      bars = 64 ∷ [];
      window = 1;
      tells = true;
      budget = 1;
      fails = 0;
      jobs = Write 18 (1 ∷ 2 ∷ 3 ∷ 4 ∷ []) ∷ [];
      queue = 0 ∷ [];
    }

abbrev pub one : Desc
one =
    record {
      session = 7;
      page = 16;
      pages = 2;
      channels = 1;
      version = 1;
      begin = 99;
      rounds = 0;
      threshold = 0;
      devices = one_device ∷ [];
    }

-- the request of the device, done
abbrev pub one_write : List Entry
one_write = Issue 0 0 ∷ Deliver 0 0 ∷ Complete 0 0 ∷ []

-- the source's whole journal
abbrev pub one_source : List Entry
one_source =
    one_write ++ Begin ∷ Hold 0 Stop ∷ Arc 0 Stop ∷ Arc 0 StopCopy ∷ Joint ∷ Pass 1 ∷ Copy 0 ∷ Copy 1 ∷ Block 0 0 ∷ []

-- the way home of the device
abbrev pub one_home : List Entry
one_home = Arc 0 Stop ∷ Arc 0 Running ∷ []

-- the source's journal, followed by the destination's
abbrev pub one_joined : List Entry
one_joined = one_source ++ Resume ∷ one_home

-- the source's journal where it gave up after its last pass
abbrev pub one_aborted : List Entry
one_aborted = one_source ++ Abort ∷ one_home

-- the source's journal where it gave up before anything else
abbrev pub one_unconnected : List Entry
one_unconnected = Abort ∷ one_write

-- the same machine, whose move may begin at once and makes at most so many passes before the device stops
abbrev pub one_early : ℕ → Desc
one_early rounds = record one { begin = 0; rounds = rounds }

-- a run in which the write completes within the first pass
abbrev pub one_marked : List Entry
one_marked =
    Begin ∷ Issue 0 0 ∷ Pass 1 ∷ Deliver 0 0 ∷ Copy 0 ∷ Complete 0 0 ∷ Copy 1 ∷ Hold 0 Stop ∷ Arc 0 Stop ∷ Arc 0 StopCopy
    ∷ Joint ∷ Report 0 ∷ Pass 2 ∷ Copy 1 ∷ Block 0 0 ∷ []

-- a run in which the write is delivered before the first report and completes after it
abbrev pub one_late : List Entry
one_late =
    Begin ∷ Pass 1 ∷ Issue 0 0 ∷ Copy 0 ∷ Copy 1 ∷ Deliver 0 0 ∷ Report 0 ∷ Pass 2 ∷ Complete 0 0 ∷ Hold 0 Stop ∷ Arc 0 Stop
    ∷ Arc 0 StopCopy ∷ Joint ∷ Report 0 ∷ Pass 3 ∷ Copy 1 ∷ []

-- the same machine, whose device fails its arc of this number
abbrev pub one_failing : ℕ → Desc
one_failing number = record one { devices = (record one_device { fails = number }) ∷ [] }

-- the source's journal where the first arc fails, and where the second does
abbrev pub one_fails_first : List Entry
one_fails_first = one_write ++ Begin ∷ Hold 0 Stop ∷ Fail 0 Stop ∷ Abort ∷ []

abbrev pub one_fails_second : List Entry
one_fails_second = one_write ++ Begin ∷ Hold 0 Stop ∷ Arc 0 Stop ∷ Fail 0 StopCopy ∷ Abort ∷ Arc 0 Running ∷ []
