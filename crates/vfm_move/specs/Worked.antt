-- A machine with one device that makes one write of four bytes into page 1, and what its runs made.
use Rattle.std.specs.Prelude.{true, List, [], ◌∷◌, ◌++◌, reverse, Some, None}
use Rattle.vfm_types.specs.declared.desc.Desc.{Desc}
use Rattle.vfm_types.specs.declared.desc.DevShape.{DevShape}
use Rattle.vfm_types.specs.declared.job.Job.TheVariants.{Write}
use Rattle.vfm_types.specs.declared.state.MigState.TheVariants.{Stop, Running, StopCopy}
use Rattle.vfm_types.specs.declared.entry.Entry.{Entry}
use Rattle.vfm_types.specs.declared.entry.Entry.TheVariants.{Issue, Deliver, Complete, Hold, Arc, Fail, Pass, Copy, Block, Begin, Joint, Abort, Resume}
use Rattle.vfm_types.specs.Deliveries.{machine_of}
use Rattle.vfm_types.specs.Machine.{Machine}
use Rattle.vfm_plain.specs.Report.{Made}

abbrev pub one_device : DevShape
one_device =
    record {
      name = 97 ∷ [];
      flags = 1;
      bars = 64 ∷ [];
      window = 1;
      tells = true;
      budget = 1;
      fails = 0;
      jobs = Write 18 (1 ∷ 2 ∷ 3 ∷ 4 ∷ []) ∷ [];
      queue = 0 ∷ [];
    }

abbrev pub one : Desc
one =
    record {
      session = 7;
      page = 16;
      pages = 2;
      channels = 1;
      version = 1;
      begin = 99;
      rounds = 0;
      threshold = 0;
      devices = one_device ∷ [];
    }

-- the request of the device, done
abbrev pub one_write : List Entry
one_write = Issue 0 0 ∷ Deliver 0 0 ∷ Complete 0 0 ∷ []

-- the source's whole journal, oldest entry first
abbrev pub one_source : List Entry
one_source =
    one_write ++ Begin ∷ Hold 0 Stop ∷ Arc 0 Stop ∷ Arc 0 StopCopy ∷ Joint ∷ Pass 1 ∷ Copy 0 ∷ Copy 1 ∷ Block 0 0 ∷ []

-- the way home of the device
abbrev pub one_home : List Entry
one_home = Arc 0 Stop ∷ Arc 0 Running ∷ []

-- the source's journal where it gave up behind its last pass, and where it gave up before anything else
abbrev pub one_aborted : List Entry
one_aborted = one_source ++ Abort ∷ one_home

abbrev pub one_unconnected : List Entry
one_unconnected = Abort ∷ one_write

-- and where the first arc failed
abbrev pub one_fails_first : List Entry
one_fails_first = one_write ++ Begin ∷ Hold 0 Stop ∷ Fail 0 Stop ∷ Abort ∷ []

-- the machine after the write
abbrev pub one_end : Machine
one_end = machine_of one (reverse one_source)

-- moved
abbrev pub one_moved : Made
one_moved =
    record {
      desc = one;
      source = one_source;
      joint = Some one_end;
      loaded = None;
      destination = Some (Resume ∷ one_home);
      final = Some one_end;
    }

-- given up after an arc that failed
abbrev pub one_failed : Made
one_failed =
    record {
      desc = one;
      source = one_fails_first;
      joint = None;
      loaded = None;
      destination = None;
      final = Some one_end;
    }

-- given up behind its last pass
abbrev pub one_given_up : Made
one_given_up =
    record {
      desc = one;
      source = one_aborted;
      joint = Some one_end;
      loaded = None;
      destination = None;
      final = Some one_end;
    }

-- with Go on its way: neither end runs
abbrev pub one_in_doubt : Made
one_in_doubt =
    record {
      desc = one;
      source = one_source;
      joint = Some one_end;
      loaded = None;
      destination = None;
      final = None;
    }
