-- Short runs that no rule would refuse but the one at the marked place, and that would be unclean.
use Rattle.std.specs.Prelude.{true, List, [], ◌∷◌}
use Rattle.vfm_types.specs.declared.desc.Desc.{Desc}
use Rattle.vfm_types.specs.declared.desc.DevShape.{DevShape}
use Rattle.vfm_types.specs.declared.job.Job.TheVariants.{Write}
use Rattle.vfm_types.specs.declared.state.MigState.TheVariants.{Stop, Running, RunningP2p}
use Rattle.vfm_types.specs.declared.entry.Entry.{Entry}
use Rattle.vfm_types.specs.declared.entry.Entry.TheVariants.{Issue, Deliver, Hold, Arc, Begin, Abort}

-- a disk that writes one byte into page 0
abbrev pub disk : DevShape
disk =
    record {
      name = 97 ∷ [];
      flags = 1;
      bars = 64 ∷ [];
      window = 1;
      tells = true;
      budget = 1;
      fails = 0;
      jobs = Write 0 (7 ∷ []) ∷ [];
      queue = 0 ∷ [];
    }

-- a machine with this one disk
abbrev pub lone : Desc
lone =
    record {
      session = 7;
      page = 16;
      pages = 2;
      channels = 1;
      version = 1;
      begin = 0;
      rounds = 0;
      threshold = 0;
      devices = disk ∷ [];
    }

-- a device that writes one byte into the BAR of device 1, at offset 16
abbrev pub first_peer : DevShape
first_peer =
    record {
      name = 97 ∷ [];
      flags = 3;
      bars = 64 ∷ [];
      window = 1;
      tells = true;
      budget = 1;
      fails = 0;
      jobs = Write 268959760 (7 ∷ []) ∷ [];
      queue = 0 ∷ [];
    }

-- one that writes one byte into the BAR of device 0, at offset 16
abbrev pub second_peer : DevShape
second_peer =
    record {
      name = 98 ∷ [];
      flags = 3;
      bars = 64 ∷ [];
      window = 1;
      tells = true;
      budget = 1;
      fails = 0;
      jobs = Write 268435472 (7 ∷ []) ∷ [];
      queue = 0 ∷ [];
    }

-- a machine with these two
abbrev pub peers : Desc
peers =
    record {
      session = 7;
      page = 16;
      pages = 2;
      channels = 1;
      version = 1;
      begin = 0;
      rounds = 0;
      threshold = 0;
      devices = first_peer ∷ second_peer ∷ [];
    }

-- device 0 enters RUNNING_P2P (place 3) with a write into the BAR of device 1 outstanding; that stops, and the write comes
abbrev pub enters_with_barred : List Entry
enters_with_barred =
    Begin ∷ Issue 0 0 ∷ Hold 0 RunningP2p ∷ Arc 0 RunningP2p ∷ Hold 1 RunningP2p ∷ Arc 1 RunningP2p ∷ Hold 1 Stop ∷ Arc 1 Stop
    ∷ Deliver 0 0 ∷ []

-- device 0 is held for STOP (place 3) and stops (place 4) while device 1 still runs and writes into its BAR
abbrev pub stops_beside_running : List Entry
stops_beside_running =
    Begin ∷ Hold 0 RunningP2p ∷ Arc 0 RunningP2p ∷ Hold 0 Stop ∷ Arc 0 Stop ∷ Issue 1 0 ∷ Deliver 1 0 ∷ []

-- after the source gave up, device 1 goes home to RUNNING (place 8) while device 0 is still stopped, and writes into its BAR
abbrev pub starts_beside_stopped : List Entry
starts_beside_stopped =
    Begin ∷ Hold 0 RunningP2p ∷ Arc 0 RunningP2p ∷ Hold 1 RunningP2p ∷ Arc 1 RunningP2p ∷ Hold 0 Stop ∷ Arc 0 Stop ∷ Abort
    ∷ Arc 1 Running ∷ Issue 1 0 ∷ Deliver 1 0 ∷ []

-- the disk stops (place 3) with its write outstanding, and then the write comes
abbrev pub stops_with_request : List Entry
stops_with_request = Begin ∷ Issue 0 0 ∷ Hold 0 Stop ∷ Arc 0 Stop ∷ Deliver 0 0 ∷ []

-- device 0 issues its write into the BAR of device 1 in RUNNING_P2P (place 3); that stops, and the write comes
abbrev pub issues_in_p2p : List Entry
issues_in_p2p =
    Begin ∷ Hold 0 RunningP2p ∷ Arc 0 RunningP2p ∷ Issue 0 0 ∷ Hold 1 RunningP2p ∷ Arc 1 RunningP2p ∷ Hold 1 Stop ∷ Arc 1 Stop
    ∷ Deliver 0 0 ∷ []

-- the disk issues its write where it is stopped (place 3), and the write comes
abbrev pub issues_when_stopped : List Entry
issues_when_stopped = Begin ∷ Hold 0 Stop ∷ Arc 0 Stop ∷ Issue 0 0 ∷ Deliver 0 0 ∷ []
