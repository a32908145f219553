-- Machines with two devices, the first of which rings the second one's doorbell.
use Rattle.std.specs.Prelude.{List, [], ◌∷◌, ◌++◌}
use Rattle.vfm_types.specs.declared.desc.Desc.{Desc}
use Rattle.vfm_types.specs.declared.desc.DevShape.{DevShape}
use Rattle.vfm_types.specs.declared.job.Job.TheVariants.{Write, Add}
use Rattle.vfm_types.specs.declared.state.MigState.TheVariants.{Stop, Running, StopCopy, RunningP2p}
use Rattle.vfm_types.specs.declared.entry.Entry.{Entry}
use Rattle.vfm_types.specs.declared.entry.Entry.TheVariants.{Issue, Deliver, Complete, Hold, Arc, Pass, Copy, Block, Begin, Joint, Resume}
use Rattle.vfm_cases.specs.Bare.{bare_device, second_device, bare_machine, eight}

-- a device with two jobs and leave to accept one request
abbrev pub rung_device : DevShape
rung_device = record second_device { budget = 1; jobs = Add 0 3 ∷ Add 8 5 ∷ [] }

-- one doorbell, for job 1
abbrev pub bell : Desc
bell =
    record bare_machine {
      devices = (record bare_device { budget = 1; jobs = Write 268959744 (eight 1) ∷ []; queue = 0 ∷ [] }) ∷ rung_device ∷ [];
    }

-- the second device is in RUNNING_P2P when its doorbell rings
abbrev pub bell_rung : List Entry
bell_rung = Begin ∷ Hold 1 RunningP2p ∷ Arc 1 RunningP2p ∷ Issue 0 0 ∷ Deliver 0 0 ∷ Complete 0 0 ∷ []

-- the source goes on to Joint without another request
abbrev pub bell_joint : List Entry
bell_joint =
    bell_rung ++ Hold 0 RunningP2p ∷ Arc 0 RunningP2p ∷ Hold 0 Stop ∷ Hold 1 Stop ∷ Arc 0 Stop ∷ Arc 1 Stop
    ∷ Arc 0 StopCopy ∷ Arc 1 StopCopy ∷ Joint ∷ []

-- the destination does the request that the doorbell asked for
abbrev pub bell_joined : List Entry
bell_joined =
    bell_joint ++ Pass 1 ∷ Copy 0 ∷ Block 0 0 ∷ Block 1 0 ∷ Resume ∷ Arc 0 Stop ∷ Arc 0 RunningP2p ∷ Arc 1 Stop
    ∷ Arc 1 RunningP2p ∷ Issue 1 0 ∷ Arc 0 Running ∷ Deliver 1 0 ∷ Arc 1 Running ∷ Complete 1 0 ∷ []

-- three doorbells: for job 1, for job 1 again, and for a job that isn't there
abbrev pub three_bells : Desc
three_bells =
    record bare_machine {
      devices =
          (record bare_device {
            budget = 3;
            jobs = Write 268959744 (eight 1) ∷ Write 268959744 (eight 2) ∷ [];
            queue = 0 ∷ 0 ∷ 1 ∷ [];
          })
          ∷ rung_device ∷ [];
    }

abbrev pub three_bells_rung : List Entry
three_bells_rung =
    Begin ∷ Issue 0 0 ∷ Deliver 0 0 ∷ Complete 0 0 ∷ Issue 0 1 ∷ Deliver 0 1 ∷ Complete 0 1 ∷ Issue 0 2 ∷ Deliver 0 2 ∷ []
