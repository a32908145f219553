-- A machine with two devices, the first of which writes a byte into block 1 of the second one's BAR.
use Rattle.std.specs.Prelude.{List, [], ◌∷◌, ◌++◌}
use Rattle.vfm_types.specs.declared.desc.Desc.{Desc}
use Rattle.vfm_types.specs.declared.desc.DevShape.{DevShape}
use Rattle.vfm_types.specs.declared.job.Job.TheVariants.{Write}
use Rattle.vfm_types.specs.declared.state.MigState.TheVariants.{Stop, Running, StopCopy, RunningP2p}
use Rattle.vfm_types.specs.declared.entry.Entry.{Entry}
use Rattle.vfm_types.specs.declared.entry.Entry.TheVariants.{Issue, Deliver, Complete, Hold, Arc, Pass, Copy, Block, Begin, Joint, Resume}
use Rattle.vfm_cases.specs.Bare.{bare_device, second_device, bare_machine}

abbrev pub writing_device : DevShape
writing_device = record bare_device { bars = 128 ∷ []; budget = 1; jobs = Write 268959808 (161 ∷ []) ∷ []; queue = 0 ∷ [] }

abbrev pub peers : Desc
peers = record bare_machine { devices = writing_device ∷ (record second_device { bars = 128 ∷ [] }) ∷ [] }

-- the first device is held while its write is outstanding
abbrev pub peers_held : List Entry
peers_held = Begin ∷ Issue 0 0 ∷ Hold 0 RunningP2p ∷ []

-- both devices in RUNNING_P2P
abbrev pub peers_quiet : List Entry
peers_quiet =
    peers_held ++ Deliver 0 0 ∷ Complete 0 0 ∷ Arc 0 RunningP2p ∷ Hold 1 RunningP2p ∷ Arc 1 RunningP2p ∷ []

-- both devices in STOP_COPY
abbrev pub peers_stopped : List Entry
peers_stopped =
    peers_quiet ++ Hold 0 Stop ∷ Hold 1 Stop ∷ Arc 0 Stop ∷ Arc 1 Stop ∷ Arc 0 StopCopy ∷ Arc 1 StopCopy ∷ []

-- the source's whole journal
abbrev pub peers_source : List Entry
peers_source =
    peers_stopped ++ Joint ∷ Pass 1 ∷ Copy 0 ∷ Block 0 0 ∷ Block 0 1 ∷ Block 1 0 ∷ Block 1 1 ∷ []

-- the source's journal, followed by the destination's
abbrev pub peers_joined : List Entry
peers_joined =
    peers_source ++ Resume ∷ Arc 0 Stop ∷ Arc 0 RunningP2p ∷ Arc 1 Stop ∷ Arc 1 RunningP2p ∷ Arc 0 Running ∷ Arc 1 Running ∷ []
