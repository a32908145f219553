-- A machine with three devices that do nothing.
use Rattle.std.specs.Prelude.{List, [], ◌∷◌, ◌++◌}
use Rattle.vfm_types.specs.declared.desc.Desc.{Desc}
use Rattle.vfm_types.specs.declared.state.MigState.TheVariants.{Stop, Running, RunningP2p}
use Rattle.vfm_types.specs.declared.entry.Entry.{Entry}
use Rattle.vfm_types.specs.declared.entry.Entry.TheVariants.{Hold, Arc, Fail, Begin, Abort}
use Rattle.vfm_cases.specs.Bare.{bare_device, second_device, third_device, bare_machine}

abbrev pub trio : Desc
trio = record bare_machine { devices = bare_device ∷ second_device ∷ third_device ∷ [] }

-- two of them in RUNNING_P2P
abbrev pub trio_two_quiet : List Entry
trio_two_quiet = Begin ∷ Hold 0 RunningP2p ∷ Arc 0 RunningP2p ∷ Hold 1 RunningP2p ∷ Arc 1 RunningP2p ∷ []

-- all in RUNNING_P2P, then the second in STOP
abbrev pub trio_one_stopped : List Entry
trio_one_stopped = trio_two_quiet ++ Hold 2 RunningP2p ∷ Arc 2 RunningP2p ∷ Hold 1 Stop ∷ Arc 1 Stop ∷ []

-- the same machine, whose second device fails its second arc
abbrev pub trio_failing : Desc
trio_failing =
    record bare_machine { devices = bare_device ∷ (record second_device { fails = 2 }) ∷ third_device ∷ [] }

-- a source's journal there that the rules allow
abbrev pub trio_failed : List Entry
trio_failed =
    Begin ∷ Hold 0 RunningP2p ∷ Hold 1 RunningP2p ∷ Hold 2 RunningP2p ∷ Arc 0 RunningP2p ∷ Arc 1 RunningP2p
    ∷ Arc 2 RunningP2p ∷ Hold 0 Stop ∷ Hold 1 Stop ∷ Hold 2 Stop ∷ Arc 0 Stop ∷ Fail 1 Stop ∷ Abort ∷ Arc 0 RunningP2p
    ∷ Arc 0 Running ∷ Arc 1 Running ∷ Arc 2 Running ∷ []
