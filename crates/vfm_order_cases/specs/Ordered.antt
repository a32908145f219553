-- Journals by the order: three devices that do nothing, the second of which fails its second arc; and two, the first of
-- which has a request into the other outstanding.
use Rattle.std.specs.Prelude.{List, [], ◌∷◌, ◌++◌}
use Rattle.vfm_types.specs.declared.state.MigState.TheVariants.{Stop, Running, StopCopy, RunningP2p}
use Rattle.vfm_types.specs.declared.entry.Entry.{Entry}
use Rattle.vfm_cases.specs.Trio.{trio_one_stopped}
use Rattle.vfm_types.specs.declared.entry.Entry.TheVariants.{Issue, Hold, Arc, Fail, Begin, Abort}

-- the least device goes as far as it can before the next one does
abbrev pub trio_fails : List Entry
trio_fails =
    Begin ∷ Hold 0 RunningP2p ∷ Hold 1 RunningP2p ∷ Hold 2 RunningP2p ∷ Arc 0 RunningP2p ∷ Arc 1 RunningP2p
    ∷ Arc 2 RunningP2p ∷ Hold 0 Stop ∷ Hold 1 Stop ∷ Hold 2 Stop ∷ Arc 0 Stop ∷ Arc 0 StopCopy ∷ Fail 1 Stop ∷ Abort
    ∷ Arc 0 Stop ∷ Arc 0 RunningP2p ∷ Arc 0 Running ∷ Arc 1 Running ∷ Arc 2 Running ∷ []

-- the second device goes first, since the first one has a request outstanding that is barred in RUNNING_P2P
abbrev pub peers_waiting : List Entry
peers_waiting = Begin ∷ Issue 0 0 ∷ Hold 0 RunningP2p ∷ Hold 1 RunningP2p ∷ Arc 1 RunningP2p ∷ []

-- given up with the second of three devices in STOP and the others in RUNNING_P2P
abbrev pub trio_home : List Entry
trio_home = trio_one_stopped ++ Abort ∷ Arc 1 RunningP2p ∷ Arc 0 Running ∷ Arc 1 Running ∷ Arc 2 Running ∷ []
