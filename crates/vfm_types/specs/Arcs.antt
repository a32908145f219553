-- The states of the devices: which one each stands in, which one it is held for, and the groups that states fall in
-- (linux/vfio.h, enum vfio_device_mig_state).
use Rattle.std.specs.Prelude.{ℕ, ◌+◌, ◌==◌, Bool, true, false, if◌then◌else◌, List, [], ◌∷◌, Option, Some, None, unwrap_or}
use Rattle.vfm_types.specs.declared.state.MigState.{MigState}
use Rattle.vfm_types.specs.declared.state.MigState.TheVariants.{Stop, Running, StopCopy, Resuming, RunningP2p, PreCopy, PreCopyP2p}
use Rattle.vfm_types.specs.declared.entry.Entry.{Entry}
use Rattle.vfm_types.specs.declared.entry.Entry.TheVariants.{Hold, Arc, Fail, Abort, Resume}

-- the state of device d: that of its last arc, RESUMING where the destination took over since, RUNNING at the start
abbrev pub state_of : ℕ → List Entry → MigState
state_of d [] = Running
state_of d (Arc e to ∷ past) = if e == d then to else state_of d past
state_of d (Resume ∷ past) = Resuming
state_of d (entry ∷ past) = state_of d past

-- the state that device d is held for: that of its last hold, if no arc of its and no giving up came since
abbrev pub hold_of : ℕ → List Entry → Option MigState
hold_of d [] = None
hold_of d (Hold e to ∷ past) = if e == d then Some to else hold_of d past
hold_of d (Arc e to ∷ past) = if e == d then None else hold_of d past
hold_of d (Abort ∷ past) = None
hold_of d (entry ∷ past) = hold_of d past

-- how many arcs device d took, failed ones included
abbrev pub arc_count : ℕ → List Entry → ℕ
arc_count d [] = 0
arc_count d (Arc e to ∷ past) = arc_count d past + (if e == d then 1 else 0)
arc_count d (Fail e to ∷ past) = arc_count d past + (if e == d then 1 else 0)
arc_count d (entry ∷ past) = arc_count d past

-- what decides what device d may issue: the state that it is held for, if it is held, else the one that it stands in
abbrev pub effective_state : ℕ → List Entry → MigState
effective_state d past = unwrap_or (hold_of d past) (state_of d past)

-- the device runs, and starts DMA of every kind
abbrev pub is_running : MigState → Bool
is_running Running = true
is_running PreCopy = true
is_running _ = false

-- the device runs, and starts no new peer-to-peer DMA
abbrev pub is_p2p : MigState → Bool
is_p2p RunningP2p = true
is_p2p PreCopyP2p = true
is_p2p _ = false

-- the device makes no DMA and doesn't change its state
abbrev pub is_stopped : MigState → Bool
is_stopped Stop = true
is_stopped StopCopy = true
is_stopped Resuming = true
is_stopped _ = false
