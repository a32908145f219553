-- How the devices of a move stand: the states that they come through, the holds on the way, and what may be on the bus.
use Rattle.std.specs.Prelude.{◌≡◌, ℕ, ◌<◌, ◌||◌, Bool, true, false, List, [], Option, Some}
use Rattle.vfm_types.specs.declared.state.MigState.{MigState}
use Rattle.vfm_types.specs.declared.state.MigState.TheVariants.{Error, Stop, Running, StopCopy, Resuming, RunningP2p, PreCopy, PreCopyP2p}
use Rattle.vfm_types.specs.declared.desc.Desc.{Desc}
use Rattle.vfm_types.specs.declared.entry.Entry.{Entry}
use Rattle.vfm_types.specs.Desc.{device_count}
use Rattle.vfm_types.specs.Paths.{same_state}
use Rattle.vfm_types.specs.Phases.{is_joint, is_aborted, is_resumed}
use Rattle.vfm_types.specs.Outstanding.{Outstanding, outstanding_of}
use Rattle.vfm_types.specs.Arcs.{state_of, hold_of, is_running, is_p2p, is_stopped}
use Rattle.vfm_types.specs.Words.{has_barred}

-- a device that is held in the first state is held for one such second state: on its way to STOP_COPY, and not stopped
abbrev pub is_hold_step : MigState → MigState → Bool
is_hold_step Running RunningP2p = true
is_hold_step Running Stop = true
is_hold_step PreCopy PreCopyP2p = true
is_hold_step PreCopy StopCopy = true
is_hold_step RunningP2p Stop = true
is_hold_step PreCopyP2p StopCopy = true
is_hold_step _ _ = false

-- the arcs of a move: to PRE_COPY, on the way to STOP_COPY, and home to RUNNING; devices that lack a state go past it
abbrev pub is_arc_step : MigState → MigState → Bool
is_arc_step Running PreCopy = true
is_arc_step Running RunningP2p = true
is_arc_step Running Stop = true
is_arc_step PreCopy PreCopyP2p = true
is_arc_step PreCopy StopCopy = true
is_arc_step PreCopy Running = true
is_arc_step RunningP2p Stop = true
is_arc_step RunningP2p Running = true
is_arc_step PreCopyP2p StopCopy = true
is_arc_step PreCopyP2p RunningP2p = true
is_arc_step PreCopyP2p Running = true
is_arc_step Stop StopCopy = true
is_arc_step Stop RunningP2p = true
is_arc_step Stop Running = true
is_arc_step StopCopy Stop = true
is_arc_step Resuming Stop = true
is_arc_step _ _ = false

-- the device starts no peer-to-peer DMA: it is in a peer-to-peer state or stopped
abbrev pub is_quiet_state : MigState → Bool
is_quiet_state state = is_p2p state || is_stopped state

-- What every legal list keeps of one device: it is never in ERROR, it is held only on its way to STOP_COPY, it has nothing
-- outstanding where it is stopped, and nothing that is barred where it isn't in a running state.
pub record StateKept (D : Desc) (d : ℕ) (state : MigState) (hold : Option MigState) (requests : List Outstanding) : Type 0 where
  pub known : same_state state Error ≡ false
  pub held : (to : MigState) → hold ≡ Some to → is_hold_step state to ≡ true
  pub still : is_stopped state ≡ true → requests ≡ []
  pub unbarred : is_running state ≡ false → has_barred D d requests ≡ false

-- each device keeps its part
abbrev pub EachStands : Desc → List Entry → Type 0
EachStands D past = (d : ℕ) → d < device_count D → StateKept D d (state_of d past) (hold_of d past) (outstanding_of D d past)

-- where one device is stopped, each is in a peer-to-peer state or stopped
abbrev pub TameTogether : Desc → List Entry → Type 0
TameTogether D past =
    (d e : ℕ) → d < device_count D → e < device_count D → is_stopped (state_of d past) ≡ true → is_quiet_state (state_of e past) ≡ true

-- from Joint on, until the source gives up or the destination takes over, every device stands in STOP_COPY
abbrev pub JointStands : Desc → List Entry → Type 0
JointStands D past =
    is_joint past ≡ true → is_aborted past ≡ false → is_resumed past ≡ false → (d : ℕ) → d < device_count D → state_of d past ≡ StopCopy

-- what every legal list keeps of how the devices stand
abbrev pub KeepsStates : Desc → List Entry → Type 0
KeepsStates D past = EachStands D past × TameTogether D past × JointStands D past
