-- Paths between device states: which state needs which flag, the table of next states, and the walk past states that a device lacks.
use Rattle.std.specs.Prelude.{ℕ, zero, suc, ◌==◌, ◌&&◌, Bool, true, false, Option, Some, None, Result, Ok, Err, List, [], ◌∷◌, if◌then◌else◌}
use Rattle.vfm_types.specs.declared.state.MigState.{MigState}
use Rattle.vfm_types.specs.declared.state.MigState.TheVariants.{Error, Stop, Running, StopCopy, Resuming, RunningP2p, PreCopy, PreCopyP2p}
use Rattle.vfm_types.specs.declared.state.PathFault.{PathFault}
use Rattle.vfm_types.specs.declared.state.PathFault.TheVariants.{Unsupported, Forbidden, FromError}
use Rattle.vfm_types.specs.State.{state_number, has_p2p, has_pre_copy}

-- whether two states are the same
abbrev pub same_state : MigState → MigState → Bool
same_state a b = state_number a == state_number b

-- whether a device with these flags has the state: RUNNING_P2P needs P2P, PRE_COPY needs PRE_COPY, PRE_COPY_P2P needs both
abbrev pub supports : ℕ → MigState → Bool
supports bits Error = true
supports bits Stop = true
supports bits Running = true
supports bits StopCopy = true
supports bits Resuming = true
supports bits RunningP2p = has_p2p bits
supports bits PreCopy = has_pre_copy bits
supports bits PreCopyP2p = has_p2p bits && has_pre_copy bits

-- the fifteen single arcs of linux/vfio.h (enum vfio_device_mig_state)
abbrev pub is_single_arc : MigState → MigState → Bool
is_single_arc RunningP2p Stop = true
is_single_arc StopCopy Stop = true
is_single_arc Resuming Stop = true
is_single_arc PreCopy Running = true
is_single_arc RunningP2p Running = true
is_single_arc PreCopyP2p RunningP2p = true
is_single_arc Running RunningP2p = true
is_single_arc Stop RunningP2p = true
is_single_arc Running PreCopy = true
is_single_arc RunningP2p PreCopyP2p = true
is_single_arc Stop StopCopy = true
is_single_arc PreCopy PreCopyP2p = true
is_single_arc PreCopyP2p PreCopy = true
is_single_arc PreCopyP2p StopCopy = true
is_single_arc Stop Resuming = true
is_single_arc _ _ = false

-- what stands in the table: a state, or that the protocol refuses the way
abbrev refused : Option MigState
refused = None

abbrev stop : Option MigState
stop = Some Stop

abbrev running : Option MigState
running = Some Running

abbrev stop_copy : Option MigState
stop_copy = Some StopCopy

abbrev resuming : Option MigState
resuming = Some Resuming

abbrev running_p2p : Option MigState
running_p2p = Some RunningP2p

abbrev pre_copy : Option MigState
pre_copy = Some PreCopy

abbrev pre_copy_p2p : Option MigState
pre_copy_p2p = Some PreCopyP2p

-- a row of the table: what stands under STOP, RUNNING, STOP_COPY, RESUMING, RUNNING_P2P, PRE_COPY and PRE_COPY_P2P
abbrev row : Option MigState → Option MigState → Option MigState → Option MigState → Option MigState → Option MigState → Option MigState → MigState → Option MigState
row to_stop to_running to_stop_copy to_resuming to_running_p2p to_pre_copy to_pre_copy_p2p Stop = to_stop
row to_stop to_running to_stop_copy to_resuming to_running_p2p to_pre_copy to_pre_copy_p2p Running = to_running
row to_stop to_running to_stop_copy to_resuming to_running_p2p to_pre_copy to_pre_copy_p2p StopCopy = to_stop_copy
row to_stop to_running to_stop_copy to_resuming to_running_p2p to_pre_copy to_pre_copy_p2p Resuming = to_resuming
row to_stop to_running to_stop_copy to_resuming to_running_p2p to_pre_copy to_pre_copy_p2p RunningP2p = to_running_p2p
row to_stop to_running to_stop_copy to_resuming to_running_p2p to_pre_copy to_pre_copy_p2p PreCopy = to_pre_copy
row to_stop to_running to_stop_copy to_resuming to_running_p2p to_pre_copy to_pre_copy_p2p PreCopyP2p = to_pre_copy_p2p
row to_stop to_running to_stop_copy to_resuming to_running_p2p to_pre_copy to_pre_copy_p2p Error = refused

-- the table of next states: from a state, the next one towards another; nothing where the protocol refuses the way
abbrev pub step_towards : MigState → MigState → Option MigState
-- (towards: STOP, RUNNING, STOP_COPY, RESUMING, RUNNING_P2P, PRE_COPY, PRE_COPY_P2P)
step_towards Stop = row stop running_p2p stop_copy resuming running_p2p running_p2p running_p2p
step_towards Running = row running_p2p running running_p2p running_p2p running_p2p pre_copy pre_copy
step_towards StopCopy = row stop stop stop_copy stop stop refused refused
step_towards Resuming = row stop stop stop resuming stop stop stop
step_towards RunningP2p = row stop running stop stop running_p2p running pre_copy_p2p
step_towards PreCopy = row running running pre_copy_p2p running running pre_copy pre_copy_p2p
step_towards PreCopyP2p = row running_p2p running_p2p stop_copy running_p2p running_p2p pre_copy pre_copy_p2p
step_towards Error = row refused refused refused refused refused refused refused

-- the table's answer as a state, and the state itself where the way is refused
abbrev pub step_or_stay : MigState → MigState → MigState
step_or_stay from to = elim (step_towards from to) [ None ↦ from | Some next ↦ next ]

-- the next state towards another for a device with these flags: where it lacks the table's state, the table is asked again from there.
-- The second answer is one that it has, as vfm_states proves. Where the way is refused, the state itself.
abbrev pub next_towards : MigState → MigState → ℕ → MigState
next_towards from to bits =
    (let first = step_or_stay from to in
    if supports bits first then first else step_or_stay first to)

-- whether the table has a way
abbrev pub has_way : MigState → MigState → Bool
has_way from to = elim (step_towards from to) [ None ↦ false | Some _ ↦ true ]

-- why there is no path, by the first cause that stands: out of ERROR, to ERROR, from or to a state that the device lacks,
-- and what the table refuses (out of STOP_COPY into PRE_COPY or PRE_COPY_P2P)
abbrev pub path_refusal : MigState → MigState → ℕ → Option PathFault
path_refusal from to bits =
    if same_state from Error then Some FromError else
    (if same_state to Error then Some (Forbidden from to) else
    (if supports bits from then
    (if supports bits to then
    (if has_way from to then None else Some (Forbidden from to))
    else Some (Unsupported to))
    else Some (Unsupported from)))

-- the next state towards another, or why there is none
abbrev pub next_of : MigState → MigState → ℕ → Result MigState PathFault
next_of from to bits =
    elim (path_refusal from to bits) [ None ↦ Ok (next_towards from to bits) | Some fault ↦ Err fault ]

-- the next states up to a target, at most as many as the first number says
abbrev pub states_up_to : ℕ → MigState → MigState → ℕ → List MigState
states_up_to zero from to bits = []
states_up_to (suc most) from to bits =
    if same_state from to then [] else
    (next_towards from to bits ∷ states_up_to most (next_towards from to bits) to bits)

-- the states from one up to another, both among them, or why there is no path; no path takes more than four steps
abbrev pub path_of : MigState → MigState → ℕ → Result (List MigState) PathFault
path_of from to bits =
    elim (path_refusal from to bits) [ None ↦ Ok (from ∷ states_up_to 4 from to bits) | Some fault ↦ Err fault ]
