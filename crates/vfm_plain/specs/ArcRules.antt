-- When a device may take the arc to a state, and what must be still for that.
use Rattle.std.specs.Prelude.{Bool, List, [], if◌then◌else◌, not, ℕ, ◌&&◌, ◌+◌, ◌==◌, ◌||◌, ◌∷◌}
use Rattle.vfm_types.specs.declared.state.MigState.{MigState}
use Rattle.vfm_types.specs.declared.state.MigState.TheVariants.{Running, Stop, StopCopy}
use Rattle.vfm_types.specs.declared.entry.Entry.{Entry}
use Rattle.vfm_types.specs.declared.entry.Rule.TheVariants.{Order, Path, Quiet}
use Rattle.vfm_types.specs.declared.desc.Desc.{Desc}
use Rattle.vfm_types.specs.Paths.{same_state}
use Rattle.vfm_types.specs.Desc.{shape_at}
use Rattle.vfm_types.specs.Phases.{is_aborted, is_joint, is_on, is_resumed}
use Rattle.vfm_types.specs.Arcs.{arc_count, is_p2p, is_running, state_of}
use Rattle.vfm_types.specs.Outstanding.{outstanding_of}
use Rattle.vfm_types.specs.Words.{has_barred, is_next_towards, is_nothing, is_quiet, is_way_open, none_stopped}
use Rattle.vfm_plain.specs.Condition.{Condition}

-- arcs are made before Joint while the move is on, and after it was given up or taken over
abbrev pub may_take_arcs : List Entry → Bool
may_take_arcs past = (is_on past && not (is_joint past)) || is_aborted past || is_resumed past

-- the arc of device d to this state goes home to RUNNING
abbrev pub is_arc_home : Desc → ℕ → MigState → List Entry → Bool
is_arc_home D d to past = not (same_state (state_of d past) Running) && is_next_towards D d Running to past

-- the state is the right one for an arc of device d that succeeds
abbrev pub is_right_arc : Desc → ℕ → MigState → List Entry → Bool
is_right_arc D d to past =
    if is_aborted past || is_resumed past then is_arc_home D d to past
    else is_way_open D d to past && not (arc_count d past + 1 == (shape_at D d).fails)

-- the arc goes from a running state into a peer-to-peer one
abbrev pub is_entering_p2p : MigState → MigState → Bool
is_entering_p2p from to = is_running from && is_p2p to

-- the arc stops the device
abbrev pub is_stopping : MigState → MigState → Bool
is_stopping from to = (is_running from || is_p2p from) && (same_state to Stop || same_state to StopCopy)

-- the arc lets the device start peer-to-peer DMA again
abbrev pub is_leaving_p2p : MigState → MigState → Bool
is_leaving_p2p from to = is_p2p from && same_state to Running

-- Quiet enough for an arc of device d: into a peer-to-peer state with no barred request outstanding, out of motion
-- with none at all and the others quiet, and back to RUNNING with no device stopped. Other arcs need nothing.
abbrev pub is_quiet_for_arc : Desc → ℕ → MigState → List Entry → Bool
is_quiet_for_arc D d to past =
    let from = state_of d past in
    let requests = outstanding_of D d past in
    (not (is_entering_p2p from to) || not (has_barred D d requests))
    && (not (is_stopping from to) || (is_nothing requests && is_quiet D past))
    && (not (is_leaving_p2p from to) || none_stopped D past)

-- the conditions, in the order in which they are tested
abbrev pub arc_conditions : Desc → ℕ → MigState → List Entry → List Condition
arc_conditions D d to past =
    (may_take_arcs past, Order) ∷ (is_right_arc D d to past, Path) ∷ (is_quiet_for_arc D d to past, Quiet) ∷ []
