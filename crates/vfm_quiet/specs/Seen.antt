-- What the coordinator reads off a look: where each device stands, and what it may do next.
use Rattle.std.specs.Prelude.{ℕ, ◌+◌, ◌==◌, ◌&&◌, ◌||◌, not, Bool, false, nat_lt, nat_le, is_none, is_some, if◌then◌else◌, length, None, Ok, Err, slice_index_or, unwrap_or}
use Rattle.vfm_types.specs.declared.desc.Desc.{Desc}
use Rattle.vfm_types.specs.declared.entry.Entry.{Entry}
use Rattle.vfm_types.specs.declared.entry.Entry.TheVariants.{Arc, Fail}
use Rattle.vfm_types.specs.declared.look.DevLook.{DevLook}
use Rattle.vfm_types.specs.declared.state.MigState.{MigState}
use Rattle.vfm_types.specs.declared.state.MigState.TheVariants.{Stop, Running, StopCopy}
use Rattle.vfm_types.specs.State.{has_pre_copy}
use Rattle.vfm_types.specs.Desc.{shape_at}
use Rattle.vfm_types.specs.Paths.{same_state, next_of}
use Rattle.vfm_types.specs.Arcs.{is_p2p, is_stopped}
use Rattle.vfm_base.specs.Least.{all_below}
use Rattle.vfm_quiet.specs.declared.move_look.MoveLook.{MoveLook}

-- what is seen of a device that isn't there
abbrev pub no_look : DevLook
no_look =
    record {
      state = Running;
      held = None;
      unissued = 0;
      undelivered = 0;
      delivered = 0;
      issued = 0;
      completes = 0;
      arcs = 0;
      blocked = None;
    }

-- what is seen of device d
abbrev pub seen : MoveLook → ℕ → DevLook
seen look d = slice_index_or look.devices d no_look

-- everything is quiet enough for the next arc of device d
abbrev pub sees_ready : MoveLook → ℕ → Bool
sees_ready look d = slice_index_or look.ready d false

-- device d has reported since the newest pass began
abbrev pub sees_reported : MoveLook → ℕ → Bool
sees_reported look d = slice_index_or look.reported d false

-- every device stands in this state
abbrev pub sees_all_in : MoveLook → MigState → Bool
sees_all_in look state = all_below look.count (λ d. same_state (seen look d).state state)

-- nothing of device d is pending or outstanding
abbrev pub sees_idle : MoveLook → ℕ → Bool
sees_idle look d = (seen look d).unissued == 0 && (seen look d).undelivered == 0 && (seen look d).delivered == 0

-- device d has completed what is wanted before the move, or is idle
abbrev pub sees_warm : Desc → MoveLook → ℕ → Bool
sees_warm D look d = nat_le D.begin (seen look d).completes || sees_idle look d

-- there is one device, or each is in a peer-to-peer state or stopped
abbrev pub sees_quiet : MoveLook → Bool
sees_quiet look =
    look.count == 1 || all_below look.count (λ d. is_p2p (seen look d).state || is_stopped (seen look d).state)

-- It is decided that the devices are to stop: no pass is to be made while they run; or the newest has ended, and it
-- was the last that may be made or was over few pages.
abbrev pub sees_decided : Desc → MoveLook → Bool
sees_decided D look =
    D.rounds == 0
    || (nat_lt 0 look.passes && look.ended && (nat_le D.rounds look.passes || nat_le (length look.set) D.threshold))

-- the next state towards another, or the state itself where no path leads there
abbrev pub next_or_stay : MigState → MigState → ℕ → MigState
next_or_stay from to flags = elim (next_of from to flags) [ Ok next ↦ next | Err _ ↦ from ]

-- the next state of device d towards another
abbrev pub next_seen : Desc → MoveLook → ℕ → MigState → MigState
next_seen D look d goal = next_or_stay (seen look d).state goal (shape_at D d).flags

-- the arc of device d to this state: it fails where it is the arc that the description says
abbrev pub arc_or_fail : Desc → MoveLook → ℕ → MigState → Entry
arc_or_fail D look d to = if (seen look d).arcs + 1 == (shape_at D d).fails then Fail d to else Arc d to

-- device d may take an arc on its way home to RUNNING
abbrev pub may_go_home : MoveLook → ℕ → Bool
may_go_home look d = not (same_state (seen look d).state Running) && sees_ready look d

-- device d has PRE_COPY and stands in RUNNING
abbrev pub may_enter_pre_copy : Desc → MoveLook → ℕ → Bool
may_enter_pre_copy D look d = has_pre_copy (shape_at D d).flags && same_state (seen look d).state Running

-- device d may be held for its next state on the way to STOP_COPY
abbrev pub may_be_held : Desc → MoveLook → ℕ → Bool
may_be_held D look d =
    let to = next_seen D look d StopCopy in
    is_none (seen look d).held && not (is_stopped (seen look d).state)
    && (not (same_state to Stop || same_state to StopCopy) || sees_quiet look)

-- the state to which a way is open for device d: the one that it is held for, else STOP_COPY
abbrev pub way_out_of : MoveLook → ℕ → MigState
way_out_of look d = unwrap_or (seen look d).held StopCopy

-- device d may take an arc on its way to STOP_COPY: it is held, or in STOP
abbrev pub may_go_out : MoveLook → ℕ → Bool
may_go_out look d = (is_some (seen look d).held || same_state (seen look d).state Stop) && sees_ready look d
