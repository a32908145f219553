-- The words of the conditions, read off parts.
use Rattle.std.specs.Prelude.{ℕ, ◌==◌, ◌&&◌, ◌||◌, not, Bool, false, is_none, nat_le, nat_lt, length, slice_index_or, Option, Some, None, unwrap_or}
use Rattle.vfm_types.specs.declared.state.MigState.{MigState}
use Rattle.vfm_types.specs.declared.state.MigState.TheVariants.{Running, Stop, StopCopy, PreCopy}
use Rattle.vfm_types.specs.declared.job.Job.{Job}
use Rattle.vfm_types.specs.declared.desc.Desc.{Desc}
use Rattle.vfm_base.specs.Least.{all_below, least_below}
use Rattle.vfm_base.specs.PageSet.{least_page_from}
use Rattle.vfm_types.specs.State.{has_pre_copy}
use Rattle.vfm_types.specs.Paths.{same_state, next_towards}
use Rattle.vfm_types.specs.Desc.{device_count, shape_at}
use Rattle.vfm_types.specs.Arcs.{is_running, is_p2p, is_stopped}
use Rattle.vfm_types.specs.Words.{is_nothing, is_barred}
use Rattle.vfm_parts.specs.Parts.{Dev, Lead}

-- the move is on
abbrev pub is_on_in : Lead → Bool
is_on_in lead = lead.begun && not lead.aborted && not lead.resumed && not lead.failed

-- the least page of the newest pass that is yet to be copied
abbrev pub next_copy_in : Lead → Option ℕ
next_copy_in lead = least_page_from lead.left 0

-- how many blocks the part of device d may still read
abbrev pub blocks_left_in : Lead → ℕ → ℕ
blocks_left_in lead d = slice_index_or lead.parts d 0

-- the least device whose part hasn't ended
abbrev pub next_part_in : Desc → Lead → Option ℕ
next_part_in D lead = least_below (device_count D) (λ d. nat_lt 0 (blocks_left_in lead d))

-- the newest pass has ended
abbrev pub is_no_pass_open_in : Desc → Lead → Bool
is_no_pass_open_in D lead = is_none (next_copy_in lead) && is_none (next_part_in D lead)

-- device d has reported since the newest pass began
abbrev pub has_reported_in : Lead → ℕ → Bool
has_reported_in lead d = slice_index_or lead.reported d false

-- it is decided that the devices are to stop
abbrev pub is_decided_in : Desc → Lead → Bool
is_decided_in D lead =
    D.rounds == 0
    || (nat_lt 0 lead.passes && is_no_pass_open_in D lead
    && (nat_le D.rounds lead.passes || nat_le (length lead.set) D.threshold))

-- nothing of the device is pending or outstanding
abbrev pub is_idle_in : Dev → Bool
is_idle_in dev = is_nothing dev.plain.pending && is_nothing dev.requests

-- what decides what the device may issue: its hold, if it has one, else its state
abbrev pub effective_state_in : Dev → MigState
effective_state_in dev = unwrap_or dev.hold dev.state

-- a job of device d may be issued at the device's level
abbrev pub is_job_allowed_in : Desc → ℕ → Job → Dev → Bool
is_job_allowed_in D d job dev =
    is_running (effective_state_in dev) || (is_p2p (effective_state_in dev) && not (is_barred D d job))

-- there is one device, or each is in a peer-to-peer state or stopped
abbrev pub is_quiet_in : Desc → (ℕ → Dev) → Bool
is_quiet_in D devs =
    device_count D == 1
    || all_below (device_count D) (λ d. is_p2p (devs d).state || is_stopped (devs d).state)

-- no device is stopped
abbrev pub none_stopped_in : Desc → (ℕ → Dev) → Bool
none_stopped_in D devs = all_below (device_count D) (λ d. not (is_stopped (devs d).state))

-- the next state of device d on its way to a state
abbrev pub is_next_towards_in : Desc → ℕ → MigState → MigState → Dev → Bool
is_next_towards_in D d goal to dev = same_state to (next_towards dev.state goal (shape_at D d).flags)

-- the hold is for this state
abbrev pub is_hold_for : MigState → Option MigState → Bool
is_hold_for to None = false
is_hold_for to (Some state) = same_state state to

-- a way to this state is open for device d before it stops
abbrev pub is_way_open_in : Desc → ℕ → MigState → Lead → Dev → Bool
is_way_open_in D d to lead dev =
    (same_state dev.state Running && same_state to PreCopy && has_pre_copy (shape_at D d).flags
    && nat_lt 0 D.rounds && lead.passes == 0)
    || is_hold_for to dev.hold
    || (same_state dev.state Stop && same_state to StopCopy && is_decided_in D lead)
