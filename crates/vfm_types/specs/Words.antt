-- The words that the conditions of entries are made of.
use Rattle.std.specs.Prelude.{ℕ, ◌==◌, ◌&&◌, ◌||◌, not, Bool, false, nat_le, nat_lt, List, length, Option, Some, None}
use Rattle.std.specs.List.{list_any}
use Rattle.vfm_types.specs.declared.state.MigState.{MigState}
use Rattle.vfm_types.specs.declared.state.MigState.TheVariants.{Stop, Running, StopCopy, PreCopy}
use Rattle.vfm_types.specs.declared.entry.Entry.{Entry}
use Rattle.vfm_types.specs.declared.job.Job.{Job}
use Rattle.vfm_types.specs.declared.desc.Desc.{Desc}
use Rattle.vfm_types.specs.State.{has_pre_copy}
use Rattle.vfm_types.specs.Paths.{same_state, next_towards}
use Rattle.vfm_types.specs.Desc.{device_count, shape_at, job_at}
use Rattle.vfm_types.specs.Job.{is_aimed_at_bar}
use Rattle.vfm_types.specs.Machine.{device_of}
use Rattle.vfm_types.specs.Requests.{fences}
use Rattle.vfm_types.specs.Deliveries.{machine_of}
use Rattle.vfm_base.specs.Least.{all_below}
use Rattle.vfm_types.specs.Phases.{pass_count}
use Rattle.vfm_types.specs.Arcs.{state_of, hold_of, effective_state, is_running, is_p2p, is_stopped}
use Rattle.vfm_types.specs.Outstanding.{Outstanding, outstanding_of}
use Rattle.vfm_types.specs.Marks.{set_size}
use Rattle.vfm_types.specs.Blocks.{is_no_pass_open}

-- the list has nothing in it
abbrev pub is_nothing : {X : Type 0} → List X → Bool
is_nothing xs = length xs == 0

-- nothing of device d is pending or outstanding
abbrev pub is_idle : Desc → ℕ → List Entry → Bool
is_idle D d past = is_nothing (device_of (machine_of D past) d).pending && is_nothing (outstanding_of D d past)

-- a job of device d is barred in the peer-to-peer states: aimed at a BAR, or of a device that can't tell
abbrev pub is_barred : Desc → ℕ → Job → Bool
is_barred D d job = is_aimed_at_bar D job || not (shape_at D d).tells

-- a job of device d may be issued at the device's level: any job in a running state, one that isn't barred in a
-- peer-to-peer state, none in another
abbrev pub is_job_allowed : Desc → ℕ → Job → List Entry → Bool
is_job_allowed D d job past =
    is_running (effective_state d past) || (is_p2p (effective_state d past) && not (is_barred D d job))

-- a fence of device d is outstanding
abbrev pub has_fence : Desc → ℕ → List Outstanding → Bool
has_fence D d requests = list_any (λ r. fences D d r.job) requests

-- a request that is barred for its device d is outstanding there
abbrev pub has_barred : Desc → ℕ → List Outstanding → Bool
has_barred D d requests = list_any (λ r. is_barred D d (job_at D d r.job)) requests

-- there is one device, or each is in a peer-to-peer state or stopped
abbrev pub is_quiet : Desc → List Entry → Bool
is_quiet D past =
    device_count D == 1
    || all_below (device_count D) (λ d. is_p2p (state_of d past) || is_stopped (state_of d past))

-- no device is stopped
abbrev pub none_stopped : Desc → List Entry → Bool
none_stopped D past = all_below (device_count D) (λ d. not (is_stopped (state_of d past)))

-- every device stands in this state
abbrev pub all_stand_in : Desc → MigState → List Entry → Bool
all_stand_in D state past = all_below (device_count D) (λ d. same_state (state_of d past) state)

-- It is decided that the devices are to stop: no pass is to be made while they run; or the newest has ended, and it
-- was the last that may be made or was over few pages.
abbrev pub is_decided : Desc → List Entry → Bool
is_decided D past =
    D.rounds == 0
    || (nat_lt 0 (pass_count past) && is_no_pass_open D past
    && (nat_le D.rounds (pass_count past) || nat_le (set_size D past) D.threshold))

-- the next state of device d on its way to a state
abbrev pub is_next_towards : Desc → ℕ → MigState → MigState → List Entry → Bool
is_next_towards D d goal to past = same_state to (next_towards (state_of d past) goal (shape_at D d).flags)

-- device d is held for this state
abbrev pub is_held_for : ℕ → MigState → List Entry → Bool
is_held_for d to past = held (hold_of d past)
  where
    held : Option MigState → Bool
    held None = false
    held (Some state) = same_state state to

-- A way to this state is open for device d before it stops: into PRE_COPY from RUNNING before the first pass, if
-- the device has it and passes are to be made; into the state that it is held for; from STOP into STOP_COPY once that
-- is decided.
abbrev pub is_way_open : Desc → ℕ → MigState → List Entry → Bool
is_way_open D d to past =
    (same_state (state_of d past) Running && same_state to PreCopy && has_pre_copy (shape_at D d).flags
    && nat_lt 0 D.rounds && pass_count past == 0)
    || is_held_for d to past
    || (same_state (state_of d past) Stop && same_state to StopCopy && is_decided D past)
