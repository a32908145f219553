-- Device states and support flags, by the numbers of linux/vfio.h.
use Rattle.std.specs.Prelude.{ℕ, ◌/◌, ◌%◌, ◌==◌, ◌||◌, Bool, Option, Some, None, if◌then◌else◌}
use Rattle.vfm_types.specs.declared.state.MigState.{MigState}
use Rattle.vfm_types.specs.declared.state.MigState.TheVariants.{Error, Stop, Running, StopCopy, Resuming, RunningP2p, PreCopy, PreCopyP2p}

-- the number of a state, as enum vfio_device_mig_state has it
abbrev pub state_number : MigState → ℕ
state_number Error = 0
state_number Stop = 1
state_number Running = 2
state_number StopCopy = 3
state_number Resuming = 4
state_number RunningP2p = 5
state_number PreCopy = 6
state_number PreCopyP2p = 7

-- the state with a number, if there is one
abbrev pub state_of_number : ℕ → Option MigState
state_of_number n =
    if n == 0 then Some Error else
    (if n == 1 then Some Stop else
    (if n == 2 then Some Running else
    (if n == 3 then Some StopCopy else
    (if n == 4 then Some Resuming else
    (if n == 5 then Some RunningP2p else
    (if n == 6 then Some PreCopy else
    (if n == 7 then Some PreCopyP2p else None)))))))

-- the bits that a device may show: STOP_COPY (bit 0) always, P2P (bit 1) and PRE_COPY (bit 2) as it likes
abbrev pub is_flags : ℕ → Bool
is_flags bits = bits == 1 || bits == 3 || bits == 5 || bits == 7

-- bit 1: the device has RUNNING_P2P
abbrev pub has_p2p : ℕ → Bool
has_p2p bits = bits / 2 % 2 == 1

-- bit 2: the device has PRE_COPY
abbrev pub has_pre_copy : ℕ → Bool
has_pre_copy bits = bits / 4 % 2 == 1
