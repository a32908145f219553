-- How many entries are left to the parts: a bound that each allowed entry makes less.
use Rattle.std.specs.Prelude.{◌≡◌, ℕ, zero, suc, ◌+◌, ◌-◌, ◌*◌, ◌<◌, ◌||◌, Bool, true, false, nat_lt, if◌then◌else◌, length, Option, None, Some}
use Rattle.std.specs.List.{sum_by}
use Rattle.vfm_types.specs.declared.desc.Desc.{Desc}
use Rattle.vfm_types.specs.declared.state.MigState.{MigState}
use Rattle.vfm_types.specs.declared.state.MigState.TheVariants.{Error, Stop, Running, StopCopy, Resuming, RunningP2p, PreCopy, PreCopyP2p}
use Rattle.vfm_types.specs.Desc.{device_count, shape_at, block_count, all_budgets}
use Rattle.vfm_types.specs.Paths.{same_state}
use Rattle.vfm_laws.specs.Queues.{waiting}
use Rattle.vfm_laws.specs.Standing.{is_hold_step}
use Rattle.vfm_parts.specs.Parts.{Dev, Lead, Parts}
use Rattle.vfm_parts.specs.PartWords.{blocks_left_in, has_reported_in}

-- the sum of what a function gives for the numbers below n
abbrev pub sum_below : ℕ → (ℕ → ℕ) → ℕ
sum_below zero item = 0
sum_below (suc n) item = sum_below n item + item n

-- the move was given up or taken over
abbrev pub is_over : Lead → Bool
is_over lead = lead.aborted || lead.resumed

-- the arcs on the way home to RUNNING
abbrev pub arcs_home : MigState → ℕ
arcs_home StopCopy = 3
arcs_home Resuming = 3
arcs_home Stop = 2
arcs_home PreCopyP2p = 2
arcs_home RunningP2p = 1
arcs_home PreCopy = 1
arcs_home Running = 0
arcs_home Error = 0

-- the holds and arcs on the way to STOP_COPY, a hold that stands taken off
abbrev pub steps_out : MigState → ℕ
steps_out Running = 6
steps_out PreCopy = 4
steps_out RunningP2p = 3
steps_out PreCopyP2p = 2
steps_out Stop = 1
steps_out StopCopy = 0
steps_out Resuming = 0
steps_out Error = 0

abbrev pub hold_made : Option MigState → ℕ
hold_made None = 0
hold_made (Some to) = 1

-- the holds and arcs that a device may still make: those out and, if the move is given up, three home; once the move is
-- over, those home
abbrev pub moves_left : Lead → Dev → ℕ
moves_left lead dev = if is_over lead then arcs_home dev.state else steps_out dev.state - hold_made dev.hold + 3

-- the entries that a device's requests may still make: three for each that it may yet accept or issue, two for each that
-- waits for its delivery, one for each other outstanding one
abbrev pub requests_left : Desc → ℕ → Dev → ℕ
requests_left D d dev =
    3 * ((shape_at D d).budget - dev.plain.accepted) + 3 * (length dev.plain.pending - length (waiting dev.requests))
    + length (waiting dev.requests) + length dev.requests

-- the entries of the newest pass that are left to a device: its blocks, a Dry while it has some, and its report
abbrev pub reads_left : ℕ → ℕ
reads_left blocks = if nat_lt 0 blocks then blocks + 1 else 0

abbrev pub report_left : Bool → ℕ
report_left reported = if reported then 0 else 1

-- the entries that are left to device d
abbrev pub device_left : Desc → Parts → ℕ → ℕ
device_left D parts d =
    requests_left D d (parts.dev d) + moves_left parts.lead (parts.dev d)
    + reads_left (blocks_left_in parts.lead d) + report_left (has_reported_in parts.lead d)

-- the entries that a pass may make: itself, a copy of each page, and for each device its blocks, a Dry and a report
abbrev pub pass_size : Desc → ℕ
pass_size D = 1 + D.pages + sum_by (λ shape. block_count shape + 2) D.devices

-- how many passes may still begin: after Joint the last one, and before it as many more as `rounds` allows
abbrev pub passes_left : Desc → Lead → ℕ
passes_left D lead = if lead.joint then (if lead.last then 0 else 1) else D.rounds - lead.passes + 1

-- Begin, Joint, a failing arc, and one of Abort and Resume
abbrev pub phases_left : Lead → ℕ
phases_left lead =
    (if lead.begun then 0 else 1) + (if lead.joint then 0 else 1) + (if is_over lead then 0 else (if lead.failed then 1 else 2))

-- the entries that are left to the parts
abbrev pub entries_left : Desc → Parts → ℕ
entries_left D parts =
    passes_left D parts.lead * pass_size D + length parts.lead.left + phases_left parts.lead
    + sum_below (device_count D) (device_left D parts)

-- the entries of a whole run, as many as a core takes room for
abbrev pub room_of_run : Desc → ℕ
room_of_run D = 3 * all_budgets D + (D.rounds + 1) * pass_size D + 10 * device_count D + 4

-- a device isn't in ERROR, and until the move is over it is held only for its next state on the way to STOP_COPY
pub record DevStands (lead : Lead) (dev : Dev) : Type 0 where
  pub known : same_state dev.state Error ≡ false
  pub held : is_over lead ≡ false → (to : MigState) → dev.hold ≡ Some to → is_hold_step dev.state to ≡ true

-- each device does
abbrev pub PartsStand : Desc → Parts → Type 0
PartsStand D parts = (d : ℕ) → d < device_count D → DevStands parts.lead (parts.dev d)
