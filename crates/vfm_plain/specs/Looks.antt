-- What can be seen of a device after a list of entries: the facts that its look shows.
use Rattle.std.specs.Prelude.{ℕ, ◌||◌, Bool, if◌then◌else◌, List, Option, length, unwrap_or}
use Rattle.vfm_types.specs.declared.entry.Entry.{Entry}
use Rattle.vfm_types.specs.declared.entry.Rule.{Rule}
use Rattle.vfm_types.specs.declared.state.MigState.{MigState}
use Rattle.vfm_types.specs.declared.state.MigState.TheVariants.{Running, StopCopy}
use Rattle.vfm_types.specs.declared.desc.Desc.{Desc}
use Rattle.vfm_types.specs.declared.look.DevLook.{DevLook}
use Rattle.vfm_types.specs.Desc.{shape_at}
use Rattle.vfm_types.specs.Machine.{device_of}
use Rattle.vfm_types.specs.Deliveries.{machine_of}
use Rattle.vfm_types.specs.Phases.{is_aborted, is_resumed}
use Rattle.vfm_types.specs.Arcs.{arc_count, hold_of, state_of}
use Rattle.vfm_types.specs.Paths.{next_towards}
use Rattle.vfm_types.specs.Outstanding.{complete_count, delivered_count, issue_count, outstanding_of, undelivered_count, unissued}
use Rattle.vfm_base.specs.Tests.{first_failed}
use Rattle.vfm_plain.specs.IssueRules.{first_number, issue_conditions}
use Rattle.vfm_plain.specs.ArcRules.{is_quiet_for_arc}

-- the requests of device d that are yet to be issued
abbrev pub unissued_of : Desc → ℕ → List Entry → List (ℕ × ℕ)
unissued_of D d past = unissued (outstanding_of D d past) (device_of (machine_of D past) d).pending

-- the first rule that bars the next issue of device d; Turn where no request is left to be issued
abbrev pub issue_barred_by : Desc → ℕ → List Entry → Option Rule
issue_barred_by D d past =
    first_failed (issue_conditions D d (unwrap_or (first_number (unissued_of D d past)) 0) past)

-- what can be seen of device d
abbrev pub look_of : Desc → ℕ → List Entry → DevLook
look_of D d past =
    record {
      state = state_of d past;
      held = hold_of d past;
      unissued = length (unissued_of D d past);
      undelivered = undelivered_count (outstanding_of D d past);
      delivered = delivered_count (outstanding_of D d past);
      issued = issue_count d past;
      completes = complete_count d past;
      arcs = arc_count d past;
      blocked = issue_barred_by D d past;
    }

-- The state to which device d takes its next arc: the next one home to RUNNING once the move was given up or taken
-- over; before that the one that it is held for, and without a hold the next one towards STOP_COPY.
abbrev pub next_arc : Desc → ℕ → List Entry → MigState
next_arc D d past =
    let flags = (shape_at D d).flags in
    if is_aborted past || is_resumed past then next_towards (state_of d past) Running flags
    else unwrap_or (hold_of d past) (next_towards (state_of d past) StopCopy flags)

-- everything is quiet enough for the next arc of device d
abbrev pub is_ready : Desc → ℕ → List Entry → Bool
is_ready D d past = is_quiet_for_arc D d (next_arc D d past) past
