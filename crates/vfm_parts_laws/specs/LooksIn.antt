-- What can be seen of a move, read off its parts: of each device, and of the move as a whole.
use Rattle.std.specs.Prelude.{ℕ, ◌||◌, Bool, if◌then◌else◌, length, Option, None, Some, List, unwrap_or}
use Rattle.vfm_types.specs.declared.desc.Desc.{Desc}
use Rattle.vfm_types.specs.declared.entry.Entry.{Entry}
use Rattle.vfm_types.specs.declared.entry.Rule.{Rule}
use Rattle.vfm_types.specs.declared.state.MigState.{MigState}
use Rattle.vfm_types.specs.declared.state.MigState.TheVariants.{Running, StopCopy}
use Rattle.vfm_types.specs.declared.look.DevLook.{DevLook}
use Rattle.vfm_base.specs.Tests.{first_failed}
use Rattle.vfm_types.specs.Desc.{shape_at}
use Rattle.vfm_types.specs.Paths.{next_towards}
use Rattle.vfm_types.specs.Phases.{is_aborted, is_resumed}
use Rattle.vfm_types.specs.Outstanding.{unissued, undelivered_count, delivered_count}
use Rattle.vfm_types.specs.Marks.{next_copy}
use Rattle.vfm_types.specs.Blocks.{next_part, next_block}
use Rattle.vfm_plain.specs.IssueRules.{first_number}
use Rattle.vfm_parts.specs.Parts.{Dev, Lead, Parts}
use Rattle.vfm_parts.specs.PartWords.{next_copy_in, next_part_in}
use Rattle.vfm_parts.specs.IssueStep.{issue_conditions_in}
use Rattle.vfm_parts.specs.ArcStep.{is_quiet_for_arc_in}
use Rattle.vfm_parts.specs.BlockStep.{next_block_in}

-- ---- a device

-- the requests of the device that are yet to be issued
abbrev pub unissued_in : Dev → List (ℕ × ℕ)
unissued_in dev = unissued dev.requests dev.plain.pending

-- the first rule that bars the next issue of device d; Turn where no request is left to be issued
abbrev pub issue_barred_in : Desc → ℕ → Dev → Option Rule
issue_barred_in D d dev = first_failed (issue_conditions_in D d (unwrap_or (first_number (unissued_in dev)) 0) dev)

-- what can be seen of device d
abbrev pub look_in : Desc → ℕ → Dev → DevLook
look_in D d dev =
    record {
      state = dev.state;
      held = dev.hold;
      unissued = length (unissued_in dev);
      undelivered = undelivered_count dev.requests;
      delivered = delivered_count dev.requests;
      issued = dev.issues;
      completes = dev.completes;
      arcs = dev.arcs;
      blocked = issue_barred_in D d dev;
    }

-- the state to which device d takes its next arc
abbrev pub next_arc_in : Desc → ℕ → Lead → Dev → MigState
next_arc_in D d lead dev =
    let flags = (shape_at D d).flags in
    if lead.aborted || lead.resumed then next_towards dev.state Running flags
    else unwrap_or dev.hold (next_towards dev.state StopCopy flags)

-- everything is quiet enough for the next arc of device d
abbrev pub is_ready_in : Desc → ℕ → Parts → Bool
is_ready_in D d parts = is_quiet_for_arc_in D d (next_arc_in D d parts.lead (parts.dev d)) parts.dev

-- ---- the move

-- what is due of a pass: nothing once the move was given up or taken over
abbrev pub due_of_pass : Bool → Option ℕ → Option ℕ
due_of_pass over due = if over then None else due

-- the block that is due of the device whose part is
abbrev pub block_of_part : (ℕ → Option ℕ) → Option ℕ → Option ℕ
block_of_part block None = None
block_of_part block (Some d) = block d

-- the page, the device and the block that are due, by the parts
abbrev pub due_copy_in : Lead → Option ℕ
due_copy_in lead = due_of_pass (lead.aborted || lead.resumed) (next_copy_in lead)

abbrev pub due_part_in : Desc → Lead → Option ℕ
due_part_in D lead = due_of_pass (lead.aborted || lead.resumed) (next_part_in D lead)

abbrev pub due_block_in : Desc → Parts → Option ℕ
due_block_in D parts = block_of_part (λ d. next_block_in (parts.dev d)) (due_part_in D parts.lead)

-- and by the list
abbrev pub due_copy : Desc → List Entry → Option ℕ
due_copy D past = due_of_pass (is_aborted past || is_resumed past) (next_copy D past)

abbrev pub due_part : Desc → List Entry → Option ℕ
due_part D past = due_of_pass (is_aborted past || is_resumed past) (next_part D past)

abbrev pub due_block : Desc → List Entry → Option ℕ
due_block D past = block_of_part (λ d. next_block D d past) (due_part D past)
