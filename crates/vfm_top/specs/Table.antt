-- How far a call came at which status.
use Rattle.std.specs.Prelude.{Bool, true, false, Option, Some, None, ⊤}
use Rattle.vfm_plain.specs.Report.{Made}
use Rattle.vfm_status.specs.declared.status.Status.{Status}
use Rattle.vfm_status.specs.declared.status.Status.TheVariants.{Printed, BadWords, BadDescription, ReadFault, WriteFault, PathRefused, Broken, BadReport, StateDiffers}
use Rattle.vfm_move.specs.Contact.{Contact, Untouched}
use Rattle.vfm_migrate.specs.Migrations.{CameTo}

-- whether the status is one that a migration comes to
abbrev pub is_of_move : Status → Bool
is_of_move Printed = false
is_of_move BadWords = false
is_of_move (BadDescription fault) = false
is_of_move ReadFault = false
is_of_move WriteFault = false
is_of_move (PathRefused fault) = false
is_of_move (Broken place rule) = false
is_of_move (BadReport line) = false
is_of_move (StateDiffers section) = false
is_of_move status = true

-- What was made and what came of the wires: as far as a migration came to its status, or else nothing.
abbrev pub ReachedIf : Bool → Status → Option Made → Contact → Type 0
ReachedIf true status made contact = CameTo status made contact
ReachedIf false status None Untouched = ⊤
ReachedIf false status made contact = ⊥

abbrev pub Reached : Status → Option Made → Contact → Type 0
Reached status made contact = ReachedIf (is_of_move status) status made contact
