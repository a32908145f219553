-- The number of each status.
use Rattle.std.specs.Prelude.{ℕ}
use Rattle.vfm_status.specs.declared.status.Status.{Status}
use Rattle.vfm_status.specs.declared.status.Status.TheVariants.{Moved, Printed, BadWords, BadDescription, ReadFault, WriteFault, LinkFault, Refused, Unconfirmed, InDoubt, Differs, Aborted, ArcFailed, NoControl, NoMemory, PathRefused, Broken, BadReport, StateDiffers}

-- what the program ends with
abbrev pub status_number : Status → ℕ
status_number Moved = 0
status_number Printed = 0
status_number BadWords = 1
status_number (BadDescription f) = 2
status_number ReadFault = 3
status_number WriteFault = 4
status_number (LinkFault place) = 5
status_number (Refused refusal) = 6
status_number (Unconfirmed ours theirs) = 7
status_number (InDoubt doubt) = 8
status_number Differs = 9
status_number (Aborted pass) = 10
status_number (ArcFailed d to) = 11
status_number (NoControl heard) = 12
status_number NoMemory = 13
status_number (PathRefused f) = 14
status_number (Broken place rule) = 15
status_number (BadReport line) = 16
status_number (StateDiffers section) = 17
