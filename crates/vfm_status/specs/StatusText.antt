-- The line that reports how a run ended, for every status.
use Rattle.std.specs.Prelude.{ℕ, ◌==◌, List, [], ◌∷◌, ◌++◌, codes, decimal, length, if◌then◌else◌, Option, Some, None, option_to_list}
use Rattle.hex.specs.Hex.{encode_lower}
use Rattle.vfm_types.specs.declared.fault.Field.{Field}
use Rattle.vfm_types.specs.declared.fault.DescFault.{DescFault}
use Rattle.vfm_types.specs.declared.fault.DescFault.TheVariants.{NotJson, Missing, Kind, Range, NameTwice, Crosses, OwnBar, BellKind, NeedsP2p, TooLong, NotYet, NoMemory as Memory}
use Rattle.vfm_types.specs.declared.fault.LinkPlace.{LinkPlace}
use Rattle.vfm_types.specs.declared.fault.LinkPlace.TheVariants.{Connect, Source, Destination, Control}
use Rattle.vfm_types.specs.RuleNumber.{rule_number}
use Rattle.vfm_plain.specs.Text.{line, state_name}
use Rattle.vfm_desc.specs.Members.{member_name}
use Rattle.vfm_audit.specs.declared.fault.Section.{Section}
use Rattle.vfm_audit.specs.declared.fault.Section.TheVariants.{Joint, Last}
use Rattle.vfm_status.specs.declared.status.Doubt.{Doubt}
use Rattle.vfm_status.specs.declared.status.Doubt.TheVariants.{Send, Read, NoGo, Other}
use Rattle.vfm_status.specs.declared.status.Status.{Status}
use Rattle.vfm_status.specs.declared.status.Status.TheVariants.{Moved, Printed, BadWords, BadDescription, ReadFault, WriteFault, LinkFault, Refused, Unconfirmed, InDoubt, Differs, Aborted, ArcFailed, NoControl, NoMemory, PathRefused, Broken, BadReport, StateDiffers}

-- a device, or a job of a device, as a fault names it
abbrev pub device_word : ℕ → List ℕ
device_word d = codes "devices." ++ decimal d

abbrev pub job_word : ℕ → ℕ → List ℕ
job_word d j = device_word d ++ codes ".jobs." ++ decimal j

-- the last number of 32 bits stands where there is no device or no job
abbrev pub nowhere : ℕ
nowhere = 4294967295

-- a member with what stands before it: nothing, its device, or its device and job
abbrev pub field_word : Field → List ℕ
field_word field =
    if field.device == nowhere then member_name field.name
    else (if field.job == nowhere then device_word field.device ++ codes "." ++ member_name field.name
    else job_word field.device field.job ++ codes "." ++ member_name field.name)

-- what is wrong with a description; that memory ran out is a status of its own
abbrev pub cause_word : DescFault → List ℕ
cause_word NotJson = codes "not-json"
cause_word (Missing field) = codes "missing"
cause_word (Kind field) = codes "kind"
cause_word (Range field) = codes "range"
cause_word (NameTwice d) = codes "name-twice"
cause_word (Crosses d j) = codes "crosses"
cause_word (OwnBar d j) = codes "own-bar"
cause_word (BellKind d j) = codes "bell-kind"
cause_word (NeedsP2p d) = codes "needs-p2p"
cause_word TooLong = codes "too-long"
cause_word (NotYet field) = codes "not-yet"
cause_word Memory = []

-- where it stands
abbrev pub place_word : DescFault → Option (List ℕ)
place_word NotJson = None
place_word (Missing field) = Some (field_word field)
place_word (Kind field) = Some (field_word field)
place_word (Range field) = Some (field_word field)
place_word (NameTwice d) = Some (device_word d)
place_word (Crosses d j) = Some (job_word d j)
place_word (OwnBar d j) = Some (job_word d j)
place_word (BellKind d j) = Some (job_word d j)
place_word (NeedsP2p d) = Some (device_word d)
place_word TooLong = None
place_word (NotYet field) = Some (field_word field)
place_word Memory = None

-- the words of a fault of a description
abbrev pub fault_words : DescFault → List (List ℕ)
fault_words fault = codes "bad-description" ∷ cause_word fault ∷ option_to_list (place_word fault)

-- which link failed
abbrev pub link_words : LinkPlace → List (List ℕ)
link_words Connect = codes "link-fault" ∷ codes "connect" ∷ []
link_words (Source k) = codes "link-fault" ∷ codes "source" ∷ decimal k ∷ []
link_words (Destination k) = codes "link-fault" ∷ codes "destination" ∷ decimal k ∷ []
link_words Control = codes "link-fault" ∷ codes "control" ∷ []

-- bytes that came in place of a frame, as digits; none are a dash
abbrev pub heard_word : List ℕ → List ℕ
heard_word bytes = if length bytes == 0 then codes "-" else encode_lower bytes

-- why it isn't known whether the destination took the machine over
abbrev pub doubt_words : Doubt → List (List ℕ)
doubt_words Send = codes "in-doubt" ∷ codes "send" ∷ []
doubt_words Read = codes "in-doubt" ∷ codes "read" ∷ []
doubt_words (NoGo heard) = codes "in-doubt" ∷ codes "no-go" ∷ heard_word heard ∷ []
doubt_words (Other ours theirs) = codes "in-doubt" ∷ codes "other" ∷ encode_lower ours ∷ encode_lower theirs ∷ []

-- which printed state isn't the audited one
abbrev pub section_word : Section → List ℕ
section_word Joint = codes "joint"
section_word Last = codes "final"

-- The words of each status after `status`. Three have no such line: what `paths` prints has one of its own, and where the
-- output failed nothing more is printed.
abbrev pub status_words : Status → Option (List (List ℕ))
status_words Moved = Some (codes "moved" ∷ [])
status_words Printed = None
status_words BadWords = Some (codes "bad-words" ∷ [])
status_words (BadDescription fault) = Some (fault_words fault)
status_words ReadFault = Some (codes "read-fault" ∷ [])
status_words WriteFault = None
status_words (LinkFault place) = Some (link_words place)
status_words (Refused why) = Some (codes "refused" ∷ decimal why.code ∷ decimal why.a ∷ decimal why.b ∷ [])
status_words (Unconfirmed ours theirs) = Some (codes "unconfirmed" ∷ encode_lower ours ∷ encode_lower theirs ∷ [])
status_words (InDoubt doubt) = Some (doubt_words doubt)
status_words Differs = Some (codes "differs" ∷ [])
status_words (Aborted pass) = Some (codes "aborted" ∷ decimal pass ∷ [])
status_words (ArcFailed d to) = Some (codes "arc-failed" ∷ decimal d ∷ state_name to ∷ [])
status_words (NoControl heard) = Some (codes "no-control" ∷ heard_word heard ∷ [])
status_words NoMemory = Some (codes "no-memory" ∷ [])
status_words (PathRefused fault) = None
status_words (Broken place rule) = Some (codes "broken" ∷ decimal place ∷ decimal (rule_number rule) ∷ [])
status_words (BadReport at) = Some (codes "bad-report" ∷ decimal at ∷ [])
status_words (StateDiffers section) = Some (codes "state-differs" ∷ section_word section ∷ [])

-- words as the line of a status, where there are some
abbrev pub line_of : Option (List (List ℕ)) → List ℕ
line_of None = []
line_of (Some words) = line (codes "status") words

abbrev pub status_line : Status → List ℕ
status_line status = line_of (status_words status)
