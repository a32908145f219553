-- The names of a description's members.
use Rattle.std.specs.Prelude.{ℕ, List, codes}
use Rattle.vfm_types.specs.declared.fault.FieldName.{FieldName}
use Rattle.vfm_types.specs.declared.fault.FieldName.TheVariants.{Session, Page, Pages, Channels, Version, Begin, Rounds, Threshold, Devices, Name, Flags, Bar, Window, Tells, Budget, Fails, Jobs, Queue, Kind, At, Hex, Len, Value}

-- the name of the member in the text
abbrev pub member_name : FieldName → List ℕ
member_name Session = codes "session"
member_name Page = codes "page"
member_name Pages = codes "pages"
member_name Channels = codes "channels"
member_name Version = codes "version"
member_name Begin = codes "begin"
member_name Rounds = codes "rounds"
member_name Threshold = codes "threshold"
member_name Devices = codes "devices"
member_name Name = codes "name"
member_name Flags = codes "flags"
member_name Bar = codes "bar"
member_name Window = codes "window"
member_name Tells = codes "tells"
member_name Budget = codes "budget"
member_name Fails = codes "fails"
member_name Jobs = codes "jobs"
member_name Queue = codes "queue"
member_name Kind = codes "kind"
member_name At = codes "at"
member_name Hex = codes "hex"
member_name Len = codes "len"
member_name Value = codes "value"
