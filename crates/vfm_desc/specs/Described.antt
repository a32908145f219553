-- What a description's bytes describe: a machine with its move, or the first fault, in the order of the tests.
use Rattle.std.specs.Prelude.{ℕ, List, length, nat_le, nat_lt, Some, None, Result, Ok, Err}
use Rattle.std.specs.Option.{ok_or}
use Rattle.std.specs.Str.{is_utf8}
use Rattle.serde_json.specs.Data.{Data}
use Rattle.serde_json.specs.Read.{read}
use Rattle.vfm_types.specs.declared.desc.Desc.{Desc}
use Rattle.vfm_types.specs.declared.desc.DevShape.{DevShape}
use Rattle.vfm_types.specs.declared.job.Job.{Job}
use Rattle.vfm_types.specs.declared.job.Job.TheVariants as job
use Rattle.vfm_types.specs.declared.fault.DescFault.{DescFault}
use Rattle.vfm_types.specs.declared.fault.DescFault.TheVariants as fault
use Rattle.vfm_types.specs.declared.fault.FieldName.TheVariants.{Session, Page, Pages, Channels, Version, Begin, Rounds, Threshold, Devices, Flags, Window, Budget, Fails, Jobs, Queue, At, Len, Value}
use Rattle.vfm_types.specs.DescFault.{form_fault}
use Rattle.vfm_desc.specs.declared.reading.JobKind.{JobKind}
use Rattle.vfm_desc.specs.declared.reading.JobKind.TheVariants.{Write, Read, Store, Add}
use Rattle.vfm_desc.specs.declared.reading.Level.{Level}
use Rattle.vfm_desc.specs.declared.reading.Level.TheVariants.{Top, OfDevice, OfJob}
use Rattle.vfm_desc.specs.Reading.{◌>>=◌, field_at, check, whole_number, number_in, tells_in, name_in, bars_in, bytes_in, kind_in, list_in, each}

-- what a job of this kind at this address does
unfoldable pub work_in : Data → Level → JobKind → ℕ → Result Job DescFault
work_in holder level Write at = do
  bytes ← bytes_in holder level
  Ok (job.Write at bytes)
work_in holder level Read at = do
  len ← number_in holder level Len
  Ok (job.Read at len)
work_in holder level Store at = do
  len ← number_in holder level Len
  Ok (job.Store at len)
work_in holder level Add at = do
  value ← number_in holder level Value
  Ok (job.Add at value)

-- job j of device d
unfoldable pub job_in : ℕ → ℕ → Data → Result Job DescFault
job_in d j holder = do
  kind ← kind_in holder (OfJob d j)
  at ← number_in holder (OfJob d j) At
  work_in holder (OfJob d j) kind at

-- the jobs of device d
unfoldable pub jobs_in : ℕ → Data → Result (List Job) DescFault
jobs_in d holder = do
  list ← list_in holder (OfDevice d) Jobs
  each (job_in d) 0 list

-- an element of the queue of device d, which has so many jobs
unfoldable pub queued : ℕ → ℕ → Data → Result ℕ DescFault
queued d jobs value = do
  n ← whole_number (field_at (OfDevice d) Queue) value
  below ← check (nat_lt n jobs) (fault.Range (field_at (OfDevice d) Queue))
  Ok n

-- the queue of device d, which has so much budget and so many jobs
unfoldable pub queue_in : ℕ → Data → ℕ → ℕ → Result (List ℕ) DescFault
queue_in d holder budget jobs = do
  list ← list_in holder (OfDevice d) Queue
  few ← check (nat_le (length list) budget) (fault.Range (field_at (OfDevice d) Queue))
  each (λ k. queued d jobs) 0 list

-- device d
unfoldable pub device_in : ℕ → Data → Result DevShape DescFault
device_in d holder = do
  name ← name_in holder (OfDevice d)
  flags ← number_in holder (OfDevice d) Flags
  bars ← bars_in holder (OfDevice d)
  window ← number_in holder (OfDevice d) Window
  tells ← tells_in holder (OfDevice d)
  budget ← number_in holder (OfDevice d) Budget
  fails ← number_in holder (OfDevice d) Fails
  jobs ← jobs_in d holder
  queue ← queue_in d holder budget (length jobs)
  Ok (record { name = name; flags = flags; bars = bars; window = window; tells = tells; budget = budget; fails = fails; jobs = jobs; queue = queue })

-- the devices
unfoldable pub devices_in : Data → Result (List DevShape) DescFault
devices_in holder = do
  list ← list_in holder Top Devices
  each device_in 0 list

-- the whole description, each member in the order of the table
unfoldable pub desc_in : Data → Result Desc DescFault
desc_in holder = do
  session ← number_in holder Top Session
  page ← number_in holder Top Page
  pages ← number_in holder Top Pages
  channels ← number_in holder Top Channels
  version ← number_in holder Top Version
  begin ← number_in holder Top Begin
  rounds ← number_in holder Top Rounds
  threshold ← number_in holder Top Threshold
  devices ← devices_in holder
  Ok (record { session = session; page = page; pages = pages; channels = channels; version = version; begin = begin; rounds = rounds; threshold = threshold; devices = devices })

-- the description, where its names, jobs and devices go together
abbrev pub sound : Desc → Result Desc DescFault
sound D = elim (form_fault D) [ None ↦ Ok D | Some e ↦ Err e ]

-- at most so many bytes
abbrev pub most_bytes : ℕ
most_bytes = 16777216

-- the JSON value of a text
unfoldable pub parsed : List ℕ → Result Data DescFault
parsed bytes = do
  few ← check (nat_le (length bytes) most_bytes) fault.TooLong
  text ← check (is_utf8 bytes) fault.NotJson
  ok_or (read bytes) fault.NotJson

-- what these bytes describe
unfoldable pub description_of : List ℕ → Result Desc DescFault
description_of bytes = do
  value ← parsed bytes
  desc ← desc_in value
  sound desc
