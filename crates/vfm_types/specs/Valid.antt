-- Which descriptions are valid: each member in its range, each job aimed at one place that it may touch, and devices
-- that can move together. Every call that takes a description takes a valid one.
use Rattle.std.specs.Prelude.{◌≡◌, ℕ, ◌^◌, ◌<◌, ◌≤◌, ◌&&◌, Bool, false, nat_lt, length, Some, None, IsTrue}
use Rattle.std.specs.List.{list_all}
use Rattle.vfm_types.specs.declared.job.Job.{Job}
use Rattle.vfm_types.specs.declared.job.Job.TheVariants.{Write, Read, Store, Add}
use Rattle.vfm_types.specs.declared.desc.DevShape.{DevShape}
use Rattle.vfm_types.specs.declared.desc.Desc.{Desc}
use Rattle.vfm_types.specs.State.{is_flags}
use Rattle.vfm_types.specs.Bytes.{is_name}
use Rattle.vfm_types.specs.declared.fault.FieldName.TheVariants.{Pages, Channels, Version, Begin, Rounds, Threshold, Devices, Window, Budget, Fails, Jobs, At, Len, Value}
use Rattle.vfm_types.specs.Ranges.{is_page_size, least, most, takes, are_bar_sizes}
use Rattle.vfm_types.specs.Desc.{device_count, shape_at}
use Rattle.vfm_types.specs.Region.{region_of}
use Rattle.vfm_types.specs.Job.{address_of, length_of, place_of, is_bar_of}
use Rattle.vfm_types.specs.DescFault.{form_fault, is_bell_misused}

-- a job's numbers are in their ranges
abbrev pub is_job_in_range : Job → Bool
is_job_in_range (Write at bytes) = takes At at && takes Len (length bytes)
is_job_in_range (Read at len) = takes At at && takes Len len
is_job_in_range (Store at len) = takes At at && takes Len len
is_job_in_range (Add at value) = takes At at && takes Value value

-- a device's members are in their ranges
pub record ShapeInRange (shape : DevShape) : Type 0 where
  pub name : IsTrue (is_name shape.name)
  pub flags : IsTrue (is_flags shape.flags)
  pub bars : IsTrue (are_bar_sizes shape.bars)
  pub window_low : least Window ≤ shape.window
  pub window_high : shape.window ≤ most Window
  pub budget : shape.budget ≤ most Budget
  pub fails : shape.fails ≤ most Fails
  pub job_count : length shape.jobs ≤ most Jobs
  pub jobs : IsTrue (list_all is_job_in_range shape.jobs)
  pub queue_length : length shape.queue ≤ shape.budget
  pub queue : IsTrue (list_all (λ j. nat_lt j (length shape.jobs)) shape.queue)

-- the sizes of a description's memory and the limits of its move are in their ranges
pub record LimitsInRange (D : Desc) : Type 0 where
  pub session : D.session < 2 ^ 64
  pub page : IsTrue (is_page_size D.page)
  pub pages_low : least Pages ≤ D.pages
  pub pages_high : D.pages ≤ most Pages
  pub channels_low : least Channels ≤ D.channels
  pub channels_high : D.channels ≤ most Channels
  pub version_low : least Version ≤ D.version
  pub version_high : D.version ≤ most Version
  pub begin : D.begin ≤ most Begin
  pub rounds : D.rounds ≤ most Rounds
  pub threshold : D.threshold ≤ most Threshold

-- a description's members are in their ranges
pub record InRange (D : Desc) : Type 0 where
  pub session : D.session < 2 ^ 64
  pub page : IsTrue (is_page_size D.page)
  pub pages_low : least Pages ≤ D.pages
  pub pages_high : D.pages ≤ most Pages
  pub channels_low : least Channels ≤ D.channels
  pub channels_high : D.channels ≤ most Channels
  pub version_low : least Version ≤ D.version
  pub version_high : D.version ≤ most Version
  pub begin : D.begin ≤ most Begin
  pub rounds : D.rounds ≤ most Rounds
  pub threshold : D.threshold ≤ most Threshold
  pub count_low : least Devices ≤ device_count D
  pub count_high : device_count D ≤ most Devices
  pub devices : (d : ℕ) → d < device_count D → ShapeInRange (shape_at D d)

-- job of device d is aimed at one place, not its own BARs, and spoils no doorbell
pub record IsSoundJob (D : Desc) (d : ℕ) (job : Job) : Type 0 where
  pub placed : region_of D (address_of job) (length_of job) ≡ Some (place_of D job)
  pub not_own : is_bar_of d (place_of D job).region ≡ false
  pub bell : is_bell_misused D job ≡ false

-- a valid description
pub record IsValid (D : Desc) : Type 0 where
  pub in_range : InRange D
  pub sound : form_fault D ≡ None
