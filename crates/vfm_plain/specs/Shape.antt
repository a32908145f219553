-- The sizes that a machine keeps from its description, and the counts that it keeps.
use Rattle.std.specs.Prelude.{◌≡◌, ℕ, ◌+◌, ◌<◌, ◌≤◌, [], length, replicate, take, slice_index_or, All}
use Rattle.std.specs.List.{sum_by}
use Rattle.vfm_types.specs.declared.job.Region.{Region}
use Rattle.vfm_types.specs.declared.job.Region.TheVariants.{Page, Bar}
use Rattle.vfm_types.specs.declared.job.Place.{Place}
use Rattle.vfm_types.specs.declared.desc.DevShape.{DevShape}
use Rattle.vfm_types.specs.declared.desc.Desc.{Desc}
use Rattle.vfm_types.specs.Desc.{shape_at, bar_bytes, device_count}
use Rattle.vfm_types.specs.Machine.{DeviceState, Machine, device_of}

-- a device has the BAR bytes and the buffer of its description, and each pending request is for a job that it has
pub record DeviceHasShape (shape : DevShape) (dev : DeviceState) : Type 0 where
  pub bar : length dev.bar ≡ bar_bytes shape
  pub buf : length dev.buf ≡ 64
  pub jobs : All (λ request. request.1 < length shape.jobs) dev.pending

-- a machine has the pages and the devices of its description
pub record HasShape (D : Desc) (m : Machine) : Type 0 where
  pub pages : length m.pages ≡ D.pages
  pub page : (p : ℕ) → p < D.pages → length (slice_index_or m.pages p []) ≡ D.page
  pub devices : length m.devices ≡ device_count D
  pub device : (d : ℕ) → d < device_count D → DeviceHasShape (shape_at D d) (device_of m d)

-- no device has lost so many requests that one more couldn't be counted
abbrev pub CanLose : Desc → Machine → Type 0
CanLose D m = (d : ℕ) → d < device_count D → (device_of m d).lost < 4294967295

-- the len bytes from an offset into a region lie in it
abbrev pub LiesIn : Desc → Region → ℕ → ℕ → Type 0
LiesIn D (Page p) offset len = (p < D.pages) × (offset + len ≤ D.page)
LiesIn D (Bar d) offset len = (d < device_count D) × (offset + len ≤ bar_bytes (shape_at D d))

-- the len bytes from a place lie in its region
abbrev pub Lies : Desc → Place → ℕ → Type 0
Lies D place len = LiesIn D place.region place.offset len

-- the machine has that page or that device
abbrev pub HasRegion : Machine → Region → Type 0
HasRegion m (Page p) = p < length m.pages
HasRegion m (Bar d) = d < length m.devices

-- a device has accepted what it did and what is pending, and no more than its budget
pub record DeviceHasCounts (shape : DevShape) (dev : DeviceState) : Type 0 where
  pub accepted : dev.accepted ≡ dev.done + length dev.pending
  pub within : dev.accepted ≤ shape.budget

-- each device has such counts
abbrev pub HasCounts : Desc → Machine → Type 0
HasCounts D m = (d : ℕ) → d < device_count D → DeviceHasCounts (shape_at D d) (device_of m d)

-- how many requests all devices together did
abbrev pub all_done : Machine → ℕ
all_done m = sum_by (λ dev. dev.done) m.devices

-- bytes 0 to 7 of each device's BAR 0, the first of its BAR bytes, are zero
abbrev pub HasZeroBells : Desc → Machine → Type 0
HasZeroBells D m = (d : ℕ) → d < device_count D → take 8 (device_of m d).bar ≡ replicate 8 0

-- what holds of the described machine and of each that comes of it
pub record IsSound (D : Desc) (m : Machine) : Type 0 where
  pub shape : HasShape D m
  pub counts : HasCounts D m
  pub losses : (d : ℕ) → d < device_count D → (device_of m d).lost ≤ all_done m
  pub bells : HasZeroBells D m
