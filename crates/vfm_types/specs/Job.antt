-- What a job asks for, and where it is aimed.
use Rattle.std.specs.Prelude.{ℕ, ◌==◌, ◌&&◌, Bool, true, false, length, unwrap_or}
use Rattle.vfm_types.specs.declared.job.Job.{Job}
use Rattle.vfm_types.specs.declared.job.Job.TheVariants.{Write, Read, Store, Add}
use Rattle.vfm_types.specs.declared.job.Region.{Region}
use Rattle.vfm_types.specs.declared.job.Region.TheVariants.{Page, Bar}
use Rattle.vfm_types.specs.declared.job.Place.{Place}
use Rattle.vfm_types.specs.declared.desc.Desc.{Desc}
use Rattle.vfm_types.specs.Region.{region_of}

-- a job that waits for each request before it, and that each request after it waits for
abbrev pub is_fence : Job → Bool
is_fence (Write at bytes) = false
is_fence (Read at len) = true
is_fence (Store at len) = true
is_fence (Add at value) = true

-- the address that a job touches
abbrev pub address_of : Job → ℕ
address_of (Write at bytes) = at
address_of (Read at len) = at
address_of (Store at len) = at
address_of (Add at value) = at

-- the number of bytes that it touches there
abbrev pub length_of : Job → ℕ
length_of (Write at bytes) = length bytes
length_of (Read at len) = len
length_of (Store at len) = len
length_of (Add at value) = 8

-- the job is a Write
abbrev pub is_write : Job → Bool
is_write (Write at bytes) = true
is_write (Read at len) = false
is_write (Store at len) = false
is_write (Add at value) = false

-- it changes what it touches
abbrev pub is_writer : Job → Bool
is_writer (Write at bytes) = true
is_writer (Read at len) = false
is_writer (Store at len) = true
is_writer (Add at value) = true

-- it may be a doorbell: an Add is none
abbrev pub may_ring : Job → Bool
may_ring (Write at bytes) = true
may_ring (Read at len) = false
may_ring (Store at len) = true
may_ring (Add at value) = false

-- where a job that is aimed nowhere is taken to be; a valid description has no such job
abbrev pub page_zero_if_nowhere : Place
page_zero_if_nowhere = record { region = Page 0; offset = 0 }

-- where the job is aimed
abbrev pub place_of : Desc → Job → Place
place_of D job = unwrap_or (region_of D (address_of job) (length_of job)) page_zero_if_nowhere

-- the region is the BARs of a device
abbrev pub is_bar : Region → Bool
is_bar (Page p) = false
is_bar (Bar d) = true

-- the region is this device's BARs
abbrev pub is_bar_of : ℕ → Region → Bool
is_bar_of d (Page p) = false
is_bar_of d (Bar e) = e == d

-- the region is this page
abbrev pub is_page : ℕ → Region → Bool
is_page p (Page q) = q == p
is_page p (Bar d) = false

-- the device whose BARs it is; 0 for a page, which no device owns
abbrev pub owner_or_zero : Region → ℕ
owner_or_zero (Page p) = 0
owner_or_zero (Bar d) = d

-- the job is aimed at some BAR
abbrev pub is_aimed_at_bar : Desc → Job → Bool
is_aimed_at_bar D job = is_bar (place_of D job).region

-- a doorbell stands in the first 8 bytes of a device's BAR 0, which are the first of its BAR bytes, and is written whole
abbrev pub is_bell : Place → ℕ → Bool
is_bell place len = is_bar place.region && place.offset == 0 && len == 8

-- the job rings a doorbell
abbrev pub is_doorbell : Desc → Job → Bool
is_doorbell D job = may_ring job && is_bell (place_of D job) (length_of job)
