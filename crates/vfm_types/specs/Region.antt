-- Where an address lies. Memory is `0 .. page * pages`; BAR b of device d begins at
-- bar_base + device_stride * d + bar_stride * b. No other address exists.
use Rattle.std.specs.Prelude.{ℕ, ◌+◌, ◌-◌, ◌*◌, ◌/◌, ◌%◌, ◌&&◌, Bool, nat_le, nat_lt, if◌then◌else◌, Option, Some, None}
use Rattle.vfm_types.specs.declared.job.Region.TheVariants.{Page, Bar}
use Rattle.vfm_types.specs.declared.job.Place.{Place}
use Rattle.vfm_types.specs.declared.desc.Desc.{Desc}
use Rattle.vfm_types.specs.Desc.{device_count, shape_at, bar_size, bars_before}

-- the address of device 0's BAR 0: 256 MiB
abbrev pub bar_base : ℕ
bar_base = 268435456

-- from one device's BARs to the next device's: 512 KiB
abbrev pub device_stride : ℕ
device_stride = 524288

-- from one BAR of a device to its next: 64 KiB
abbrev pub bar_stride : ℕ
bar_stride = 65536

-- the device in whose stretch of addresses this one lies
abbrev pub bar_owner : ℕ → ℕ
bar_owner at = (at - bar_base) / device_stride

-- the BAR of that device in whose stretch it lies
abbrev pub bar_number : ℕ → ℕ
bar_number at = (at - bar_base) % device_stride / bar_stride

-- how far into that BAR's stretch
abbrev pub bar_offset : ℕ → ℕ
bar_offset at = (at - bar_base) % bar_stride

-- the len bytes from this address lie in one page of memory
abbrev pub is_in_page : Desc → ℕ → ℕ → Bool
is_in_page D at len = nat_le (at + len) (D.page * D.pages) && nat_le (at % D.page + len) D.page

-- they lie in one BAR
abbrev pub is_in_bar : Desc → ℕ → ℕ → Bool
is_in_bar D at len =
    nat_le bar_base at && nat_lt (bar_owner at) (device_count D)
    && nat_le (bar_offset at + len) (bar_size (shape_at D (bar_owner at)) (bar_number at))

-- how far this address lies into the bytes of all BARs of its device
abbrev pub offset_in_bars : Desc → ℕ → ℕ
offset_in_bars D at = bars_before (shape_at D (bar_owner at)) (bar_number at) + bar_offset at

-- the place of the len bytes from this address, if they lie in one BAR
abbrev pub place_in_bar : Desc → ℕ → ℕ → Option Place
place_in_bar D at len =
    if is_in_bar D at len then Some (record { region = Bar (bar_owner at); offset = offset_in_bars D at }) else None

-- the place of the len bytes from this address, if they lie in one page or one BAR
abbrev pub region_of : Desc → ℕ → ℕ → Option Place
region_of D at len =
    if is_in_page D at len then Some (record { region = Page (at / D.page); offset = at % D.page }) else place_in_bar D at len
