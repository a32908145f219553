-- The table of a description's numbers: which each member takes. For a list the number is that of its elements, but for
-- the BARs of a device: there it is the size of each.
use Rattle.std.specs.Prelude.{ℕ, ◌-◌, ◌%◌, ◌^◌, ◌==◌, ◌&&◌, ◌||◌, Bool, true, List, length, sum, nat_le}
use Rattle.std.specs.List.{list_all}
use Rattle.vfm_types.specs.declared.fault.FieldName.{FieldName}
use Rattle.vfm_types.specs.declared.fault.FieldName.TheVariants.{Session, Page, Pages, Channels, Version, Begin, Rounds, Threshold, Devices, Flags, Bar, Window, Budget, Fails, Jobs, Queue, At, Len, Value}
use Rattle.vfm_types.specs.State.{is_flags}

-- a page has 16, 32, 64, 128, 256, 512, 1024, 2048 or 4096 bytes
abbrev pub is_page_size : ℕ → Bool
is_page_size n =
    n == 16 || n == 32 || n == 64 || n == 128 || n == 256 || n == 512 || n == 1024 || n == 2048 || n == 4096

-- the least number
abbrev pub least : FieldName → ℕ
least Page = 16
least Pages = 1
least Channels = 1
least Version = 1
least Devices = 1
least Flags = 1
least Bar = 64
least Window = 1
least Len = 1
least _ = 0

-- the greatest number; 0 for a member that has none
abbrev pub most : FieldName → ℕ
most Session = 2 ^ 64 - 1
most Page = 4096
most Pages = 1024
most Channels = 8
most Version = 2
most Begin = 50000
most Rounds = 8
most Threshold = 1024
most Devices = 8
most Flags = 7
most Bar = 65536
most Window = 8
most Budget = 50000
most Fails = 3
most Jobs = 4096
most Queue = 50000
most At = 2 ^ 64 - 1
most Len = 64
most Value = 2 ^ 64 - 1
most _ = 0

-- what the number must be besides: a page a power of two, flags odd, a BAR in whole blocks of 64 bytes
abbrev pub has_form : FieldName → ℕ → Bool
has_form Page n = is_page_size n
has_form Flags n = is_flags n
has_form Bar n = n % 64 == 0
has_form _ n = true

-- the member takes this number
abbrev pub takes : FieldName → ℕ → Bool
takes name n = nat_le (least name) n && nat_le n (most name) && has_form name n

-- a device has at most so many BARs
abbrev pub most_bars : ℕ
most_bars = 6

-- the sizes of a device's BARs: 1 to 6, each in its range, and together no more than one alone may have
abbrev pub are_bar_sizes : List ℕ → Bool
are_bar_sizes sizes =
    nat_le 1 (length sizes) && nat_le (length sizes) most_bars && list_all (takes Bar) sizes && nat_le (sum sizes) (most Bar)
