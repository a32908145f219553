-- Entries of a journal as numbers.
use Rattle.std.specs.Prelude.{ℕ, ◌+◌, ◌*◌, ◌/◌, ◌%◌, ◌^◌, ◌==◌, ◌&&◌, Bool, Option, Some, None, if◌then◌else◌, nat_lt}
use Rattle.std.specs.Option.{option_map}
use Rattle.vfm_types.specs.State.{state_number, state_of_number}
use Rattle.vfm_types.specs.declared.entry.Entry.{Entry}
use Rattle.vfm_types.specs.declared.entry.Entry.TheVariants.{Issue, Deliver, Complete, Hold, Arc, Fail, Report, Pass, Copy, Block, Dry, Begin, Joint, Abort, Resume}

-- a kind, a device and a number in one number: 32 bits for the number and 8 for the device
abbrev pub code_of_parts : ℕ → ℕ → ℕ → ℕ
code_of_parts kind d n = kind * 2 ^ 40 + d * 2 ^ 32 + n

-- the code of an entry: its kind counted from 1, its device, and its request, state, pass, page or block; 0 for what it lacks
abbrev pub entry_code : Entry → ℕ
entry_code (Issue d n) = code_of_parts 1 d n
entry_code (Deliver d n) = code_of_parts 2 d n
entry_code (Complete d n) = code_of_parts 3 d n
entry_code (Hold d to) = code_of_parts 4 d (state_number to)
entry_code (Arc d to) = code_of_parts 5 d (state_number to)
entry_code (Fail d to) = code_of_parts 6 d (state_number to)
entry_code (Report d) = code_of_parts 7 d 0
entry_code (Pass k) = code_of_parts 8 0 k
entry_code (Copy p) = code_of_parts 9 0 p
entry_code (Block d b) = code_of_parts 10 d b
entry_code (Dry d) = code_of_parts 11 d 0
entry_code Begin = code_of_parts 12 0 0
entry_code Joint = code_of_parts 13 0 0
entry_code Abort = code_of_parts 14 0 0
entry_code Resume = code_of_parts 15 0 0

-- an entry, where what it lacks is 0
abbrev pub entry_if : Bool → Entry → Option Entry
entry_if zeros e = if zeros then Some e else None

-- the entry of a kind from 1 to 6, which has a device and a request or a state
abbrev pub low_entry_of : ℕ → ℕ → ℕ → Option Entry
low_entry_of kind d n =
    if kind == 1 then Some (Issue d n) else
    (if kind == 2 then Some (Deliver d n) else
    (if kind == 3 then Some (Complete d n) else
    (if kind == 4 then option_map (Hold d) (state_of_number n) else
    (if kind == 5 then option_map (Arc d) (state_of_number n) else
    (if kind == 6 then option_map (Fail d) (state_of_number n) else None)))))

-- the entry of a kind above 6
abbrev pub high_entry_of : ℕ → ℕ → ℕ → Option Entry
high_entry_of kind d n =
    if kind == 7 then entry_if (n == 0) (Report d) else
    (if kind == 8 then entry_if (d == 0) (Pass n) else
    (if kind == 9 then entry_if (d == 0) (Copy n) else
    (if kind == 10 then Some (Block d n) else
    (if kind == 11 then entry_if (n == 0) (Dry d) else
    (if kind == 12 then entry_if (d == 0 && n == 0) Begin else
    (if kind == 13 then entry_if (d == 0 && n == 0) Joint else
    (if kind == 14 then entry_if (d == 0 && n == 0) Abort else
    (if kind == 15 then entry_if (d == 0 && n == 0) Resume else None))))))))

-- the entry with a code, if there is one
abbrev pub entry_of_code : ℕ → Option Entry
entry_of_code c =
    let kind = c / 2 ^ 40 in
    if nat_lt kind 7 then low_entry_of kind (c / 2 ^ 32 % 2 ^ 8) (c % 2 ^ 32) else high_entry_of kind (c / 2 ^ 32 % 2 ^ 8) (c % 2 ^ 32)

-- the device of an entry; 0 where it has none
abbrev pub device_or_zero : Entry → ℕ
device_or_zero (Issue d n) = d
device_or_zero (Deliver d n) = d
device_or_zero (Complete d n) = d
device_or_zero (Hold d to) = d
device_or_zero (Arc d to) = d
device_or_zero (Fail d to) = d
device_or_zero (Report d) = d
device_or_zero (Block d b) = d
device_or_zero (Dry d) = d
device_or_zero _ = 0

-- the request, block, page, pass or state number of an entry; 0 where it has none
abbrev pub number_or_zero : Entry → ℕ
number_or_zero (Issue d n) = n
number_or_zero (Deliver d n) = n
number_or_zero (Complete d n) = n
number_or_zero (Hold d to) = state_number to
number_or_zero (Arc d to) = state_number to
number_or_zero (Fail d to) = state_number to
number_or_zero (Pass k) = k
number_or_zero (Copy p) = p
number_or_zero (Block d b) = b
number_or_zero _ = 0

-- the device has 8 bits, and the number 32
abbrev pub entry_fits : Entry → Bool
entry_fits e = nat_lt (device_or_zero e) (2 ^ 8) && nat_lt (number_or_zero e) (2 ^ 32)
