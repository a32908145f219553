-- Sums over the devices of a machine, as a summary shows them beside `all_done`.
use Rattle.std.specs.Prelude.{ℕ}
use Rattle.std.specs.List.{sum_by}
use Rattle.vfm_types.specs.Machine.{Machine}

-- how many requests all devices together accepted
abbrev pub all_accepted : Machine → ℕ
all_accepted m = sum_by (λ dev. dev.accepted) m.devices

-- how many they lost
abbrev pub all_lost : Machine → ℕ
all_lost m = sum_by (λ dev. dev.lost) m.devices
