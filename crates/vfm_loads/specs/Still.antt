-- Machines that have come to their end.
use Rattle.std.specs.Prelude.{ℕ, IsFalse}
use Rattle.vfm_types.specs.declared.desc.Desc.{Desc}
use Rattle.vfm_types.specs.Machine.{Machine}
use Rattle.vfm_types.specs.Requests.{is_enabled}

-- no request of any device is enabled
abbrev pub IsStill : Desc → Machine → Type 0
IsStill D m = (d n : ℕ) → IsFalse (is_enabled D m d n)
