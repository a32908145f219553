-- A machine that has nothing left to do.
use Rattle.std.specs.Prelude.{◌≡◌, ℕ, ◌<◌, []}
use Rattle.vfm_types.specs.declared.desc.Desc.{Desc}
use Rattle.vfm_types.specs.Desc.{device_count}
use Rattle.vfm_types.specs.Machine.{Machine, device_of}

-- no device has a pending request
abbrev pub IsIdle : Desc → Machine → Type 0
IsIdle D m = (d : ℕ) → d < device_count D → (device_of m d).pending ≡ []
