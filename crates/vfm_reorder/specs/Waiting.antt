-- What waits at an index.
use Rattle.std.specs.Prelude.{Bool, false, Option, Some, None}
use Rattle.vfm_reorder.specs.declared.held.Held.{Held}

-- a config packet waits there
abbrev pub is_config_held : Option Held → Bool
is_config_held None = false
is_config_held (Some held) = held.config
