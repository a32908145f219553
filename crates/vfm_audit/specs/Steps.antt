-- A core that makes the entries of a journal, one after another, and its machine.
use Rattle.std.specs.Prelude.{◌≡◌, ◌≤◌, List, ◌++◌, length, reverse, Some}
use Rattle.vfm_types.specs.Deliveries.{delivers}
use Rattle.vfm_types.specs.Desc.{device_count}
use Rattle.vfm_types.specs.Machine.{Machine}
use Rattle.vfm_types.specs.Requests.{plain}
use Rattle.vfm_types.specs.declared.entry.Entry.{Entry}
use Rattle.vfm_core.specs.CoreState.{CoreState, IsAfter}

-- the core's parts are those of the entries that it made
abbrev pub HasItsParts : CoreState → Type 0
HasItsParts core = IsAfter core.desc (reverse core.entries) core.world

-- a core made these entries
pub record HasMade (before : CoreState) (entries : List Entry) (now : CoreState) : Type 0 where
  pub desc : now.desc ≡ before.desc
  pub made : now.entries ≡ before.entries ++ entries
  pub parts : HasItsParts now

-- the plain machine of what a core delivered
pub record IsMachineOf (core : CoreState) (m : Machine) : Type 0 where
  pub machine : plain core.desc (delivers core.entries) ≡ Some m
  pub pages : length m.pages ≡ core.desc.pages
  pub devices : length m.devices ≡ device_count core.desc
  pub few_pages : length m.pages ≤ 1024
  pub few_devices : length m.devices ≤ 8
