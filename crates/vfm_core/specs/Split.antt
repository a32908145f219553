-- The parts of a core that was taken apart.
use Rattle.vfm_core.specs.declared.split.Split.{Split}
use Rattle.vfm_core.specs.CoreState.{CoreState, IsKept, world_with}

-- the state that they are together
abbrev pub state_apart : Split → CoreState
state_apart split =
    record { desc = split.desc; entries = split.journal.entries; world = world_with split.lead split.devices.items split.pages.items }

-- they keep what a core keeps
abbrev pub IsKeptApart : Split → Type 0
IsKeptApart split = IsKept split.desc split.journal.entries split.journal.room (world_with split.lead split.devices.items split.pages.items)
