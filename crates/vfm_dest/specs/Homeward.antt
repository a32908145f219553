-- A core that goes home entry by entry, whatever its machine is.
use Rattle.std.specs.Prelude.{◌≡◌, ℕ, ◌+◌, ◌≤◌, length}
use Rattle.vfm_core.specs.CoreState.{CoreState, IsKept}
use Rattle.vfm_drive.specs.Runs.{left_in}

-- the core keeps what a core keeps, with some room for entries
pub record HasRoom (core : CoreState) : Type 0 where
  pub room : ℕ
  pub kept : IsKept core.desc core.entries room core.world

-- the core made entries, or none, and for each of them at least one fewer is left
pub record GoesHomeward (old new : CoreState) : Type 0 where
  pub has : HasRoom new
  pub desc : new.desc ≡ old.desc
  pub longer : length old.entries ≤ length new.entries
  pub left : length new.entries + left_in new ≤ length old.entries + left_in old
