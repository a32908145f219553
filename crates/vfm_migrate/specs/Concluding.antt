-- How a migration is concluded: the source gives up, or the destination took over, and the links go back.
use Rattle.std.specs.Prelude.{◌≡◌, ℕ, [], ◌∷◌, Some}
use Rattle.vfm_outside.specs.Counts.{Includes}
use Rattle.vfm_outside.specs.Links.{ToldEnds, ends_faults}
use Rattle.vfm_outside.specs.Tells.{WiresTell}
use Rattle.vfm_outside.specs.Told.{with_appended}
use Rattle.vfm_core.specs.Machines.{machine_in}
use Rattle.vfm_source.specs.Moving.{past_in}
use Rattle.vfm_source.specs.Source.{MoverState, Moves}
use Rattle.vfm_move.specs.Move.{GoesOn}

-- The source gave up, and went on until every device was RUNNING and idle.
pub record IsGoneHome (old new : MoverState) : Type 0 where
  pub desc : new.core.desc ≡ old.core.desc
  pub on : GoesOn old.core.desc (past_in old.core) (past_in new.core) (machine_in new.core.world)
  pub moves : Moves (past_in new.core) new

-- the wires were asked for so many channels, and gave links
pub record HasConnected (channels : ℕ) (before now : WiresTell) : Type 0 where
  pub asked : now.asked ≡ with_appended before.asked (channels ∷ [])
  pub faults : now.faults ≡ before.faults

-- the wires took these links in again
pub record HasTakenBack (ends : ToldEnds) (before now : WiresTell) : Type 0 where
  pub carried : now.carried ≡ Some ends
  pub faults : Includes before.faults (ends_faults ends) now.faults
  pub asked : now.asked ≡ before.asked
