-- How a run ends: given up by the source, or taken over at the destination.
use Rattle.std.specs.Prelude.{List, [], ◌∷◌, ◌++◌, Option, Some, IsTrue}
use Rattle.vfm_types.specs.declared.entry.Entry.{Entry}
use Rattle.vfm_types.specs.declared.entry.Entry.TheVariants.{Abort, Resume}
use Rattle.vfm_plain.specs.Ended.{has_ended, went_on}
use Rattle.vfm_core.specs.CoreState.{CoreState}
use Rattle.vfm_drive.specs.Rounds.{ByRounds, with_made}
use Rattle.vfm_drive.specs.Runs.{GoesOn, whole}

-- A run goes on from one core to another by rounds, after which every device is RUNNING and idle.
pub record GoesHome (old new : CoreState) (origin : Option (List Entry)) (mine : List Entry) : Type 0 where
  pub on : GoesOn old new origin mine
  pub rounds : ByRounds old new 0
  pub ended : IsTrue (has_ended new.desc (whole origin (on.more ++ mine)))

-- The source gave up: Abort was made, and then rounds, after which every device is RUNNING and idle.
pub record HasGivenUp (old new : CoreState) (origin : Option (List Entry)) (mine : List Entry) : Type 0 where
  pub on : GoesOn (with_made (Some Abort) old) new origin (Abort ∷ mine)
  pub rounds : ByRounds (with_made (Some Abort) old) new 0
  pub went_on : IsTrue (went_on new.desc (whole origin (on.more ++ Abort ∷ mine)))

-- The destination took the machine over that was staged after a list: Resume was made first, and then rounds, after which
-- every device is RUNNING and idle.
pub record HasTakenOver (old new : CoreState) (before : List Entry) : Type 0 where
  pub on : GoesOn (with_made (Some Resume) old) new (Some before) (Resume ∷ [])
  pub rounds : ByRounds (with_made (Some Resume) old) new 0
  pub ended : IsTrue (has_ended new.desc (on.more ++ Resume ∷ before))
