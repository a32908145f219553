-- What a migration begins with, and what it comes to.
use Rattle.std.specs.Prelude.{◌≡◌, [], Some, None, Result, Ok, Err}
use Rattle.vfm_types.specs.declared.desc.Desc.{Desc}
use Rattle.vfm_core.specs.CoreState.{CoreState, first_core}
use Rattle.vfm_source.specs.declared.phase.Phase.TheVariants.{Fresh}
use Rattle.vfm_source.specs.Source.{MoverState, Moves}
use Rattle.vfm_status.specs.declared.status.Doubt.{Doubt}
use Rattle.vfm_status.specs.declared.status.Status.{Status}
use Rattle.vfm_status.specs.declared.status.Status.TheVariants.{InDoubt, Moved}
use Rattle.vfm_migrate.specs.Concluding.{IsGoneHome}
use Rattle.vfm_migrate.specs.declared.migration.Migration.{Migration}

-- a source of this machine that has made nothing yet
pub record IsFirst (D : Desc) (source : MoverState) : Type 0 where
  pub core : source.core ≡ first_core D
  pub moves : Moves [] source
  pub phase : source.phase ≡ Fresh

-- such a source, and the description for the destination
pub record AreSides (D : Desc) (source : MoverState) (copy : Desc) : Type 0 where
  pub first : IsFirst D source
  pub copied : copy ≡ D

-- a source gave up without links
pub record IsAlone (old : MoverState) (status : Status) (migration : Migration) : Type 0 where
  pub new : MoverState
  pub home : IsGoneHome old new
  pub is : migration ≡ record { status = status; source = Some new; loaded = None; taken_over = None }

-- what a migration came to once Go was said
abbrev pub concluded : MoverState → Result CoreState Doubt → Migration
concluded source (Ok core) = record { status = Moved; source = Some source; loaded = None; taken_over = Some core }
concluded source (Err doubt) = record { status = InDoubt doubt; source = Some source; loaded = None; taken_over = None }
