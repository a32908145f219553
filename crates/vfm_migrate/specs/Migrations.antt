-- What a migration came to, and what is promised of it.
use Rattle.std.specs.Prelude.{◌≡◌, ℕ, Option, Some, None, option_map, IfSome, ⊤}
use Rattle.vfm_types.specs.declared.desc.Desc.{Desc}
use Rattle.vfm_types.specs.declared.fault.LinkPlace.TheVariants.{Connect}
use Rattle.vfm_outside.specs.Tells.{WiresTell}
use Rattle.vfm_plain.specs.Report.{Made}
use Rattle.vfm_core.specs.CoreState.{CoreState}
use Rattle.vfm_core.specs.Machines.{machine_in}
use Rattle.vfm_source.specs.Moving.{past_in}
use Rattle.vfm_dest.specs.StagedCores.{StagedState}
use Rattle.vfm_source.specs.Source.{MoverState, Moves}
use Rattle.vfm_status.specs.declared.status.Status.{Status}
use Rattle.vfm_status.specs.declared.status.Status.TheVariants.{LinkFault, NoMemory}
use Rattle.vfm_move.specs.Contact.{Contact, Untouched, Failed, Linked}
use Rattle.vfm_move.specs.Table.{Owner, TookOver, Neither, WentOn, owner_at}
use Rattle.vfm_move.specs.Causes.{Attempt, Story, IsExplained}
use Rattle.vfm_move.specs.Move.{IsMoveOf, joint_in}
use Rattle.vfm_migrate.specs.declared.migration.Migration.{Migration}

-- ---- what was made

-- the core that has the machine at the end: the destination's, which took it over; none, where neither end runs; or the source's
abbrev pub last_core : Owner → CoreState → Option CoreState → Option CoreState
last_core TookOver source taken_over = taken_over
last_core Neither source taken_over = None
last_core WentOn source taken_over = Some source

-- What was made at this status by a source that stood, by a destination that loaded another machine, and by one that took the
-- machine over.
abbrev pub made_by : Status → MoverState → Option StagedState → Option CoreState → Made
made_by status source loaded taken_over =
    record {
      desc = source.core.desc;
      source = source.core.entries;
      joint = joint_in source.core.desc (past_in source.core);
      loaded = option_map (λ staged. machine_in staged.core.world) loaded;
      destination = option_map (λ core. core.entries) taken_over;
      final = option_map (λ core. machine_in core.world) (last_core (owner_at status) source.core taken_over);
    }

-- what was made, if a source stood
abbrev pub made_in : Migration → Option Made
made_in migration = option_map (λ source. made_by migration.status source migration.loaded migration.taken_over) migration.source

-- the story of a migration in which that came of the wires
abbrev pub story_of : Migration → Contact → Story
story_of migration contact = record { status = migration.status; made = made_in migration; contact = contact }

-- ---- what is promised

-- How far a move came: to the wires, which failed; to links; or, where memory ran out, to no source, to a source alone, or to
-- links.
abbrev pub CameTo : Status → Option Made → Contact → Type 0
CameTo (LinkFault Connect) (Some made) Failed = ⊤
CameTo (LinkFault Connect) made contact = ⊥
CameTo NoMemory None Untouched = ⊤
CameTo NoMemory (Some made) Untouched = ⊤
CameTo status (Some made) (Linked ends) = ⊤
CameTo status made contact = ⊥

-- the source is one of this description, and keeps the machine at the joint stop
pub record IsSourceOf (D : Desc) (source : MoverState) : Type 0 where
  pub desc : source.core.desc ≡ D
  pub moves : Moves (past_in source.core) source

-- an attempt with the pass after whose end the source is to give up, 0 for none
abbrev pub attempt_of : ℕ → WiresTell → WiresTell → Attempt
attempt_of abort_after before now = record { abort_after = abort_after; before = before; now = now }

-- What a migration of this machine is: it came to a status with its cause, and where a source stood to a move of the machine.
-- Where none stood the wires weren't touched. Whatever it made is of this description.
pub record IsMigrated (attempt : Attempt) (D : Desc) (migration : Migration) : Type 0 where
  pub contact : Contact
  pub reached : CameTo migration.status (made_in migration) contact
  pub explained : IsExplained attempt (story_of migration contact)
  pub move_of : IfSome (made_in migration) (λ made. IsMoveOf attempt (story_of migration contact) made)
  pub source : IfSome migration.source (λ source. IsSourceOf D source)
  pub loaded : IfSome migration.loaded (λ staged. staged.core.desc ≡ D)
  pub taken_over : IfSome migration.taken_over (λ core. core.desc ≡ D)
  pub untouched : made_in migration ≡ None → attempt.now ≡ attempt.before
