-- What came of a description, and of which calls that is the outcome.
use Rattle.std.specs.Prelude.{◌≡◌, ℕ, ◌<◌, ◌^◌, Bool, true, false, Option, Some, None, IfSome, option_map}
use Rattle.vfm_types.specs.Desc.{device_count}
use Rattle.vfm_outside.specs.Tells.{SourceTells, WiresTell}
use Rattle.vfm_plain.specs.Report.{Made}
use Rattle.vfm_types.specs.Machine.{Machine}
use Rattle.vfm_core.specs.CoreState.{CoreState}
use Rattle.vfm_core.specs.Machines.{machine_in}
use Rattle.vfm_move.specs.Move.{joint_in}
use Rattle.vfm_move.specs.Table.{Owner, TookOver, Neither, WentOn}
use Rattle.vfm_source.specs.Moving.{past_in}
use Rattle.vfm_source.specs.Source.{MoverState, Moves}
use Rattle.vfm_dest.specs.StagedCores.{StagedState}
use Rattle.vfm_status.specs.declared.status.Status.{Status}
use Rattle.vfm_move.specs.Contact.{Contact, Untouched}
use Rattle.vfm_move.specs.Causes.{Story}
use Rattle.vfm_migrate.specs.declared.migration.Migration.{Migration}
use Rattle.vfm_migrate.specs.Migrations.{last_core, made_in}
use Rattle.vfm_top.specs.declared.words.Form.TheVariants.{Run, Load, Audit}
use Rattle.vfm_top.specs.declared.outcome.Outcome.{Outcome}
use Rattle.vfm_top.specs.declared.outcome.Outcome.TheVariants.{Undescribed, Migrated}
use Rattle.vfm_top.specs.Form.{form_of}
use Rattle.vfm_top.specs.Call.{Call}
use Rattle.vfm_top.specs.Answers.{IsOutcome}

-- the story of a call at whose end nothing was made
abbrev pub nothing_made : Status → Story
nothing_made status = record { status = status; made = None; contact = Untouched }

-- the status that an outcome is, and what was made, if a source was
abbrev pub status_of : Outcome → Status
status_of (Undescribed status) = status
status_of (Migrated migration) = migration.status

abbrev pub made_of : Outcome → Option Made
made_of (Undescribed status) = None
made_of (Migrated migration) = made_in migration

-- A source keeps the machine at the joint stop; it, a machine that was loaded and one that was taken over are of one
-- description, whose devices a byte can number.
pub record IsOfOneMachine (source : MoverState) (other : Option StagedState) (taken : Option CoreState) : Type 0 where
  pub moves : Moves (past_in source.core) source
  pub few : device_count source.core.desc < 256
  pub loaded : IfSome other (λ staged. staged.core.desc ≡ source.core.desc)
  pub taken_over : IfSome taken (λ core. core.desc ≡ source.core.desc)

-- the parts of an outcome are
abbrev pub IsPrintableMigration : Migration → Type 0
IsPrintableMigration migration = IfSome migration.source (λ source. IsOfOneMachine source migration.loaded migration.taken_over)

abbrev pub IsPrintable : Outcome → Type 0
IsPrintable (Undescribed status) = Unit {0}
IsPrintable (Migrated migration) = IsPrintableMigration migration

-- neither end has the machine
abbrev pub is_neither : Owner → Bool
is_neither Neither = true
is_neither TookOver = false
is_neither WentOn = false

-- the machine that is summed up of a migration with this source: the one at the end, or where neither end runs the one at the
-- joint stop
abbrev pub last_machine : Owner → MoverState → Option CoreState → Option Machine
last_machine Neither source taken = joint_in source.core.desc (past_in source.core)
last_machine owner source taken = option_map (λ core. machine_in core.world) (last_core owner source.core taken)

-- a call came to this status and to what was made, whatever came of the wires
pub record HasOutcome (call : Call) (status : Status) (made : Option Made) : Type 0 where
  pub contact : Contact
  pub outcome : IsOutcome call (record { status = status; made = made; contact = contact })

-- what the description's source and the wires show at one moment
pub record MoveTells : Type 0 where
  pub desc : SourceTells
  pub wires : WiresTell

abbrev pub move_tells : SourceTells → WiresTell → MoveTells
move_tells desc wires = record { desc = desc; wires = wires }

-- A call that asks for a move, after this pass the source is to give up; leaves the report's source alone; and over whose
-- description's source and wires this was shown before it and after it.
pub record IsCallOver (pass : ℕ) (old new : MoveTells) (call : Call) : Type 0 where
  pub asked : form_of call.words ≡ Some (Run pass)
  pub before : call.before.desc ≡ old.desc
  pub now : call.now.desc ≡ new.desc
  pub wires_before : call.before.wires ≡ old.wires
  pub wires_now : call.now.wires ≡ new.wires
  pub unaudited : call.now.report ≡ call.before.report

-- A call that asks for load N, leaves both sources alone, and whose wires told this before it and after it.
pub record IsLoadOver (number : ℕ) (old new : WiresTell) (call : Call) : Type 0 where
  pub asked : form_of call.words ≡ Some (Load number)
  pub small : number < 2 ^ 32
  pub wires_before : call.before.wires ≡ old
  pub wires_now : call.now.wires ≡ new
  pub unread : call.now.desc ≡ call.before.desc
  pub unaudited : call.now.report ≡ call.before.report

-- what both sources show at one moment
pub record SourcesTell : Type 0 where
  pub desc : SourceTells
  pub report : SourceTells

abbrev pub sources_tell : SourceTells → SourceTells → SourcesTell
sources_tell desc report = record { desc = desc; report = report }

-- a call that asks for an audit, leaves the wires alone, and whose sources showed this before it and after it
pub record IsAuditOver (old new : SourcesTell) (call : Call) : Type 0 where
  pub asked : form_of call.words ≡ Some Audit
  pub desc_before : call.before.desc ≡ old.desc
  pub desc_now : call.now.desc ≡ new.desc
  pub report_before : call.before.report ≡ old.report
  pub report_now : call.now.report ≡ new.report
  pub wires : call.now.wires ≡ call.before.wires
