-- Where a move stands once its links have carried what they can.
use Rattle.std.specs.Prelude.{◌≡◌, ◌≢◌, IfSome, ℕ, false, List, None, option_map}
use Rattle.vfm_outside.specs.Links.{ToldEnds}
use Rattle.vfm_outside.specs.Told.{TellsNone}
use Rattle.vfm_types.specs.declared.desc.Desc.{Desc}
use Rattle.vfm_types.specs.Machine.{Machine}
use Rattle.vfm_types.specs.Valid.{IsValid}
use Rattle.vfm_core.specs.CoreState.{CoreState}
use Rattle.vfm_core.specs.Machines.{machine_in}
use Rattle.vfm_dest.specs.StagedCores.{EndsFor, StagedState}
use Rattle.vfm_dest.specs.Stages.{core_of, digest_of}
use Rattle.vfm_source.specs.declared.phase.Phase.{Phase}
use Rattle.vfm_source.specs.declared.phase.Phase.TheVariants as phases
use Rattle.vfm_source.specs.Moving.{past_in}
use Rattle.vfm_move.specs.Carried.{own_digest}
use Rattle.vfm_move.specs.Causes.{Attempt}
use Rattle.vfm_move.specs.Move.{IsConfirmed, IsDecided}
use Rattle.vfm_move.specs.Table.{NoGo, WentOn, owner_at}
use Rattle.vfm_migrate.specs.Offered.{made_so_far}
use Rattle.vfm_migrate.specs.declared.step.Step.{Step}
use Rattle.vfm_migrate.specs.declared.step.Step.TheVariants as steps

-- the machine of a destination's core
abbrev pub machine_of_staged : StagedState → Machine
machine_of_staged staged = machine_in (core_of staged).world

-- The destination staged the source's own machine, and the source heard so; nothing was said of Go.
pub record IsReadyForGo (attempt : Attempt) (core : CoreState) (digest : List ℕ) (staged : StagedState)
    (ends : ToldEnds) : Type 0 where
  pub confirmed : IsConfirmed NoGo attempt (made_so_far core None) ends
  pub valid : IsValid core.desc
  pub own : digest ≡ own_digest (made_so_far core None)
  pub staged_own : digest_of staged ≡ own_digest (made_so_far core None)
  pub desc : (core_of staged).desc ≡ core.desc
  pub ends_for : EndsFor (core_of staged) (past_in core)
  pub unsent : TellsNone ends.source_control.sent
  pub sound_out : ends.source_control.failed_out ≡ 0
  pub unheard : TellsNone ends.dest_control.received
  pub still_open : ends.dest_control.ended ≡ false
  pub sound_in : ends.dest_control.failed_in ≡ 0

-- A step of a move over its links: its status is known, and the source is to go on; or the destination awaits Go.
abbrev pub ComesTo : Attempt → CoreState → List ℕ → ToldEnds → Step → Type 0
ComesTo attempt core digest ends (steps.Decided status loaded) =
    IsDecided attempt status (made_so_far core (option_map machine_of_staged loaded)) ends × (owner_at status ≡ WentOn)
ComesTo attempt core digest ends (steps.Confirmed staged) = IsReadyForGo attempt core digest staged ends

-- What stands in a step is of this description. Where Go may be said the source has settled; else it hasn't said Go, nor
-- given up.
abbrev pub IsStepOf : Desc → Phase → Step → Type 0
IsStepOf D phase (steps.Decided status loaded) =
    IfSome loaded (λ staged. (core_of staged).desc ≡ D) × (phase ≢ phases.Gone) × (phase ≢ phases.GivenUp)
IsStepOf D phase (steps.Confirmed staged) = ((core_of staged).desc ≡ D) × (phase ≡ phases.Settled)
