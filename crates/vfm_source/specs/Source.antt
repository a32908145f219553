-- The source of a move.
use Rattle.std.specs.Prelude.{◌≡◌, ℕ, true, List, []}
use Rattle.vfm_types.specs.declared.entry.Entry.{Entry}
use Rattle.vfm_types.specs.Machine.{Machine}
use Rattle.vfm_types.specs.Deliveries.{joint_machine}
use Rattle.vfm_types.specs.Phases.{is_joint}
use Rattle.vfm_plain.specs.Shape.{HasShape}
use Rattle.vfm_core.specs.CoreState.{CoreState, IsAfter}
use Rattle.vfm_drive.specs.Runs.{HasRun}
use Rattle.vfm_source.specs.declared.phase.Phase.{Phase}
use Rattle.vfm_source.specs.declared.phase.Phase.TheVariants.{Fresh}
use Rattle.vfm_source.specs.Moving.{IsUnderWay}

-- its core, the machine that it keeps of the joint stop, the digest of what it offered, and how far it has come
pub record MoverState : Type 0 where
  pub core : CoreState
  pub joint : Machine
  pub digest : List ℕ
  pub phase : Phase

-- nothing was made yet
pub record IsFresh (core : CoreState) (joint : Machine) : Type 0 where
  pub entries : core.entries ≡ []
  pub way : IsUnderWay joint core

-- The core stands for some run, and there is room for its machine; before anything was offered nothing was made.
pub record IsSource (core : CoreState) (joint : Machine) (phase : Phase) : Type 0 where
  pub shape : HasShape core.desc joint
  pub run : HasRun core.desc core.world
  pub fresh : phase ≡ Fresh → IsFresh core joint

-- The source has made these entries, newest first, which are a legal list, and keeps the machine at their joint stop.
pub record Moves (past : List Entry) (mover : MoverState) : Type 0 where
  pub run : IsAfter mover.core.desc past mover.core.world
  pub joint : is_joint past ≡ true → mover.joint ≡ joint_machine mover.core.desc past
