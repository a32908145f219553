-- The core of a machine that was loaded, and its digest.
use Rattle.std.specs.Prelude.{◌≡◌, ℕ, List, IsFalse, IsTrue}
use Rattle.vfm_types.specs.declared.entry.Entry.{Entry}
use Rattle.vfm_types.specs.Deliveries.{machine_of}
use Rattle.vfm_types.specs.Phases.{is_aborted, is_failed, is_resumed}
use Rattle.vfm_plain.specs.Ended.{is_last_ended}
use Rattle.vfm_plain.specs.Legal.{IsLegal}
use Rattle.vfm_core.specs.Machines.{machine_in as core_machine}
use Rattle.vfm_plain.specs.declared.part.Part.{Part}
use Rattle.vfm_plain.specs.StateText.{state_digest}
use Rattle.vfm_intake.specs.Parts.{AreParts, machine_in}
use Rattle.vfm_core.specs.CoreState.{CoreState}
use Rattle.vfm_core.specs.Loaded.{staged_core}

-- the core of a machine that was loaded, and the digest of its state
pub record StagedState : Type 0 where
  pub core : CoreState
  pub digest : List ℕ

-- The core is the one that is staged from some parts of a machine, and has made no entry; the digest is that of this
-- machine's state.
pub record StandsStaged (core : CoreState) (digest : List ℕ) : Type 0 where
  pub parts : List Part
  pub are : AreParts core.desc parts
  pub core_is : core ≡ staged_core core.desc parts
  pub digest_is : digest ≡ state_digest core.desc (machine_in parts)

-- A legal list that was copied to its end, and neither given up nor taken over, and in which no arc failed; the core has its
-- machine.
pub record EndsFor (core : CoreState) (past : List Entry) : Type 0 where
  pub legal : IsLegal core.desc past
  pub ended : IsTrue (is_last_ended core.desc past)
  pub not_aborted : IsFalse (is_aborted past)
  pub not_resumed : IsFalse (is_resumed past)
  pub not_failed : IsFalse (is_failed past)
  pub machine : machine_of core.desc past ≡ core_machine core.world
