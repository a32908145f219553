-- A machine that was staged.
use Rattle.std.specs.Prelude.{◌≡◌, ℕ, ◌<◌, Bool, true, false, List, length, slice_index_or, Result, Ok, Err}
use Rattle.vfm_types.specs.declared.desc.Desc.{Desc}
use Rattle.vfm_plain.specs.declared.part.Part.{Part}
use Rattle.vfm_plain.specs.StateText.{state_digest}
use Rattle.vfm_intake.specs.Parts.{AreParts, machine_in}
use Rattle.vfm_core.specs.CoreState.{CoreState}
use Rattle.vfm_core.specs.Loaded.{staged_core}
use Rattle.vfm_core.specs.Machines.{machine_in as core_machine}
use Rattle.vfm_recv.specs.declared.channel_end.ChannelEnd.{ChannelEnd}
use Rattle.vfm_recv.specs.declared.channel_end.ChannelEnd.TheVariants as channel_ends
use Rattle.vfm_streams.specs.Verdict.{Verdict, Refuses, Loads}
use Rattle.vfm_dest.specs.StagedCores.{StagedState}
use Rattle.vfm_dest.specs.declared.judging.StageFault.{StageFault}
use Rattle.vfm_dest.specs.declared.judging.StageFault.TheVariants as faults

-- its core
abbrev pub core_of : StagedState → CoreState
core_of staged = staged.core

-- its digest
abbrev pub digest_of : StagedState → List ℕ
digest_of staged = staged.digest

-- The core is the one that is staged from these parts of a machine, its machine is theirs, and the digest is that of this
-- machine's state.
pub record IsStagedFrom (staged : StagedState) (D : Desc) (parts : List Part) : Type 0 where
  pub core_is : core_of staged ≡ staged_core D parts
  pub machine_is : core_machine (core_of staged).world ≡ machine_in parts
  pub digest_is : digest_of staged ≡ state_digest D (machine_in parts)

-- the answer about a channel is neither a fault of its link nor want of memory
abbrev pub is_told : ChannelEnd → Bool
is_told channel_ends.Fault = false
is_told channel_ends.NoMemory = false
is_told answer = true

-- all of these answers are so
abbrev pub AllTold : List ChannelEnd → Type 0
AllTold ends = (k : ℕ) → k < length ends → is_told (slice_index_or ends k channel_ends.Ended) ≡ true

-- the first answer that isn't so makes this fault
abbrev pub IsFirstFault : List ChannelEnd → StageFault → Type 0
IsFirstFault ends (faults.Link k) =
    (k < length ends) × (slice_index_or ends k channel_ends.Ended ≡ channel_ends.Fault)
    × ((j : ℕ) → j < k → is_told (slice_index_or ends j channel_ends.Ended) ≡ true)
IsFirstFault ends faults.NoMemory = Unit {0}
IsFirstFault ends (faults.Refusal refusal) = ⊥

-- the staged machine is the one that loads by this verdict
abbrev pub IsVerdictLoaded : Desc → Verdict → StagedState → Type 0
IsVerdictLoaded D verdict staged = (parts : List Part) × AreParts D parts × IsStagedFrom staged D parts × (verdict ≡ Loads (machine_in parts))

-- What is answered once all channels were read, by the verdict on what came. Either no link failed, and the machine of the
-- staged core is the one that loads, or it is refused; or a link failed, and none below it.
abbrev pub StagesBy : Desc → List ChannelEnd → Verdict → Result StagedState StageFault → Type 0
StagesBy D ends verdict (Ok staged) = AllTold ends × IsVerdictLoaded D verdict staged
StagesBy D ends verdict (Err (faults.Refusal refusal)) = AllTold ends × (verdict ≡ Refuses refusal)
StagesBy D ends verdict (Err fault) = IsFirstFault ends fault
