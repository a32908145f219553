-- The destination's side of a move, once it has read its channels over new links.
use Rattle.std.specs.Prelude.{◌≡◌, All, List, Result, Ok, Err, map}
use Rattle.vfm_types.specs.declared.desc.Desc.{Desc}
use Rattle.vfm_outside.specs.Links.{Told}
use Rattle.vfm_core.specs.Machines.{machine_in}
use Rattle.vfm_plain.specs.StateText.{state_digest}
use Rattle.vfm_streams.specs.Verdict as streams
use Rattle.vfm_streams.specs.Verdict.{Verdict, Loads, Refuses}
use Rattle.vfm_dest.specs.StagedCores.{StagedState}
use Rattle.vfm_dest.specs.Stages.{core_of, digest_of}
use Rattle.vfm_dest.specs.declared.judging.StageFault.{StageFault}
use Rattle.vfm_dest.specs.declared.judging.StageFault.TheVariants as faults
use Rattle.vfm_move.specs.Contact.{Line}
use Rattle.vfm_move.specs.Carried.{IsReadOut, expected}
use Rattle.vfm_move.specs.Causes.{FailedIn}
use Rattle.vfm_migrate.specs.Links.{AreLines}

-- the channels were read out, and this is the verdict on what they brought
pub record BroughtBy (D : Desc) (lines : List Line) (v : Verdict) : Type 0 where
  pub read_out : All IsReadOut lines
  pub verdict : streams.verdict D (expected D) (map (λ line. line.received) lines) ≡ v

-- so it is where their links tell their bytes
abbrev pub HaveBrought : Desc → List Told → Verdict → Type 0
HaveBrought D links v = (lines : List Line) → AreLines links lines → BroughtBy D lines v

-- the staged core is that of this description with the machine that the channels brought, and this is its digest
pub record IsStaged (D : Desc) (links : List Told) (staged : StagedState) : Type 0 where
  pub desc : (core_of staged).desc ≡ D
  pub digest : digest_of staged ≡ state_digest D (machine_in (core_of staged).world)
  pub brought : HaveBrought D links (Loads (machine_in (core_of staged).world))

-- what staging over new links answers
abbrev pub StagedFor : Desc → List Told → Result StagedState StageFault → Type 0
StagedFor D links (Ok staged) = IsStaged D links staged
StagedFor D links (Err (faults.Refusal why)) = HaveBrought D links (Refuses why)
StagedFor D links (Err (faults.Link k)) = FailedIn links k
StagedFor D links (Err faults.NoMemory) = Unit {0}
