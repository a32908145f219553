-- The answer about a whole move, by the verdict on its channels.
use Rattle.std.specs.Prelude.{◌≡◌, ℕ, ◌+◌, ◌≤◌, List, [], ◌∷◌, map, Option, None, Result, Ok, Err, Vec}
use Rattle.std.specs.Option.{option_or}
use Rattle.std.specs.declared.alloc.Global.{Global}
use Rattle.vfm_types.specs.declared.desc.Desc.{Desc}
use Rattle.vfm_types.specs.declared.fault.Refusal.{Refusal}
use Rattle.vfm_types.specs.Desc.{device_count}
use Rattle.vfm_plain.specs.declared.part.Part.{Part}
use Rattle.vfm_packet.specs.Packet.{Packet}
use Rattle.vfm_packet.specs.Reading.{Reading}
use Rattle.vfm_streams.specs.Verdict.{Verdict, Refuses, Loads}
use Rattle.vfm_recv.specs.declared.channel_end.ChannelEnd.{ChannelEnd}
use Rattle.vfm_recv.specs.Pumped.{end_of}
use Rattle.vfm_intake_laws.specs.Arrivals.{CameFrom}
use Rattle.vfm_intake.specs.declared.intake.Intake.{Intake}
use Rattle.vfm_intake.specs.Causes.{end_refusal}
use Rattle.vfm_intake.specs.Intakes.{HasTaken}
use Rattle.vfm_intake.specs.Parts.{AreParts, machine_in}

-- the refusal of the first refused one of channels that ended so, counted from k on
abbrev pub first_end_refusal : ℕ → List ChannelEnd → Option Refusal
first_end_refusal k [] = None
first_end_refusal k (e ∷ ends) = option_or (end_refusal k e) (first_end_refusal (k + 1) ends)

-- An intake of this description took all that these channels brought: each channel ended as it was read, and of each
-- stream the packets came that the channels brought, those of each channel in its order.
pub record HasTakenIn (intake : Intake) (D : Desc) (ends : List ChannelEnd) (readings : List Reading) : Type 0 where
  pub ends_are : ends ≡ map (λ r. end_of r.refusal) readings
  pub came : ℕ → List Packet
  pub taken : HasTaken intake D came
  pub from : (s : ℕ) → s ≤ device_count D → CameFrom s readings (came s)

-- the answer is this verdict: the same refusal, or the parts of the same machine
abbrev pub Answers : Desc → Verdict → Result (Vec Part Global) Refusal → Type 0
Answers D (Refuses refusal) answer = answer ≡ Err refusal
Answers D (Loads m) (Ok parts) = AreParts D parts.items × (machine_in parts.items ≡ m)
Answers D (Loads m) (Err refusal) = ⊥
