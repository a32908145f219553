-- What came of the streams once each is finished.
use Rattle.std.specs.Prelude.{◌≡◌, ℕ, ◌<◌, List, length, map, slice_index_or, Option, Some, None, Result, Ok, Err}
use Rattle.std.specs.List.{range_with_len}
use Rattle.vfm_types.specs.declared.desc.Desc.{Desc}
use Rattle.vfm_types.specs.declared.fault.Refusal.{Refusal}
use Rattle.vfm_plain.specs.declared.part.Part.{Part}
use Rattle.vfm_packet.specs.Packet.{Packet}
use Rattle.vfm_streams.specs.Judged.{said}
use Rattle.vfm_load.specs.Parts.{IsPartOf, loaded_part}
use Rattle.vfm_intake_laws.specs.Refused.{refused_of}
use Rattle.vfm_intake.specs.declared.stream.StreamIntake.{StreamIntake}
use Rattle.vfm_intake.specs.Streams.{IsAtRest}

-- none has a packet that could be applied
abbrev pub AllAtRest : List StreamIntake → Type 0
AllAtRest streams = (s : ℕ) (x : StreamIntake) → s < length streams → IsAtRest (slice_index_or streams s x)

-- the refusal that an answer is, if it is one
abbrev pub refusal_in : {X : Type 0} → Result X Refusal → Option Refusal
refusal_in (Ok x) = None
refusal_in (Err refusal) = Some refusal

-- the parts of the first so many streams, by what came of each
abbrev pub all_loaded : Desc → (ℕ → List Packet) → ℕ → List Part
all_loaded D came n = map (λ s. loaded_part D s (said s (came s))) (range_with_len 0 n)

-- these are the parts of the first so many streams, none of which is refused
pub record AreFinished (D : Desc) (came : ℕ → List Packet) (n : ℕ) (parts : List Part) : Type 0 where
  pub parts_are : parts ≡ all_loaded D came n
  pub unrefused : refused_of D came 0 n ≡ None
  pub each : (s : ℕ) → s < n → IsPartOf D s (loaded_part D s (said s (came s)))
