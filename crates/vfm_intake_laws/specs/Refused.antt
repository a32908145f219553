-- The first refused stream, by what came of each.
use Rattle.std.specs.Prelude.{ℕ, zero, suc, ◌+◌, List, Option, None}
use Rattle.std.specs.Option.{option_or, option_map}
use Rattle.vfm_types.specs.declared.desc.Desc.{Desc}
use Rattle.vfm_types.specs.declared.fault.Refusal.{Refusal}
use Rattle.vfm_packet.specs.Packet.{Packet}
use Rattle.vfm_streams.specs.Judged.{stream_fault}
use Rattle.vfm_streams.specs.Verdict.{stream_refusal}

-- the refusal of the first refused one of so many streams, counted from s on
abbrev pub refused_of : Desc → (ℕ → List Packet) → ℕ → ℕ → Option Refusal
refused_of D came s zero = None
refused_of D came s (suc more) =
    option_or (option_map (stream_refusal s) (stream_fault D s (came s))) (refused_of D came (s + 1) more)
