-- The verdict on all channels of a move: the refusal of the least refused channel, else of the least
-- refused stream, else the machine that they load.
use Rattle.std.specs.Prelude.{◌≡◌, ℕ, zero, suc, ◌+◌, ◌*◌, min, List, [], ◌∷◌, map, Option, Some, None}
use Rattle.std.specs.List.{flat_map}
use Rattle.std.specs.Option.{option_or, option_map}
use Rattle.vfm_types.specs.declared.desc.Desc.{Desc}
use Rattle.vfm_types.specs.declared.fault.Refusal.{Refusal}
use Rattle.vfm_types.specs.Desc.{device_count}
use Rattle.vfm_types.specs.Machine.{Machine}
use Rattle.vfm_packet.specs.declared.answer.Expect.{Expect}
use Rattle.vfm_packet.specs.Packet.{Packet}
use Rattle.vfm_packet.specs.Answer.{cause_number}
use Rattle.vfm_packet.specs.Channel.{channel_limit}
use Rattle.vfm_packet.specs.ChannelRefusal.{ChannelRefusal, Bad, Aborted, Truncated, NoEnd, AfterEnd, TooLong}
use Rattle.vfm_packet.specs.Reading.{Reading, reading_within}
use Rattle.vfm_streams.specs.Whole.{StreamFault, Doubled, Past, NoConfig, Missing, BadRecord, ConfigDiffers, NotWhole, stream_packets}
use Rattle.vfm_streams.specs.Loaded.{loaded}
use Rattle.vfm_streams.specs.Judged.{said, stream_fault}

-- what is answered about all channels
pub data Verdict : Type 0 where
  Refuses : Refusal → Verdict
  Loads : Machine → Verdict

-- the refusal of channel k, which may have so many bytes
abbrev pub channel_refusal : ℕ → ℕ → ChannelRefusal → Refusal
channel_refusal limit k (Bad place cause) = record { code = cause_number cause; a = k; b = place }
channel_refusal limit k (Truncated place) = record { code = 7; a = k; b = place }
channel_refusal limit k (NoEnd place) = record { code = 8; a = k; b = place }
channel_refusal limit k (AfterEnd place) = record { code = 9; a = k; b = place }
channel_refusal limit k TooLong = record { code = 10; a = k; b = limit }
channel_refusal limit k (Aborted place) = record { code = 11; a = k; b = place }

-- an index and a place in one number
abbrev pub index_and_place : ℕ → ℕ → ℕ
index_and_place index place = index * 65536 + min place 65535

-- the refusal of stream s
abbrev pub stream_refusal : ℕ → StreamFault → Refusal
stream_refusal s (Doubled index) = record { code = 21; a = s; b = index }
stream_refusal s (Past index) = record { code = 22; a = s; b = index }
stream_refusal s NoConfig = record { code = 23; a = s; b = 0 }
stream_refusal s (Missing index) = record { code = 24; a = s; b = index }
stream_refusal s (BadRecord index place) = record { code = 25; a = s; b = index_and_place index place }
stream_refusal s ConfigDiffers = record { code = 26; a = s; b = 0 }
stream_refusal s (NotWhole least) = record { code = 27; a = s; b = least }

-- the first refused one of channels, counted from k on
abbrev pub refused_channel : ℕ → ℕ → List Reading → Option Refusal
refused_channel limit k [] = None
refused_channel limit k (r ∷ readings) =
    option_or (option_map (channel_refusal limit k) r.refusal) (refused_channel limit (k + 1) readings)

-- the first refused one of so many streams, counted from s on
abbrev pub refused_stream : Desc → List Packet → ℕ → ℕ → Option Refusal
refused_stream D packets s zero = None
refused_stream D packets s (suc more) =
    option_or (option_map (stream_refusal s) (stream_fault D s (stream_packets s packets)))
    (refused_stream D packets (s + 1) more)

-- the packets of all channels
abbrev pub brought : List Reading → List Packet
brought readings = flat_map (λ r. r.packets) readings

-- the machine that packets load
abbrev pub loaded_from : Desc → List Packet → Machine
loaded_from D packets = loaded D (λ s. said s (stream_packets s packets))

-- a refusal, or else this machine
abbrev pub refuses_or : Option Refusal → Machine → Verdict
refuses_or None m = Loads m
refuses_or (Some refusal) m = Refuses refusal

-- the verdict on channels that were read, each of which may have so many bytes
abbrev pub verdict_on : Desc → ℕ → List Reading → Verdict
verdict_on D limit readings =
    refuses_or
    (option_or (refused_channel limit 0 readings) (refused_stream D (brought readings) 0 (device_count D + 1)))
    (loaded_from D (brought readings))

-- the verdict on the bytes of all channels, each of which may have so many
abbrev pub verdict_within : ℕ → Desc → Expect → List (List ℕ) → Verdict
verdict_within limit D e channels = verdict_on D limit (map (reading_within limit e) channels)

-- the verdict on the bytes of all channels
abbrev pub verdict : Desc → Expect → List (List ℕ) → Verdict
verdict D e channels = verdict_within channel_limit D e channels

-- what a destination of this description expects of its channels
pub record Expects (D : Desc) (e : Expect) : Type 0 where
  pub version : e.version ≡ D.version
  pub session : e.session ≡ D.session
  pub streams : e.streams ≡ device_count D + 1
