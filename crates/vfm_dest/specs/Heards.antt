-- What came of channels that were read.
use Rattle.std.specs.Prelude.{◌≡◌, ℕ, ◌<◌, ◌⊎◌, Bool, true, Option, None, List, [], length, map, slice_index_or}
use Rattle.vfm_outside.specs.Counts.{Rose}
use Rattle.vfm_outside.specs.Told.{with_appended}
use Rattle.vfm_packet.specs.declared.answer.Expect.{Expect}
use Rattle.vfm_packet.specs.Channel.{channel_limit}
use Rattle.vfm_packet.specs.Reading.{reading}
use Rattle.vfm_streams.specs.Whole.{stream_packets}
use Rattle.vfm_streams.specs.Verdict.{Expects}
use Rattle.vfm_types.specs.declared.desc.Desc.{Desc}
use Rattle.vfm_mesh.specs.declared.parcel.Parcel.{Parcel}
use Rattle.vfm_mesh.specs.declared.fan.Fan.{Fan}
use Rattle.vfm_mesh.specs.Rows.{fan_rings}
use Rattle.vfm_mesh.specs.Meshes.{given_at}
use Rattle.vfm_recv.specs.declared.channel_end.ChannelEnd.{ChannelEnd}
use Rattle.vfm_recv.specs.declared.channel_end.ChannelEnd.TheVariants as channel_ends
use Rattle.vfm_recv.specs.Pumped.{end_of, Counts, Stops}
use Rattle.vfm_stream_work.specs.Parcels.{packets_in}

-- what a link tells of what comes in
pub record Told : Type 0 where
  pub received : Option (List ℕ)
  pub ended : Bool
  pub failed_in : ℕ

-- by the words of a link
abbrev pub told : {L : Type 0} → (L → Option (List ℕ)) → (L → Bool) → (L → ℕ) → L → Told
told received ended failed_in link = record { received = received link; ended = ended link; failed_in = failed_in link }

-- a link that tells nothing
abbrev pub untold : Told
untold = record { received = None; ended = true; failed_in = 0 }

-- what links tell of what goes out, each by a word of theirs
pub record OutWords (L : Type 0) : Type 0 where
  pub sent : L → Option (List ℕ)
  pub finished : L → Bool
  pub failed_out : L → ℕ

abbrev pub out_words : {L : Type 0} → (L → Option (List ℕ)) → (L → Bool) → (L → ℕ) → OutWords L
out_words sent finished failed_out = record { sent = sent; finished = finished; failed_out = failed_out }

-- There are as many links, and each tells of what goes out what it told before.
pub record SendAsBefore {L : Type 0} (words : OutWords L) (before now : List L) : Type 0 where
  pub count : length now ≡ length before
  pub sent : map words.sent now ≡ map words.sent before
  pub finished : map words.finished now ≡ map words.finished before
  pub failed_out : map words.failed_out now ≡ map words.failed_out before

-- each fan has so many streams
abbrev pub HaveStreams : List Fan → ℕ → Type 0
HaveStreams fans n = (k : ℕ) → k < length fans → length (slice_index_or (map fan_rings fans) k []) ≡ n

-- What the answer about a channel says of what came and of what was given to the streams: but for a fault and want of
-- memory, that it is the answer about what came, and that each stream was given its packets.
abbrev pub Brings : ChannelEnd → Expect → List ℕ → (ℕ → List Parcel) → Type 0
Brings channel_ends.Fault e came given = Unit {0}
Brings channel_ends.NoMemory e came given = Unit {0}
Brings answer e came given =
    (answer ≡ end_of (reading e came).refusal)
    × ((s : ℕ) → s < e.streams → packets_in (given s) ≡ stream_packets s (reading e came).packets)

-- the link has received its end, or has given more bytes than a channel may have
abbrev pub HasStopped : Told → List ℕ → Type 0
HasStopped now came = (now.ended ≡ true) ⊎ (channel_limit < length came)

-- what is known of a channel once it was read: its link, what was given to each stream, and the answer
pub record Channel : Type 0 where
  pub now : Told
  pub given : ℕ → List Parcel
  pub answer : ChannelEnd

-- these bytes came of a channel that was read
pub record IsRead (e : Expect) (before : Told) (channel : Channel) (came : List ℕ) : Type 0 where
  pub received : channel.now.received ≡ with_appended before.received came
  pub brings : Brings channel.answer e came channel.given
  pub counts : Counts channel.answer before.failed_in channel.now.failed_in
  pub stops : Stops channel.answer (HasStopped channel.now came) (Rose before.failed_in channel.now.failed_in)

-- some bytes came of it
pub record WasRead (e : Expect) (before : Told) (channel : Channel) : Type 0 where
  pub came : List ℕ
  pub is : IsRead e before channel came

-- the channel of a link, with what a fan was given, and its answer
abbrev pub channel_of : Told → (ℕ → List Parcel) → ChannelEnd → Channel
channel_of now given answer = record { now = now; given = given; answer = answer }

-- what is known of all channels once they were read: their links, their fans, and the answers
pub record Channels : Type 0 where
  pub links : List Told
  pub fans : List Fan
  pub answers : List ChannelEnd

-- channel k of them
abbrev pub channel_at : Channels → ℕ → Channel
channel_at channels k = record {
  now = slice_index_or channels.links k untold;
  given = given_at channels.fans k;
  answer = slice_index_or channels.answers k channel_ends.Ended;
}

-- the channels of these links were read, each to its end, and these bytes came of each
pub record AreRead (e : Expect) (before : List Told) (channels : Channels) : Type 0 where
  pub came : List (List ℕ)
  pub count : length came ≡ length before
  pub links : length channels.links ≡ length before
  pub answers : length channels.answers ≡ length before
  pub each : (k : ℕ) → k < length before → IsRead e (slice_index_or before k untold) (channel_at channels k) (slice_index_or came k [])

-- channels by their links, fans and answers
abbrev pub channels_of : List Told → List Fan → List ChannelEnd → Channels
channels_of links fans answers = record { links = links; fans = fans; answers = answers }

-- the channels of a move were read, by what its description expects: their fans and the answers are these
pub record WereRead (D : Desc) (fans : List Fan) (answers : List ChannelEnd) : Type 0 where
  pub expect : Expect
  pub before : List Told
  pub links : List Told
  pub expects : Expects D expect
  pub many : length before ≡ length fans
  pub are : AreRead expect before (channels_of links fans answers)
