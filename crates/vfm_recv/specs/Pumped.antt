-- What a reader answers of a channel, by the bytes that came.
use Rattle.std.specs.Prelude.{◌≡◌, ℕ, ◌+◌, ◌<◌, ◌≤◌, ◌⊎◌, Bool, true, Option, Some, None, List, ◌++◌, length}
use Rattle.vfm_outside.specs.Counts.{Rose}
use Rattle.vfm_outside.specs.Told.{with_appended}
use Rattle.vfm_packet.specs.declared.answer.Expect.{Expect}
use Rattle.vfm_packet.specs.Packet.{Packet}
use Rattle.vfm_packet.specs.Channel.{channel_limit}
use Rattle.vfm_packet.specs.ChannelRefusal.{ChannelRefusal, Bad, Aborted, Truncated, NoEnd, AfterEnd, TooLong}
use Rattle.vfm_packet.specs.Reading.{reading}
use Rattle.vfm_mesh.specs.declared.fan.Fan.{Fan}
use Rattle.vfm_recv.specs.declared.channel_end.ChannelEnd.{ChannelEnd}
use Rattle.vfm_recv.specs.declared.channel_end.ChannelEnd.TheVariants as channel_ends
use Rattle.vfm_recv.specs.Handed.{HandsOn, Closes, HandsOnInPart}

-- the answer about a channel with this refusal, if any
abbrev pub end_of : Option ChannelRefusal → ChannelEnd
end_of None = channel_ends.Ended
end_of (Some (Bad place cause)) = channel_ends.Bad place cause
end_of (Some (Aborted place)) = channel_ends.Aborted place
end_of (Some (Truncated place)) = channel_ends.Truncated place
end_of (Some (NoEnd place)) = channel_ends.NoEnd place
end_of (Some (AfterEnd place)) = channel_ends.AfterEnd place
end_of (Some TooLong) = channel_ends.TooLong

-- what an answer says: where memory ran out, that the packets were handed on in part; else that all were, and where the
-- link didn't fail, that the channel's refusal is this one
abbrev pub Says : ChannelEnd → Option ChannelRefusal → (whole part : Type 0) → Type 0
Says channel_ends.NoMemory refusal whole part = part
Says channel_ends.Fault refusal whole part = whole
Says answer refusal whole part = whole × (answer ≡ end_of refusal)

-- what is seen of a reader's link, and the fan
pub record Seen : Type 0 where
  pub received : Option (List ℕ)
  pub ended : Bool
  pub failed_in : ℕ
  pub fan : Fan

-- by the words of a link
abbrev pub seen : {L : Type 0} → (L → Option (List ℕ)) → (L → Bool) → (L → ℕ) → L → Fan → Seen
seen received ended failed_in link fan =
    record { received = received link; ended = ended link; failed_in = failed_in link; fan = fan }

-- the count of the link's faults rose exactly at a fault, want of memory aside
abbrev pub Counts : ChannelEnd → ℕ → ℕ → Type 0
Counts channel_ends.Fault before now = Rose before now
Counts channel_ends.NoMemory before now = before ≤ now
Counts answer before now = now ≡ before

-- at a fault the link may not have come to its end, and where memory ran out either may be
abbrev pub Stops : ChannelEnd → (stopped rose : Type 0) → Type 0
Stops channel_ends.Fault stopped rose = Unit {0}
Stops channel_ends.NoMemory stopped rose = stopped ⊎ rose
Stops answer stopped rose = stopped

-- the link has received its end, or has given more bytes than a channel may have
abbrev pub HasStopped : Seen → List ℕ → Type 0
HasStopped now came = (now.ended ≡ true) ⊎ (channel_limit < length came)

-- a channel was read, and answered: the bytes that came in this call, and what the answer says by their reading
pub record Pumped (e : Expect) (before now : Seen) (answer : ChannelEnd) : Type 0 where
  pub came : List ℕ
  pub received : now.received ≡ with_appended before.received came
  pub most : length came ≤ channel_limit + 1
  pub says : Says answer (reading e came).refusal (Closes before.fan now.fan (reading e came).packets)
      (HandsOnInPart before.fan now.fan (reading e came).packets)
  pub counts : Counts answer before.failed_in now.failed_in
  pub stops : Stops answer (HasStopped now came) (Rose before.failed_in now.failed_in)

-- the first of the packets were handed on, the mark not yet
pub record HandsOnFirst (before now : Fan) (packets : List Packet) : Type 0 where
  pub handed : List Packet
  pub others : List Packet
  pub first : packets ≡ handed ++ others
  pub on : HandsOn before now handed

-- the same of a channel that was read, before the mark is given
pub record ReadOut (e : Expect) (before now : Seen) (answer : ChannelEnd) : Type 0 where
  pub came : List ℕ
  pub received : now.received ≡ with_appended before.received came
  pub most : length came ≤ channel_limit + 1
  pub says : Says answer (reading e came).refusal (HandsOn before.fan now.fan (reading e came).packets)
      (HandsOnFirst before.fan now.fan (reading e came).packets)
  pub counts : Counts answer before.failed_in now.failed_in
  pub stops : Stops answer (HasStopped now came) (Rose before.failed_in now.failed_in)
