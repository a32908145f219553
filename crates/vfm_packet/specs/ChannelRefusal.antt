-- Refused channels: why, and at which place.
use Rattle.std.specs.Prelude.{◌≡◌, ℕ, ◌+◌, ◌<◌, ◌≤◌, ◌⊎◌, Bool, true, false, nat_lt, Option, Some, None, List, [], ◌∷◌, ◌++◌, length, take}
use Rattle.std.specs.List.{AllByRecursion}
use Rattle.vfm_packet.specs.declared.header.Kind.TheVariants.{End, Abort}
use Rattle.vfm_packet.specs.declared.answer.Expect.{Expect}
use Rattle.vfm_packet.specs.declared.answer.Cause.{Cause}
use Rattle.vfm_packet.specs.Packet.{Packet}
use Rattle.vfm_packet.specs.Answer.{IsPartial, IsRefused}
use Rattle.vfm_packet.specs.Channel.{IsCarried, all_bytes, Stands, mark_size}

-- why a channel is refused, and the place: the offset of the first byte that isn't part of a packet before it
pub data ChannelRefusal : Type 0 where
  -- forty bytes that are no sound header, or a whole packet with another seal
  Bad : ℕ → Cause → ChannelRefusal
  -- an abort packet
  Aborted : ℕ → ChannelRefusal
  -- fewer bytes than a whole packet before the channel's end
  Truncated : ℕ → ChannelRefusal
  -- the channel's end, with no end packet before it
  NoEnd : ℕ → ChannelRefusal
  -- a byte after the end packet
  AfterEnd : ℕ → ChannelRefusal
  -- more bytes than a channel may have
  TooLong : ChannelRefusal

-- what of a channel is judged: no more than one byte past the limit
abbrev pub judged : ℕ → List ℕ → List ℕ
judged limit bytes = take (limit + 1) bytes

-- the channel has more bytes than the limit, so the end of what is judged isn't its end
abbrev pub is_over : ℕ → List ℕ → Bool
is_over limit bytes = nat_lt limit (length bytes)

-- the channel passes the limit before it is refused otherwise: the packet at the place isn't whole in what is judged,
-- or it is an end packet that reaches the limit
abbrev pub PassesLimit : ℕ → Expect → ℕ → List ℕ → Type 0
PassesLimit limit e place rest = IsPartial e rest ⊎ ((more : List ℕ) × Stands e End rest more × (limit ≤ place + mark_size e))

-- what the rest of what is judged, after the packets and from a place on, says of the channel
abbrev pub IsVerdict : ℕ → Expect → Bool → ℕ → List ℕ → Option ChannelRefusal → Type 0
IsVerdict limit e over place rest None = (over ≡ false) × Stands e End rest []
IsVerdict limit e over place rest (Some (Bad at cause)) = (at ≡ place) × IsRefused e rest cause
IsVerdict limit e over place rest (Some (Aborted at)) = (at ≡ place) × ((more : List ℕ) × Stands e Abort rest more)
IsVerdict limit e over place rest (Some (Truncated at)) = (at ≡ place) × (over ≡ false) × (0 < length rest) × IsPartial e rest
IsVerdict limit e over place rest (Some (NoEnd at)) = (at ≡ place) × (over ≡ false) × (rest ≡ [])
IsVerdict limit e over place rest (Some (AfterEnd at)) =
    (at ≡ place + mark_size e) × (at < limit) × ((byte : ℕ) × (more : List ℕ) × Stands e End rest (byte ∷ more))
IsVerdict limit e over place rest (Some TooLong) = (over ≡ true) × PassesLimit limit e place rest

-- a reading of a channel: the packets before the first place where it isn't sound, and what is wrong there, if anything is
pub record IsReading (limit : ℕ) (e : Expect) (bytes : List ℕ) (packets : List Packet) (refusal : Option ChannelRefusal) : Type 0 where
  pub rest : List ℕ
  pub each : AllByRecursion (IsCarried e) packets
  pub encoded : judged limit bytes ≡ all_bytes packets ++ rest
  pub verdict : IsVerdict limit e (is_over limit bytes) (length (all_bytes packets)) rest refusal
