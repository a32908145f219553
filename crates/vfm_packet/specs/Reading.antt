-- What a channel brings and why it is refused, computed packet after packet.
use Rattle.std.specs.Prelude.{ℕ, suc, zero, ◌+◌, Bool, true, false, if◌then◌else◌, nat_lt, Option, Some, None, List, [], ◌∷◌, ◌++◌, length, drop}
use Rattle.vfm_packet.specs.declared.header.Header.{Header}
use Rattle.vfm_packet.specs.declared.header.Kind.{Kind}
use Rattle.vfm_packet.specs.declared.header.Kind.TheVariants.{Data, Config, End, Abort}
use Rattle.vfm_packet.specs.declared.answer.Expect.{Expect}
use Rattle.vfm_packet.specs.declared.answer.Decoded.{Decoded}
use Rattle.vfm_packet.specs.declared.answer.Decoded.TheVariants as answers
use Rattle.vfm_packet.specs.Packet.{Packet, packet_at}
use Rattle.vfm_packet.specs.Answer.{decoded}
use Rattle.vfm_packet.specs.Channel.{channel_limit}
use Rattle.vfm_packet.specs.ChannelRefusal.{ChannelRefusal, Bad, Aborted, Truncated, NoEnd, AfterEnd, TooLong, judged, is_over}

-- what a channel brings, and why it is refused, if it is
pub record Reading : Type 0 where
  pub packets : List Packet
  pub refusal : Option ChannelRefusal

-- nothing is brought
abbrev pub ends : Option ChannelRefusal → Reading
ends refusal = record { packets = []; refusal = refusal }

-- a packet is brought before the rest
abbrev pub brings : Packet → Reading → Reading
brings p r = record { packets = p ∷ r.packets; refusal = r.refusal }

-- packets are brought before the rest
abbrev pub brings_all : List Packet → Reading → Reading
brings_all ps r = record { packets = ps ++ r.packets; refusal = r.refusal }

-- the bytes end before another packet is whole
abbrev pub unfinished : Bool → ℕ → List ℕ → Option ChannelRefusal
unfinished true place rest = Some TooLong
unfinished false place [] = Some (NoEnd place)
unfinished false place (byte ∷ rest) = Some (Truncated place)

-- after an end packet
abbrev pub after_end : ℕ → Bool → ℕ → List ℕ → Option ChannelRefusal
after_end limit true place [] = Some TooLong
after_end limit false place [] = None
after_end limit over place (byte ∷ rest) = if nat_lt place limit then Some (AfterEnd place) else Some TooLong

-- what a packet at a place leads to; go reads on at a place
abbrev pub on_packet : Kind → ℕ → Bool → ℕ → List ℕ → Header → ℕ → (ℕ → List ℕ → Reading) → Reading
on_packet Data limit over place rest head used go = brings (packet_at head rest) (go (place + used) (drop used rest))
on_packet Config limit over place rest head used go = brings (packet_at head rest) (go (place + used) (drop used rest))
on_packet End limit over place rest head used go = ends (after_end limit over (place + used) (drop used rest))
on_packet Abort limit over place rest head used go = ends (Some (Aborted place))

-- what stands at a place leads to this
abbrev pub on_answer : Decoded → ℕ → Bool → ℕ → List ℕ → (ℕ → List ℕ → Reading) → Reading
on_answer (answers.Packet head used) limit over place rest go = on_packet head.kind limit over place rest head used go
on_answer answers.More limit over place rest go = ends (unfinished over place rest)
on_answer (answers.Bad cause) limit over place rest go = ends (Some (Bad place cause))

-- at most so many packets from a place on
unfoldable pub reading_of : ℕ → ℕ → Expect → Bool → ℕ → List ℕ → Reading
reading_of zero limit e over place rest = ends (unfinished over place rest)
reading_of (suc most) limit e over place rest =
    on_answer (decoded e rest) limit over place rest (λ next after. reading_of most limit e over next after)

-- the reading from a place on
abbrev pub reading_at : ℕ → Expect → Bool → ℕ → List ℕ → Reading
reading_at limit e over place rest = reading_of (length rest) limit e over place rest

-- the reading of a channel that may have so many bytes
abbrev pub reading_within : ℕ → Expect → List ℕ → Reading
reading_within limit e bytes = reading_at limit e (is_over limit bytes) 0 (judged limit bytes)

-- the reading of a channel
abbrev pub reading : Expect → List ℕ → Reading
reading e bytes = reading_within channel_limit e bytes
