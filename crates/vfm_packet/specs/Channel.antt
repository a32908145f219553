-- Sound channels: data and config packets one after the other, then one end packet.
use Rattle.std.specs.Prelude.{◌≡◌, ℕ, ◌+◌, IsTrue, List, [], ◌++◌}
use Rattle.std.specs.List.{flat_map, AllByRecursion}
use Rattle.vfm_packet.specs.declared.header.Kind.{Kind}
use Rattle.vfm_packet.specs.declared.header.Kind.TheVariants.{End}
use Rattle.vfm_packet.specs.declared.answer.Expect.{Expect}
use Rattle.vfm_packet.specs.Header.{carries}
use Rattle.vfm_packet.specs.Packet.{Packet, packet_bytes, seal_len, IsSoundPacket}

-- the most bytes that a channel may have
unfoldable pub channel_limit : ℕ
channel_limit = 67108864

-- a packet that a channel may bring before its end: a sound one that carries a payload
pub record IsCarried (e : Expect) (p : Packet) : Type 0 where
  pub sound : IsSoundPacket e p
  pub carries : IsTrue (carries p.head.kind)

-- packets, one after the other
abbrev pub all_bytes : List Packet → List ℕ
all_bytes packets = flat_map packet_bytes packets

-- a sound packet of this kind stands at the start, and more follows
pub record Stands (e : Expect) (kind : Kind) (bytes more : List ℕ) : Type 0 where
  pub packet : Packet
  pub sound : IsSoundPacket e packet
  pub of_kind : packet.head.kind ≡ kind
  pub encoded : bytes ≡ packet_bytes packet ++ more

-- how many bytes an end or an abort packet has
abbrev pub mark_size : Expect → ℕ
mark_size e = 40 + seal_len e.version

-- a sound channel: data and config packets one after the other, then one end packet and nothing else
pub record IsSoundChannel (e : Expect) (bytes : List ℕ) (packets : List Packet) : Type 0 where
  pub rest : List ℕ
  pub each : AllByRecursion (IsCarried e) packets
  pub encoded : bytes ≡ all_bytes packets ++ rest
  pub ends : Stands e End rest []
