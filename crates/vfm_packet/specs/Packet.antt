-- A whole packet: its header, its payload, and the seal that follows the payload.
use Rattle.std.specs.Prelude.{◌≡◌, ℕ, ◌+◌, ◌==◌, if◌then◌else◌, List, ◌++◌, length, take, drop}
use Rattle.sha2.specs.Sha256.{sha256}
use Rattle.vfm_packet.specs.declared.header.Header.{Header}
use Rattle.vfm_packet.specs.declared.answer.Expect.{Expect}
use Rattle.vfm_packet.specs.Header.{head_bytes}
use Rattle.vfm_packet.specs.Sound.{IsSound}

-- a packet: a header and its payload
pub record Packet : Type 0 where
  pub head : Header
  pub payload : List ℕ

-- the SHA-256 (FIPS 180-4) of header and payload
abbrev pub packet_digest : Packet → List ℕ
packet_digest p = sha256 (head_bytes p.head ++ p.payload)

-- how many bytes of that digest follow the payload: none in version 1, all of them in version 2
abbrev pub seal_len : ℕ → ℕ
seal_len version = if version == 2 then 32 else 0

-- the bytes that follow the payload
abbrev pub seal : Packet → List ℕ
seal p = take (seal_len p.head.version) (packet_digest p)

-- the bytes of a packet
abbrev pub packet_bytes : Packet → List ℕ
packet_bytes p = head_bytes p.head ++ p.payload ++ seal p

-- how many bytes a packet with this header has
abbrev pub packet_size : Header → ℕ
packet_size h = 40 + h.length + seal_len h.version

-- a packet is sound where its header is, and the payload is as long as the header says
pub record IsSoundPacket (e : Expect) (p : Packet) : Type 0 where
  pub head : IsSound e p.head
  pub len : length p.payload ≡ p.head.length

-- the packet with this header at the start of some bytes
abbrev pub packet_at : Header → List ℕ → Packet
packet_at head bytes = record { head = head; payload = take head.length (drop 40 bytes) }
