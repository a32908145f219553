-- Packets that are whole, with nothing after them.
use Rattle.std.specs.Prelude.{◌≡◌, ℕ, List, length}
use Rattle.vfm_packet.specs.declared.header.Header.{Header}
use Rattle.vfm_packet.specs.declared.answer.Expect.{Expect}
use Rattle.vfm_packet.specs.Packet.{packet_size}
use Rattle.vfm_packet.specs.Answer.{BeginsWith}

-- no byte stands after a packet that is whole
abbrev pub IsExact : Expect → List ℕ → Type 0
IsExact e bytes = (head : Header) → BeginsWith e bytes head → packet_size head ≡ length bytes
