-- What is read of a channel of which a front has come.
use Rattle.std.specs.Prelude.{◌≡◌, ℕ, ◌≤◌, List, ◌++◌, length}
use Rattle.std.specs.List.{AllByRecursion}
use Rattle.vfm_packet.specs.declared.answer.Expect.{Expect}
use Rattle.vfm_packet.specs.Packet.{Packet}
use Rattle.vfm_packet.specs.Channel.{IsCarried, all_bytes}
use Rattle.vfm_packet.specs.ChannelRefusal.{judged}

-- the most bytes that a packet has: its header, the longest payload and a seal
abbrev pub packet_limit : ℕ
packet_limit = 65608

-- Of what is judged of some bytes these packets come first, whole and sound; no more stands behind them than a packet
-- has.
pub record BeginsWith (limit : ℕ) (e : Expect) (bytes : List ℕ) (packets : List Packet) : Type 0 where
  pub piece : List ℕ
  pub each : AllByRecursion (IsCarried e) packets
  pub encoded : judged limit bytes ≡ all_bytes packets ++ piece
  pub short : length piece ≤ packet_limit
