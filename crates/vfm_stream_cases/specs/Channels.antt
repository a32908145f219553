-- The channel of a worked move with one device, as packets and as bytes, and changed copies of it.
use Rattle.std.specs.Prelude.{ℕ, ◌+◌, List, [], ◌∷◌, ◌++◌, reverse, take, drop, slice_set, slice_index_or, None}
use Rattle.vfm_types.specs.declared.desc.Desc.{Desc}
use Rattle.vfm_types.specs.declared.entry.Entry.{Entry}
use Rattle.vfm_packet.specs.Packet.{Packet}
use Rattle.vfm_packet.specs.Reading.{Reading}
use Rattle.vfm_packet.specs.Worked.{expected, expected_sealed}
use Rattle.vfm_record.specs.Record.{Record}
use Rattle.vfm_record.specs.Packing.{end_of}
use Rattle.vfm_cases.specs.One.{one, one_source}
use Rattle.vfm_streams.specs.Sent.{Sent, sent}
use Rattle.vfm_streams.specs.Packets.{packet_of, lane_packets, ended_share}
use Rattle.vfm_streams.specs.Verdict.{Verdict, verdict_on, verdict_within}

-- the source's journal, newest entry first
abbrev pub one_past : List Entry
one_past = reverse one_source

-- its packets: both pages, the block, memory's digest, the counts, the device's digest
abbrev pub one_packets : List Packet
one_packets = lane_packets one 0 (sent one one_past)

-- the bytes of its channel
abbrev pub one_channel : List ℕ
one_channel = ended_share one one_past 0

-- the packet of a record of this stream and index
abbrev pub packet_at : ℕ → ℕ → Record → Packet
packet_at stream index r = packet_of one (record { stream = stream; index = index; says = r })

-- the packets without the one at this place, and with another one there
abbrev pub without_packet : ℕ → List Packet
without_packet i = take i one_packets ++ drop (i + 1) one_packets

abbrev pub with_packet : ℕ → Packet → List Packet
with_packet i p = slice_set one_packets i p

-- the packet at this place
abbrev pub nth : ℕ → Packet
nth i = slice_index_or one_packets i (end_of 1 7)

-- a channel that was read to its end and brings these
abbrev pub channel_of : List Packet → Reading
channel_of packets = record { packets = packets; refusal = None }

-- the verdict on one sound channel that brings these packets, and on one that brings these bytes
abbrev pub judged_packets : List Packet → Verdict
judged_packets packets = verdict_on one 67108864 (channel_of packets ∷ [])

abbrev pub judged_bytes : List ℕ → Verdict
judged_bytes bytes = verdict_within 67108864 one expected (bytes ∷ [])

-- the same move in the second version of the packets
abbrev pub one_sealed : Desc
one_sealed = record one { version = 2 }

abbrev pub sealed_channel : List ℕ
sealed_channel = ended_share one_sealed one_past 0

abbrev pub judged_sealed : List ℕ → Verdict
judged_sealed bytes = verdict_within 67108864 one_sealed expected_sealed (bytes ∷ [])

-- the stream and the index of a packet, and of a record that is sent
abbrev pub place_of_packet : Packet → ℕ × ℕ
place_of_packet p = (p.head.stream, p.head.index)

abbrev pub place_of_sent : Sent → ℕ × ℕ
place_of_sent x = (x.stream, x.index)
