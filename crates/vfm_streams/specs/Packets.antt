-- What is sent as packets, and which channel carries each.
use Rattle.std.specs.Prelude.{ℕ, ◌==◌, List, ◌++◌, map, filter, reverse}
use Rattle.vfm_types.specs.declared.entry.Entry.{Entry}
use Rattle.vfm_types.specs.declared.desc.Desc.{Desc}
use Rattle.vfm_packet.specs.declared.header.Kind.{Kind}
use Rattle.vfm_packet.specs.declared.header.Kind.TheVariants as kinds
use Rattle.vfm_packet.specs.declared.header.Header.{Header}
use Rattle.vfm_packet.specs.Packet.{Packet, packet_bytes}
use Rattle.vfm_packet.specs.Channel.{all_bytes}
use Rattle.vfm_record.specs.Record.{Record, Page, Block, Engine, Pending, Config}
use Rattle.vfm_record.specs.Packing.{record_packet, end_of}
use Rattle.vfm_send.specs.Lanes.{lane}
use Rattle.vfm_streams.specs.Sent.{Sent, sent}

-- a stream ends with its digest in a config packet; every other record goes in a data packet
abbrev pub kind_of : Record → Kind
kind_of (Page p bytes) = kinds.Data
kind_of (Block b bytes) = kinds.Data
kind_of (Engine accepted done lost pend buf) = kinds.Data
kind_of (Pending pairs) = kinds.Data
kind_of (Config digest) = kinds.Config

-- the header of a record that is sent; its length is the record's
abbrev pub head_of : Desc → Sent → Header
head_of D x =
    record {
      version = D.version;
      kind = kind_of x.says;
      session = D.session;
      stream = x.stream;
      index = x.index;
      length = 0;
    }

-- its packet
abbrev pub packet_of : Desc → Sent → Packet
packet_of D x = record_packet (head_of D x) x.says

-- the channel that carries it
abbrev pub lane_of : Desc → Sent → ℕ
lane_of D x = lane x.stream x.index D.channels

-- the packets of a channel, in the order in which they are sent
abbrev pub lane_packets : Desc → ℕ → List Sent → List Packet
lane_packets D k all = map (packet_of D) (reverse (filter (λ x. lane_of D x == k) all))

-- the bytes of channel k, without the packet that ends it
abbrev pub share : Desc → List Entry → ℕ → List ℕ
share D past k = all_bytes (lane_packets D k (sent D past))

-- the bytes of channel k
abbrev pub ended_share : Desc → List Entry → ℕ → List ℕ
ended_share D past k = share D past k ++ packet_bytes (end_of D.version D.session)
