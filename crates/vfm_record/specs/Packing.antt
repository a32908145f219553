-- A record as the payload of a packet, and the packet that ends a channel.
use Rattle.std.specs.Prelude.{ℕ, [], length}
use Rattle.vfm_packet.specs.declared.header.Header.{Header}
use Rattle.vfm_packet.specs.declared.header.Kind.TheVariants.{End}
use Rattle.vfm_packet.specs.Packet.{Packet}
use Rattle.vfm_record.specs.Record.{Record, record_bytes}

-- the packet of a record: this header, with the record's length, and the record
abbrev pub record_packet : Header → Record → Packet
record_packet h r = record { head = record h { length = length (record_bytes r) }; payload = record_bytes r }

-- the packet that ends a channel of this version and session
abbrev pub end_of : ℕ → ℕ → Packet
end_of version session = record {
  head = record { version = version; kind = End; session = session; stream = 0; index = 0; length = 0 };
  payload = [];
}
