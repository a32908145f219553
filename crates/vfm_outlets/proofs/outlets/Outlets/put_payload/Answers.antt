use Rattle.std.proofs.Common.{◌≡◌, ◌∙◌, refl, sym, ap, ap₂, ℕ, None, List, length, map, slice_index_or, slice_set, rules, arith}
use Rattle.std.specs.Vec.{with_items}
use Rattle.vfm_outside.specs.Told.{with_appended}
use Rattle.vfm_packet.specs.Packet.{Packet, packet_bytes}
use Rattle.vfm_packet.specs.declared.header.Kind.{Kind}
use Rattle.vfm_record.specs.Record.{record_bytes}
use Rattle.vfm_send.specs.Lanes.{lane}
use Rattle.vfm_send.specs.Sends.{given, link_of}
use Rattle.vfm_send.specs.declared.sender.Sender.{Sender}
use Rattle.vfm_streams.specs.Packets.{kind_of}
use Rattle.vfm_outlets.proofs.Given.{refilled}
use Rattle.vfm_outlets.proofs.Shares.{carries_more}
use Rattle.vfm_outlets.proofs.outlets.Outlets.put_payload.Goals as goal

pub returns-clause-put : goal.returns-clause-put
returns-clause-put g c = λ D starts all r bytes kind carried.
    let old : c.deref_mut.result.now ≡ c.args.self.now.senders.items = c.deref_mut.ensures.value in
    let items : (with_items c.args.self.now.senders c.put_into.new.senders).items ≡ c.put_into.new.senders =
    refilled c.args.self.now.senders c.put_into.new.senders (c.put_into.ensures.count ∙ ap length old) in
    let packet_with : Kind → ℕ → List ℕ → Packet = λ k n payload. record {
      head = record {
        version = c.args.self.now.version;
        kind = k;
        session = c.args.self.now.session;
        stream = c.args.stream;
        index = slice_index_or c.args.self.now.counts c.args.stream 0;
        length = n;
      };
      payload = payload;
    } in
    let len : c.len-2.result ≡ length (record_bytes r) = search (rules, arith) in
    let packet : packet_with c.args.kind c.len-2.result c.deref.result.now ≡ packet_with (kind_of r) (length (record_bytes r)) (record_bytes r) =
    ap (λ (k : Kind). packet_with k c.len-2.result c.deref.result.now) (sym kind)
    ∙ ap₂ (λ (n : ℕ) (payload : List ℕ). packet_with (kind_of r) n payload) len (c.deref.ensures.value ∙ sym bytes) in
    carries_more g.L.Link.sent D starts all c.args.self.now _ c.args.stream r c.lane-channel.result carried c.requires.stream
    (search (rules, arith))
    (c.lane-channel.ensures.value ∙ ap (λ (n : ℕ). lane c.args.stream (slice_index_or c.args.self.now.counts c.args.stream 0) n) (search (rules, arith)))
    (search (rules, arith))
    (ap (map (given g.L.Link.sent)) items
    ∙ c.in_ok-put_into.ensures.put
    ∙ ap₂ (λ (senders : List (Sender g.row.L.Denot)) (p : Packet). slice_set (map (given g.L.Link.sent) senders) c.lane-channel.result
    (with_appended (slice_index_or (map (given g.L.Link.sent) senders) c.lane-channel.result None) (packet_bytes p))) old packet)
    (ap length items ∙ c.put_into.ensures.count ∙ ap length old)
    (ap (map link_of) items ∙ c.put_into.ensures.links ∙ ap (map link_of) old)
    refl refl refl
