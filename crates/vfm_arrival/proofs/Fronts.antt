-- A front of a sound channel is read as the packets that are whole in it.
use Rattle.std.proofs.Common.{◌≡◌, ℕ, ◌+◌, ◌<◌, ◌≤◌, Bool, true, false, List, [], ◌∷◌, ◌++◌, length, take, drop, refl, sym, ap, subst, ◌∙◌, inl, inr, append_assoc, append-nil, arith}
use Rattle.std.specs.List.{AllByRecursion}
use Rattle.std.proofs.lemmas.Bool.{cases_eq, cases_lt, ne_eqb}
use Rattle.std.proofs.lemmas.List.{drop-append-le, drop_at, length-append, length-take, take-append-drop, take-append-le, take_at}
use Rattle.vfm_packet.specs.declared.header.Header.{Header}
use Rattle.vfm_packet.specs.declared.header.Kind.TheVariants.{End}
use Rattle.vfm_packet.specs.declared.answer.Expect.{Expect}
use Rattle.vfm_packet.specs.Header.{HasHeaderShape, carries, head_bytes}
use Rattle.vfm_packet.specs.Packet.{IsSoundPacket, Packet, packet_bytes, packet_size, seal, seal_len}
use Rattle.vfm_packet.specs.Answer.{IsPartial, decoded}
use Rattle.vfm_packet.specs.Channel.{IsCarried, IsSoundChannel, all_bytes}
use Rattle.vfm_packet.specs.ChannelRefusal.{is_over, judged}
use Rattle.vfm_packet.specs.Reading.{Reading, reading_at, reading_within}
use Rattle.vfm_packet.proofs.Words.{length-head_bytes}
use Rattle.vfm_packet.proofs.Decoding.{partial_reads}
use Rattle.vfm_packet.proofs.Packets.{length-packet_bytes, packet_again}
use Rattle.vfm_packet.proofs.Channels.{goes_on, step_end, step_more}
use Rattle.vfm_packet.proofs.Readings.{judged_all}
use Rattle.vfm_arrival.specs.Fronts.{BeginsWith, packet_limit}

-- ---- lists that are put together in two ways

parts : (x y a b : List ℕ) → x ++ y ≡ a ++ b → length x ≤ length a
    → (a ≡ x ++ drop (length x) a) × (y ≡ drop (length x) a ++ b)
parts x y a b same within = (
  sym (take-append-drop (length x) a)
      ∙ ap (λ (l : List ℕ). l ++ drop (length x) a)
      (sym (take-append-le (length x) a b within) ∙ ap (take (length x)) (sym same) ∙ take_at x y (length x) refl),
  sym (drop_at x y (length x) refl) ∙ ap (drop (length x)) same ∙ drop-append-le (length x) a b within,
)

-- ---- one packet

payload_high : (b : Bool) (h : Header) → HasHeaderShape b h → h.length ≤ 65536
payload_high true h shape = shape.1
payload_high false h shape = omega (arith, shape.2)

seal_short : (version : ℕ) → seal_len version ≤ 32
seal_short version =
    elim (cases_eq version 2) [
      | inl two ↦ rw two (omega arith)
      | inr other ↦ rw (ne_eqb version 2 other) (omega arith)
    ]

pub packet_short : (e : Expect) (p : Packet) → IsSoundPacket e p → length (packet_bytes p) ≤ packet_limit
packet_short e p is =
    omega (
      arith,
      length-packet_bytes p is.len,
      seal_short p.head.version,
      payload_high (carries p.head.kind) p.head is.head.header.shape,
    )

-- less than a packet is no packet
cut_packet : (e : Expect) (p : Packet) (front rest : List ℕ) → IsSoundPacket e p → packet_bytes p ≡ front ++ rest
    → 0 < length rest
    → IsPartial e front
cut_packet e p front rest is same some =
    elim (cases_lt (length front) 40) [
      | inl few ↦ inl few
      | inr long ↦
          let size : length (packet_bytes p) ≡ packet_size p.head = length-packet_bytes p is.len in
          let both : length (packet_bytes p) ≡ length front + length rest = ap length same ∙ length-append front rest in
          inr (record {
            head = p.head;
            header = record {
              sound = is.head;
              encoded =
                  sym (take-append-le 40 front rest long) ∙ ap (take 40) (sym same)
                  ∙ ap (take 40) (append_assoc (head_bytes p.head) p.payload (seal p))
                  ∙ take_at (head_bytes p.head) (p.payload ++ seal p) 40 (length-head_bytes p.head);
            };
            short = omega arith;
          })
    ]

stops_at_piece : (e : Expect) (p : Packet) (front rest : List ℕ) (limit : ℕ) (over : Bool) (place : ℕ)
    → IsSoundPacket e p
    → packet_bytes p ≡ front ++ rest → 0 < length rest → (reading_at limit e over place front).packets ≡ []
stops_at_piece e p front rest limit over place is same some =
    ap (λ (r : Reading). r.packets)
    (step_more limit e over place front (partial_reads e front (cut_packet e p front rest is same some)))

stops_at_end : (e : Expect) (q : Packet) (limit : ℕ) (over : Bool) (place : ℕ) → IsSoundPacket e q → q.head.kind ≡ End
    → (reading_at limit e over place (packet_bytes q)).packets ≡ []
stops_at_end e q limit over place is kind =
    ap (λ (r : Reading). r.packets)
    (step_end limit e over place (packet_bytes q) q.head (packet_size q.head)
    (sym (ap (decoded e) (append-nil (packet_bytes q))) ∙ packet_again e q [] is) kind)

-- ---- packet by packet

-- the packets that are whole in some bytes, and the piece behind them
record IsRead (e : Expect) (bytes : List ℕ) : Type 0 where
  packets : List Packet
  piece : List ℕ
  each : AllByRecursion (IsCarried e) packets
  encoded : bytes ≡ all_bytes packets ++ piece
  short : length piece ≤ packet_limit
  stops : (limit : ℕ) (over : Bool) (place : ℕ) → (reading_at limit e over place piece).packets ≡ []

ends_read : (e : Expect) (q : Packet) (bytes rest : List ℕ) → IsSoundPacket e q → q.head.kind ≡ End
    → packet_bytes q ≡ bytes ++ rest
    → IsRead e bytes
ends_read e q bytes [] is kind same =
    let whole : packet_bytes q ≡ bytes = same ∙ append-nil bytes in
    record {
      packets = [];
      piece = bytes;
      each = tt;
      encoded = refl;
      short = subst (λ (l : List ℕ). length l ≤ packet_limit) whole (packet_short e q is);
      stops = λ limit over place.
          subst (λ (l : List ℕ). (reading_at limit e over place l).packets ≡ []) whole
          (stops_at_end e q limit over place is kind);
    }
ends_read e q bytes (b ∷ rest) is kind same =
    let both : length (packet_bytes q) ≡ length bytes + length (b ∷ rest) =
    ap length same ∙ length-append bytes (b ∷ rest) in
    record {
      packets = [];
      piece = bytes;
      each = tt;
      encoded = refl;
      short = omega (arith, packet_short e q is);
      stops = λ limit over place. stops_at_piece e q bytes (b ∷ rest) limit over place is same (omega arith);
    }

piece_read : (e : Expect) (p : Packet) (bytes rest : List ℕ) → IsSoundPacket e p → packet_bytes p ≡ bytes ++ rest
    → 0 < length rest
    → IsRead e bytes
piece_read e p bytes rest is same some =
    let both : length (packet_bytes p) ≡ length bytes + length rest = ap length same ∙ length-append bytes rest in
    record {
      packets = [];
      piece = bytes;
      each = tt;
      encoded = refl;
      short = omega (arith, packet_short e p is);
      stops = λ limit over place. stops_at_piece e p bytes rest limit over place is same some;
    }

one_more : (e : Expect) (p : Packet) (bytes after : List ℕ) → IsCarried e p → bytes ≡ packet_bytes p ++ after
    → IsRead e after → IsRead e bytes
one_more e p bytes after is same read =
    record {
      packets = p ∷ read.packets;
      piece = read.piece;
      each = (is, read.each);
      encoded = same ∙ ap (λ (l : List ℕ). packet_bytes p ++ l) read.encoded
          ∙ sym (append_assoc (packet_bytes p) (all_bytes read.packets) read.piece);
      short = read.short;
      stops = read.stops;
    }

front_read : (e : Expect) (q : Packet) (packets : List Packet) (bytes rest : List ℕ) → IsSoundPacket e q
    → q.head.kind ≡ End
    → AllByRecursion (IsCarried e) packets → all_bytes packets ++ packet_bytes q ≡ bytes ++ rest → IsRead e bytes
front_read e q [] bytes rest is kind each same = ends_read e q bytes rest is kind same
front_read e q (p ∷ packets) bytes rest is kind each same =
    let apart : packet_bytes p ++ (all_bytes packets ++ packet_bytes q) ≡ bytes ++ rest =
    sym (append_assoc (packet_bytes p) (all_bytes packets) (packet_bytes q)) ∙ same in
    elim (cases_lt (length bytes) (length (packet_bytes p))) [
      | inl cut ↦
          let first = parts bytes rest (packet_bytes p) (all_bytes packets ++ packet_bytes q) (sym apart)
          (omega arith) in
          let both : length (packet_bytes p) ≡ length bytes + length (drop (length bytes) (packet_bytes p)) =
          ap length first.0 ∙ length-append bytes (drop (length bytes) (packet_bytes p)) in
          piece_read e p bytes (drop (length bytes) (packet_bytes p)) each.0.sound first.0 (omega arith)
      | inr whole ↦
          let first = parts (packet_bytes p) (all_bytes packets ++ packet_bytes q) bytes rest apart whole in
          one_more e p bytes (drop (length (packet_bytes p)) bytes) each.0 first.0
          (front_read e q packets (drop (length (packet_bytes p)) bytes) rest is kind each.1 first.1)
    ]

-- ---- as a channel is read

packets_are : (limit : ℕ) (e : Expect) (bytes : List ℕ) (read : IsRead e (judged limit bytes))
    → (reading_within limit e bytes).packets ≡ read.packets
packets_are limit e bytes read =
    ap (λ (l : List ℕ). (reading_at limit e (is_over limit bytes) 0 l).packets) read.encoded
    ∙ ap (λ (r : Reading). r.packets) (goes_on read.packets limit e (is_over limit bytes) 0 read.piece read.each)
    ∙ ap (λ (l : List Packet). read.packets ++ l)
    (read.stops limit (is_over limit bytes) (0 + length (all_bytes read.packets)))
    ∙ append-nil read.packets

-- what is judged of some bytes comes first
judged_first : (limit : ℕ) (bytes rest : List ℕ)
    → bytes ++ rest ≡ judged limit bytes ++ (drop (limit + 1) bytes ++ rest)
judged_first limit bytes rest =
    ap (λ (l : List ℕ). l ++ rest) (sym (take-append-drop (limit + 1) bytes))
    ∙ append_assoc (take (limit + 1) bytes) (drop (limit + 1) bytes) rest

-- a sound channel is its packets and the one that ends it
whole_channel : (e : Expect) (bytes : List ℕ) (packets : List Packet) (is : IsSoundChannel e bytes packets)
    → all_bytes packets ++ packet_bytes is.ends.packet ≡ bytes
whole_channel e bytes packets is =
    ap (λ (l : List ℕ). all_bytes packets ++ l) (sym (append-nil (packet_bytes is.ends.packet)) ∙ sym is.ends.encoded)
    ∙ sym is.encoded

pub front_begins : (limit : ℕ) (e : Expect) (bytes rest : List ℕ) (packets : List Packet)
    → IsSoundChannel e (bytes ++ rest) packets
    → BeginsWith limit e bytes (reading_within limit e bytes).packets
front_begins limit e bytes rest packets is =
    let read = front_read e is.ends.packet packets (judged limit bytes)
    (drop (limit + 1) bytes ++ rest) is.ends.sound is.ends.of_kind is.each
    (whole_channel e (bytes ++ rest) packets is ∙ judged_first limit bytes rest) in
    as_read limit e bytes read
  where
    as_read : (limit : ℕ) (e : Expect) (bytes : List ℕ) → IsRead e (judged limit bytes)
        → BeginsWith limit e bytes (reading_within limit e bytes).packets
    as_read limit e bytes read =
        let same = sym (packets_are limit e bytes read) in
        record {
          piece = read.piece;
          each = subst (AllByRecursion (IsCarried e)) same read.each;
          encoded = read.encoded ∙ ap (λ (ps : List Packet). all_bytes ps ++ read.piece) same;
          short = read.short;
        }

-- ---- to the end

-- a front that isn't longer than the packets and one more may be stays within the limit
pub not_over : (limit : ℕ) (e : Expect) (bytes : List ℕ) (packets : List Packet) → BeginsWith limit e bytes packets
    → length (all_bytes packets) + packet_limit ≤ limit → length bytes ≤ limit
not_over limit e bytes packets begins few =
    elim (cases_lt limit (length bytes)) [
      | inl over ↦
          let judged_ : length (judged limit bytes) ≡ length (all_bytes packets) + length begins.piece =
          ap length begins.encoded ∙ length-append (all_bytes packets) begins.piece in
          absurd (omega (arith, length-take (limit + 1) bytes, begins.short))
      | inr within ↦ within
    ]

-- where the packet that ends the channel stands behind the packets, the channel came whole
pub front_whole : (limit : ℕ) (e : Expect) (bytes : List ℕ) (packets : List Packet) (q : Packet)
    → BeginsWith limit e bytes packets
    → length (all_bytes packets) + packet_limit ≤ limit → IsSoundPacket e q → q.head.kind ≡ End
    → drop (length (all_bytes packets)) bytes ≡ packet_bytes q → IsSoundChannel e bytes packets
front_whole limit e bytes packets q begins few is kind behind =
    let within = not_over limit e bytes packets begins few in
    let encoded : bytes ≡ all_bytes packets ++ begins.piece =
    sym (judged_all limit bytes (omega arith)) ∙ begins.encoded in
    let piece : begins.piece ≡ packet_bytes q =
    sym (drop_at (all_bytes packets) begins.piece (length (all_bytes packets)) refl)
    ∙ ap (drop (length (all_bytes packets))) (sym encoded) ∙ behind in
    record {
      rest = packet_bytes q;
      each = begins.each;
      encoded = encoded ∙ ap (λ (l : List ℕ). all_bytes packets ++ l) piece;
      ends = record { packet = q; sound = is; of_kind = kind; encoded = sym (append-nil (packet_bytes q)) };
    }
