-- Links that carry all that is sent bring the machine at the joint stop.
use Rattle.std.proofs.Common.{◌≡◌, ℕ, suc, ◌+◌, ◌≤◌, Bool, true, if◌then◌else◌, List, [], ◌∷◌, ◌++◌, length, map, slice_get, slice_index_or, None, IfSome, refl, sym, ap, ◌∙◌, subst, inl, inr, append-nil, zero-add, arith, eq-eqb, ◌&&◌}
use Rattle.std.specs.Prelude.{All}
use Rattle.std.specs.List.{AllByRecursion, flat_map, range_with_len}
use Rattle.std.specs.List.Sorted.{IsPermutation}
use Rattle.std.proofs.Math.Nat.{le_refl, le-suc}
use Rattle.std.proofs.lemmas.Bool.{and_parts, cases_eq, ne_eqb}
use Rattle.std.proofs.lemmas.List.{length-append}
use Rattle.std.proofs.lemmas.List.Concat.{flat_map-append, length-flat_map}
use Rattle.std.proofs.lemmas.List.Elements.{All-from_recursion, recursion_from_All}
use Rattle.std.proofs.lemmas.List.Folds.{flat_map-map}
use Rattle.std.proofs.lemmas.List.Sorted.{sum_by-IsPermutation}
use Rattle.std.proofs.lemmas.List.Sums.{sum_by-append}
use Rattle.vfm_types.specs.declared.desc.Desc.{Desc}
use Rattle.vfm_types.specs.declared.entry.Entry.{Entry}
use Rattle.vfm_types.specs.Desc.{device_count}
use Rattle.vfm_types.specs.Deliveries.{joint_machine}
use Rattle.vfm_types.specs.Phases.{is_joint, is_last_begun}
use Rattle.vfm_types.specs.Blocks.{is_no_pass_open}
use Rattle.vfm_types.specs.Valid.{IsValid}
use Rattle.vfm_plain.specs.Legal.{IsLegal}
use Rattle.vfm_plain.specs.Report.{Made, source_past}
use Rattle.vfm_packet.specs.declared.answer.Expect.{Expect}
use Rattle.vfm_packet.specs.Packet.{Packet, packet_bytes}
use Rattle.vfm_packet.specs.Channel.{IsSoundChannel, all_bytes, channel_limit}
use Rattle.vfm_packet.specs.Reading.{Reading, reading}
use Rattle.vfm_packet.proofs.Readings.{sound_reads}
use Rattle.vfm_streams.specs.Sent.{sent}
use Rattle.vfm_streams.specs.Packets.{ended_share, lane_packets}
use Rattle.vfm_streams.specs.Brought.{lane_reading, lane_readings}
use Rattle.vfm_streams.specs.Verdict.{Expects, Loads, brought, refused_channel}
use Rattle.vfm_stream_laws.proofs.SoundChannels.{end_sound, share_reads}
use Rattle.vfm_arrival.specs.Fronts.{BeginsWith, packet_limit}
use Rattle.vfm_arrival.proofs.Fronts.{front_begins, front_whole, not_over}
use Rattle.vfm_arrival.proofs.AllChannels.{together_short}
use Rattle.vfm_arrival.proofs.AnyOrder.{any_order_verdict}
use Rattle.vfm_move.specs.Contact.{Line, Lines, arrived}
use Rattle.vfm_move.specs.Table.{Whole}
use Rattle.vfm_move.specs.Carried.{ChannelsCarry, IsReadOut, expected, verdict_of}
use Rattle.vfm_move.specs.Complete.{BeginsSoundly, HasEnd, end_packet, packets_in, packets_received, packets_sent}
use Rattle.vfm_move.specs.Undisturbed.{IsWhollyCarried}

-- ---- what a destination expects

sealed_expect : Desc → Expect
sealed_expect D =
    record { version = 2; session = D.session; streams = device_count D + 1; known = (le-suc 1, le_refl 2) }

plain_expect : Desc → Expect
plain_expect D =
    record { version = 1; session = D.session; streams = device_count D + 1; known = (le_refl 1, le-suc 1) }

pub expects : (D : Desc) → IsValid D → Expects D (expected D)
unfolding sealed_expect plain_expect
expects D valid =
    elim (cases_eq D.version 2) [
      | inl two ↦
          subst (λ (b : Bool). Expects D (if b then sealed_expect D else plain_expect D)) (sym (eq-eqb D.version 2 two))
          (record { version = sym two; session = refl; streams = refl })
      | inr other ↦
          let low : 1 ≤ D.version = valid.in_range.version_low in
          let high : D.version ≤ 2 = valid.in_range.version_high in
          subst (λ (b : Bool). Expects D (if b then sealed_expect D else plain_expect D))
          (sym (ne_eqb D.version 2 other))
          (record { version = grind (arith, other); session = refl; streams = refl })
    ]

-- ---- what was sent

sent_from : (D : Desc) (past : List Entry) → IsValid D → IsLegal D past → (lines : List Line) (from : ℕ)
    → ((k : ℕ) → IfSome (slice_get lines k) (λ line. line.sent ≡ ended_share D past (from + k)))
    → flat_map (λ line. packets_in D line.sent) lines
    ≡ flat_map (λ k. lane_packets D k (sent D past)) (range_with_len from (length lines))
sent_from D past valid legal [] from each = refl
sent_from D past valid legal (line ∷ lines) from each =
    let here : line.sent ≡ ended_share D past from =
    subst (λ (n : ℕ). line.sent ≡ ended_share D past n) (omega arith) (each 0) in
    let rest = sent_from D past valid legal lines (from + 1)
    (λ k. subst (λ (n : ℕ). IfSome (slice_get lines k) (λ l. l.sent ≡ ended_share D past n)) (omega arith)
    (each (suc k))) in
    ap (λ (bytes : List ℕ). packets_in D bytes ++ flat_map (λ l. packets_in D l.sent) lines) here
    ∙ ap (λ (r : Reading). r.packets ++ flat_map (λ l. packets_in D l.sent) lines)
    (share_reads D past (expected D) from valid legal (expects D valid))
    ∙ ap (λ (ps : List Packet). lane_packets D from (sent D past) ++ ps) rest

-- the packets that the source's channels have sent are those of all lanes
pub sent_lanes : (made : Made) (lines : Lines) → IsValid made.desc → IsLegal made.desc (source_past made)
    → ChannelsCarry Whole made lines
    → length lines.source ≡ made.desc.channels
    → packets_sent made.desc lines ≡ brought (lane_readings made.desc (sent made.desc (source_past made)))
sent_lanes made lines valid legal carry count =
    sent_from made.desc (source_past made) valid legal lines.source 0
    (λ k. subst
    (λ (n : ℕ). IfSome (slice_get lines.source k) (λ line. line.sent ≡ ended_share made.desc (source_past made) n))
    (sym (zero-add k)) (carry k))
    ∙ ap
    (λ (n : ℕ). flat_map (λ k. lane_packets made.desc k (sent made.desc (source_past made))) (range_with_len 0 n)) count
    ∙ sym (flat_map-map (λ (r : Reading). r.packets) (lane_reading made.desc (sent made.desc (source_past made)))
    (range_with_len 0 made.desc.channels))

-- ---- how much was received

cost : Packet → ℕ
cost p = length (packet_bytes p)

-- what was received is no more than what was sent
fewer : (received missing packets : List Packet) → IsPermutation (received ++ missing) packets
    → length (all_bytes received) ≤ length (all_bytes packets)
fewer received missing packets among =
    let ours = length-flat_map packet_bytes received in
    let theirs = length-flat_map packet_bytes packets in
    let both = sum_by-append (λ (p : Packet). length (packet_bytes p)) received missing in
    let same = sum_by-IsPermutation (λ (p : Packet). length (packet_bytes p)) (received ++ missing) packets among in
    omega arith

-- so what one channel received is no more than that
each_within : (D : Desc) (n : ℕ) (lines : List Line)
    → length (all_bytes (flat_map (λ line. packets_in D line.received) lines)) ≤ n
    → AllByRecursion (λ line. length (all_bytes (packets_in D line.received)) ≤ n) lines
each_within D n [] few = tt
each_within D n (line ∷ lines) few =
    let both : length (all_bytes (flat_map (λ l. packets_in D l.received) (line ∷ lines)))
    ≡ length (all_bytes (packets_in D line.received))
    + length (all_bytes (flat_map (λ l. packets_in D l.received) lines)) =
    ap (length {A = ℕ})
    (flat_map-append packet_bytes (packets_in D line.received) (flat_map (λ l. packets_in D l.received) lines))
    ∙ length-append (all_bytes (packets_in D line.received))
    (all_bytes (flat_map (λ l. packets_in D l.received) lines)) in
    (omega arith, each_within D n lines (omega arith))

room : (n : ℕ) → n ≤ 53000000 → n + packet_limit ≤ channel_limit
unfolding channel_limit
room n few = omega arith

-- ---- one channel

-- the packets of a channel that began soundly
begins : (D : Desc) (bytes : List ℕ) → BeginsSoundly D bytes
    → BeginsWith channel_limit (expected D) bytes (packets_in D bytes)
begins D bytes soundly =
    front_begins channel_limit (expected D) bytes soundly.front.rest soundly.packets
    (subst (λ (l : List ℕ). IsSoundChannel (expected D) l soundly.packets) soundly.front.is soundly.sound)

has_ended : (D : Desc) (line : Line) → BeginsSoundly D line.received
    → length (all_bytes (packets_in D line.received)) ≤ 53000000
    → IsReadOut line → line.ended ≡ true
has_ended D line soundly few (inl ended) = ended
has_ended D line soundly few (inr over) =
    let within = not_over channel_limit (expected D) line.received (packets_in D line.received)
    (begins D line.received soundly)
    (room (length (all_bytes (packets_in D line.received))) few) in
    absurd (omega arith)

reads_whole : (D : Desc) (line : Line) → IsValid D → BeginsSoundly D line.received
    → length (all_bytes (packets_in D line.received)) ≤ 53000000
    → HasEnd D line → (reading (expected D) line.received).refusal ≡ None
reads_whole D line valid soundly few has =
    let ps = packets_in D line.received in
    let fits = room (length (all_bytes (packets_in D line.received))) few in
    let found = begins D line.received soundly in
    let whole = front_whole channel_limit (expected D) line.received (packets_in D line.received)
    (end_packet D) found fits
    (end_sound D (expected D) valid (expects D valid)) refl has in
    ap (λ (r : Reading). r.refusal)
    (sound_reads channel_limit (expected D) line.received (packets_in D line.received) whole
    (not_over channel_limit (expected D) line.received (packets_in D line.received) found fits))

-- ---- all channels

unrefused : (D : Desc) (lines : List Line) (k : ℕ)
    → AllByRecursion (λ line. (reading (expected D) line.received).refusal ≡ None) lines
    → refused_channel channel_limit k (map (reading (expected D)) (map (λ line. line.received) lines)) ≡ None
unrefused D [] k each = refl
unrefused D (line ∷ lines) k each = rw each.0 (unrefused D lines (k + 1) each.1)

came : (D : Desc) (lines : List Line)
    → brought (map (reading (expected D)) (map (λ line. line.received) lines))
    ≡ flat_map (λ line. packets_in D line.received) lines
came D [] = refl
came D (line ∷ lines) = ap (λ (ps : List Packet). packets_in D line.received ++ ps) (came D lines)

-- ---- all that was sent came

module _ (made : Made) (lines : Lines) (is : IsWhollyCarried made lines) where
  sent_is : packets_sent made.desc lines ≡ brought (lane_readings made.desc (sent made.desc (source_past made)))
  sent_is = sent_lanes made lines is.valid is.copied.legal is.sent is.channels

  few_came : length (all_bytes (packets_received made.desc lines)) ≤ 53000000
  few_came =
      let less = fewer (packets_received made.desc lines) is.carry.missing
      (packets_sent made.desc lines) is.carry.among in
      let total : length (all_bytes (packets_sent made.desc lines))
      ≡ length (all_bytes (brought (lane_readings made.desc (sent made.desc (source_past made))))) =
      ap (λ (ps : List Packet). length (all_bytes ps)) sent_is in
      let short = together_short made.desc (source_past made) is.valid is.copied.legal in
      omega arith

  few_each : All (λ line. length (all_bytes (packets_in made.desc line.received)) ≤ 53000000) lines.dest
  few_each =
      All-from_recursion
      (λ (line : Line). length (all_bytes (packets_in made.desc line.received)) ≤ 53000000) lines.dest
      (each_within made.desc 53000000 lines.dest few_came)

  -- every channel that was read out has ended
  pub all_ended : All IsReadOut lines.dest → All (λ line. line.ended ≡ true) lines.dest
  all_ended out k d inside =
      has_ended made.desc (slice_index_or lines.dest k d) (is.carry.sound k d inside) (few_each k d inside)
      (out k d inside)

  -- with the packet that ends it
  all_whole : All IsReadOut lines.dest
      → All (λ line. (reading (expected made.desc) line.received).refusal ≡ None) lines.dest
  all_whole out k d inside =
      reads_whole made.desc (slice_index_or lines.dest k d) is.valid (is.carry.sound k d inside) (few_each k d inside)
      (is.carry.ends k d inside (all_ended out k d inside))

  order : All IsReadOut lines.dest → IsPermutation (packets_received made.desc lines) (packets_sent made.desc lines)
  order out =
      subst (λ (l : List Packet). IsPermutation l (packets_sent made.desc lines))
      (ap (λ (m : List Packet). packets_received made.desc lines ++ m) (is.carry.all (all_ended out))
      ∙ append-nil (packets_received made.desc lines)) is.carry.among

  -- and they bring the machine at the joint stop
  pub verdict_is_joint : All IsReadOut lines.dest
      → verdict_of made lines ≡ Loads (joint_machine made.desc (source_past made))
  verdict_is_joint out =
      let last = and_parts (is_joint (source_past made) && is_last_begun (source_past made))
      (is_no_pass_open made.desc (source_past made)) is.copied.ended in
      any_order_verdict made.desc (source_past made) (expected made.desc) (arrived lines) is.valid is.copied.legal
      (and_parts (is_joint (source_past made)) (is_last_begun (source_past made)) last.0).1 last.1
      (unrefused made.desc lines.dest 0
      (recursion_from_All (λ (line : Line). (reading (expected made.desc) line.received).refusal ≡ None) lines.dest
      (all_whole out)))
      (subst
      (λ (l : List Packet). IsPermutation l (brought (lane_readings made.desc (sent made.desc (source_past made)))))
      (sym (came made.desc lines.dest))
      (subst (IsPermutation (packets_received made.desc lines)) sent_is (order out)))
